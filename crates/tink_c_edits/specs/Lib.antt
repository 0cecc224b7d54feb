pub mod FileListed
