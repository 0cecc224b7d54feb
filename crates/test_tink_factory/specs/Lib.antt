pub mod TestKeys
