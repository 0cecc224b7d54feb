pub mod TestMaster
