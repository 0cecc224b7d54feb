pub mod Rows
pub mod TestKeys
