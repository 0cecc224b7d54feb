pub mod Hashes
pub mod Random
