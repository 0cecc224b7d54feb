pub mod Primitives
pub mod Tokens
