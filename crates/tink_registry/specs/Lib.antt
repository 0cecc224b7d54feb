pub mod Known
pub mod Listed
pub mod ListedLaws
pub mod Registering
