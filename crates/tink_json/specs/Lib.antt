pub mod Names
pub mod Whole
pub mod Fields
pub mod Messages
pub mod Written
pub mod Refusal
pub mod Plain
pub mod ReadAgain
