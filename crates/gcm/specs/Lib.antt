pub mod Orders
pub mod Answers
pub mod Texts
pub mod Limits
pub mod Siv
pub mod Laws
pub mod Multiples
pub mod Carries
