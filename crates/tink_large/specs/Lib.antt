pub mod Large
pub mod Coming
pub mod SealedText
pub mod Passing
pub mod Opening
