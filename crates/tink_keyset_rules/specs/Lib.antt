pub mod Ends
pub mod Managed
pub mod Masters
pub mod ShownTexts
