pub mod Converting
pub mod Groups
