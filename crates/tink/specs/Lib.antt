pub mod Rows
pub mod Managers
pub mod Registered
pub mod LoadingRows
