pub mod Statuses
pub mod Delivered
pub mod Taken
