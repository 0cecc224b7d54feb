pub mod Elsewhere
pub mod Jobs
pub mod Loading
pub mod Outputs
pub mod Protecting
