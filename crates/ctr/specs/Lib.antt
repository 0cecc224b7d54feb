pub mod Flavors
pub mod FlavorLaws
pub mod Counter
