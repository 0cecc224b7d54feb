pub mod Built
pub mod Given
pub mod PublicParts
