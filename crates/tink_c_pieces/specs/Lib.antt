pub mod Due
pub mod Pieces
pub mod Moments
pub mod Readings
