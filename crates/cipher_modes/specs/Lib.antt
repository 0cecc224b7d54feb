pub mod Steps
pub mod Paddings
pub mod PaddingLaws
pub mod Padded
pub mod PaddedVec
pub mod ModeVectors
