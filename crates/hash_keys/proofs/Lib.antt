pub mod Lengths
pub mod CmacParts
