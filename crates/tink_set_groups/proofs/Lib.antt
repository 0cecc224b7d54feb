pub mod AddingFacts
pub mod Converted
pub mod ConvertingFacts
pub mod VecKeys
