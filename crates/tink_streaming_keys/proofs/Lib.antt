pub mod DerivedKeys
pub mod DecrypterFacts
pub mod HeaderFacts
pub mod NewWriterSteps
pub mod NewReaderSteps
