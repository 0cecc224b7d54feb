pub mod StreamSteps
pub mod WriterFacts
pub mod ReaderFacts
pub mod ReaderSteps
pub mod NewReaderFacts
pub mod TextFacts
pub mod RangeSteps
