pub mod CoreFacts
