pub mod Making
pub mod RowFacts
pub mod SoundFacts
pub mod NewKeys
