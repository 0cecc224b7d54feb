pub mod AcceptingFacts
pub mod BesideFacts
pub mod PrefixFacts
pub mod SortFacts
pub mod StandingFacts
