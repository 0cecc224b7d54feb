pub mod ReadingLaws
pub mod WritingLaws
mod StandardFacts
