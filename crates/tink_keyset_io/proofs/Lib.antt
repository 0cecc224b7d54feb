pub mod ReadingLemmas
mod LineLemmas
pub mod WritingLemmas
