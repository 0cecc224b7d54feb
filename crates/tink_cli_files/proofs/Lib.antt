pub mod SavedLemmas
mod RangeLemmas
mod StreamLemmas
mod TaskLemmas
mod WrapLemmas
mod BackFacts
