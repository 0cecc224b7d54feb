pub mod ElsewhereLemmas
pub mod LoadingLemmas
pub mod OutputLemmas
pub mod ProtectingLemmas
