pub mod RangingLemmas
pub mod RefusingLemmas
pub mod InformingLemmas
pub mod LeavingLemmas
