pub mod KeyFileLemmas
pub mod MasterLemmas
pub mod RefusingLemmas
pub mod SavingLemmas
pub mod WrappingLemmas
