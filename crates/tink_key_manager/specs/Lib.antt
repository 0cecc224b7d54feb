pub mod HashTypes
pub mod Manager
pub mod ManagerLaws
pub mod Templates
