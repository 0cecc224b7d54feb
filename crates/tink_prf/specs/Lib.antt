pub mod KeyTypes
pub mod PrfKinds
pub mod Sets
pub mod Templates
