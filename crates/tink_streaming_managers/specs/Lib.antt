pub mod KeyTypes
pub mod KeyTypeLaws
pub mod Templates
