pub mod Cut
pub mod Agree
pub mod Key
pub mod Sealing
pub mod Opening
pub mod Order
pub mod Blocks
