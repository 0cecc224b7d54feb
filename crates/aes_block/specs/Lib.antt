pub mod Ciphers
pub mod Lengths
pub mod Schedules
pub mod Wires
pub mod TruthTables
pub mod Transposition
pub mod BitPlanes
pub mod Parts
