pub mod Keyed
pub mod Exact
pub mod AesExact
pub mod CounterModeExact
pub mod ComposedExact
pub mod Blocks
