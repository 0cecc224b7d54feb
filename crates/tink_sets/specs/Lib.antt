pub mod Accepting
pub use Rattle.tink_set_groups.specs.Converting
pub mod Entries
pub use Rattle.tink_set_groups.specs.Groups
pub mod Prefixes
pub mod SortLaws
