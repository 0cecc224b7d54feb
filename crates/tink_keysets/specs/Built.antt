-- The primitives of a keyset.
pub use Rattle.tink_set_builder.specs.Built.{built_value, built_data, built_entry, built_entries, HasEntries, HasNoOther, IsSetOf, GivesSet}
