-- What key managers make of a keyset: the data of a new key, and the public part of each key.
use Rattle.std.specs.Prelude.{List, [], Option, Result, Ok, Err}
use Rattle.tink_io.specs.declared.error.Kind.{Kind}
use Rattle.tink_proto.specs.declared.messages.keys.Key.{Key}
use Rattle.tink_proto.specs.declared.messages.keys.KeyData.{KeyData}
use Rattle.tink_proto.specs.declared.messages.keys.Keyset.{Keyset}
use Rattle.tink_set_builder.specs.Given.{given_each}
use Rattle.tink_set_builder.specs.PublicParts.{with_data}
pub use Rattle.tink_set_builder.specs.PublicParts.{public_data}
pub use Rattle.tink_keyset_rules.specs.Managed.{data_by, added_by, IsAdded}

-- a keyset without keys
abbrev pub no_keys : Keyset
no_keys = record { primary_key_id = 0; key = [] }

-- a keyset with other keys
abbrev pub with_keys : Keyset → Result (List Key) Kind → Result Keyset Kind
with_keys ks (Ok keys) = Ok (record ks { key = keys })
with_keys ks (Err kind) = Err kind

-- the keyset of the public parts, key by key
abbrev pub public_keyset : (Option KeyData → Result KeyData Kind) → Keyset → Result Keyset Kind
public_keyset public ks = with_keys ks (given_each (λ k. with_data k (public k.key_data)) ks.key)
