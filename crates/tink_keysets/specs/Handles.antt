-- What making a handle answers.
use Rattle.std.specs.Prelude.{Result, Ok, Err, if◌then◌else◌}
use Rattle.tink_io.specs.declared.error.Kind.{Kind}
use Rattle.tink_io.specs.declared.error.Kind.TheVariants.{HasSecrets, InvalidKeyset}
use Rattle.tink_proto.specs.declared.messages.keys.Keyset.{Keyset}
use Rattle.keyset_model.specs.Secrets.{has_secrets}
use Rattle.keyset_model.specs.Validity.{has_a_key, is_held_keyset}

-- a handle of any keyset that it may hold
abbrev pub handle_of : Keyset → Result Keyset Kind
handle_of ks = if is_held_keyset ks then Ok ks else Err InvalidKeyset

-- a handle of a keyset with a key
abbrev pub handle_of_keys : Keyset → Result Keyset Kind
handle_of_keys ks = if has_a_key ks then handle_of ks else Err InvalidKeyset

-- a keyset, where it has no secrets
abbrev pub without_secrets : Keyset → Result Keyset Kind
without_secrets ks = if has_secrets ks then Err HasSecrets else Ok ks

-- a handle of a keyset without secrets
abbrev pub handle_without_secrets : Keyset → Result Keyset Kind
handle_without_secrets ks = if is_held_keyset ks then without_secrets ks else Err InvalidKeyset
