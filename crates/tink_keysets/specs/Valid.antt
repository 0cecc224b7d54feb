-- Keysets that are read and validated.
use Rattle.std.specs.Prelude.{ℕ, List, Result, Ok, Err, if◌then◌else◌}
use Rattle.wire_format.specs.Message.{decoded}
use Rattle.tink_io.specs.declared.error.Kind.{Kind}
use Rattle.tink_io.specs.declared.error.Kind.TheVariants.{BadKeyset, InvalidKeyset}
use Rattle.tink_io.specs.Answering.{or_refused}
use Rattle.tink_proto.specs.Messages.{keyset}
use Rattle.tink_proto.specs.declared.messages.keys.Keyset.{Keyset}
use Rattle.keyset_model.specs.Validity.{is_valid}
use Rattle.tink_keysets.specs.Encrypted.{chained}

-- a keyset that is valid, or the refusal of one that isn't
abbrev pub valid_or_refused : Keyset → Result Keyset Kind
valid_or_refused ks = if is_valid ks then Ok ks else Err InvalidKeyset

-- the valid keyset that bytes spell
abbrev pub valid_keyset : List ℕ → Result Keyset Kind
valid_keyset bytes = chained valid_or_refused (or_refused BadKeyset (decoded keyset.read bytes))
