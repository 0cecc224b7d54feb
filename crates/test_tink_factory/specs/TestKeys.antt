-- The key type and the question of the tests.
use Rattle.std.specs.Prelude.{ℕ, List, Bool, length, if◌then◌else◌, nat_eq, ◌&&◌, Result, Ok, Err, codes}
use Rattle.std.specs.Str.{bytes_eq}
use Rattle.tink_io.specs.declared.error.Kind.{Kind}
use Rattle.tink_io.specs.declared.error.Kind.TheVariants.{DecryptFailed}
use Rattle.tink_primitives.specs.Meaning.{IsTold}
use Rattle.tink_primitives.specs.MeaningLaws.{told_if}
use Rattle.tink_proto_keys.specs.declared.aead.AesGcmKey.{AesGcmKey}

abbrev pub test_url : List ℕ
test_url = codes "type.test/key"

-- keys of sixteen bytes
abbrev pub is_accepted : AesGcmKey → Bool
is_accepted k = nat_eq k.version 0 && nat_eq (length k.key_value) 16

abbrev pub test_key : List ℕ → AesGcmKey
test_key value = record { version = 0; key_value = value }

-- the id of an entry whose key is the input
abbrev pub held : List ℕ → ℕ → List ℕ → Result ℕ Kind
held key id input = if bytes_eq key input then Ok id else Err DecryptFailed

pub held_told : (key : List ℕ) (id : ℕ) (input : List ℕ) → IsTold (held key id input)
held_told key id input = told_if (bytes_eq key input) (Ok id) (Err DecryptFailed) tt tt
