-- New keys beside the primary one, new keys with another output prefix, and rotations to keys of the same primitive.
use Rattle.std.specs.Prelude.{◌≡◌, ◌⊎◌, ◌&&◌, not, ℕ, List, Bool, true, false, Option, Some, None, Result, Ok, Err, codes, bytes_eq, if◌then◌else◌}
use Rattle.std.specs.List.{list_any}
use Rattle.tink_io.specs.declared.error.Kind.{Kind}
use Rattle.tink_io.specs.declared.error.Kind.TheVariants.{NoPrimary, UnknownPrefix, UnknownTemplate, WrongPrimitive}
use Rattle.tink_proto.specs.declared.enums.OutputPrefixType.{OutputPrefixType}
use Rattle.tink_proto.specs.declared.enums.OutputPrefixType.TheVariants as prefixes
use Rattle.tink_proto.specs.declared.messages.keys.Key.{Key}
use Rattle.tink_proto.specs.declared.messages.keys.KeyData.{KeyData}
use Rattle.tink_proto.specs.declared.messages.keys.KeyTemplate.{KeyTemplate}
use Rattle.tink_proto.specs.declared.messages.keys.Keyset.{Keyset}
use Rattle.tink_proto.specs.Enums.{prefix_number}
use Rattle.keyset_model.specs.Keys.{is_enabled}
use Rattle.keyset_model.specs.Validity.{has_a_primary}
use Rattle.tink_keysets.specs.Encrypted.{chained}
use Rattle.tink_keysets.specs.Managed.{no_keys}
use Rattle.tink_keygen.specs.NamedTemplates.{template_named}
use Rattle.tink_keygen.specs.Rotating.{grown, left_after, left_grown, rotated, IsNotRotated}
use Rattle.tink_keygen.specs.declared.growing.Sort.{Sort}
use Rattle.tink_keygen.specs.declared.growing.Sort.TheVariants.{Aead, DeterministicAead, Mac, Prf, StreamingAead}

-- a keyset with a new key beside its primary one
abbrev pub grown_beside : KeyTemplate → List ℕ → Keyset → Result Keyset Kind
grown_beside kt draws ks = if has_a_primary ks then grown false kt draws ks else Err NoPrimary

abbrev pub left_beside : KeyTemplate → List ℕ → Keyset → List ℕ
left_beside kt draws ks = if has_a_primary ks then left_grown false kt draws ks else draws

abbrev pub grown_beside_where : Option KeyTemplate → Result Keyset Kind → List ℕ → Result Keyset Kind
grown_beside_where None start draws = Err UnknownTemplate
grown_beside_where (Some kt) start draws = chained (grown_beside kt draws) start

abbrev pub grown_beside_by : List ℕ → Result Keyset Kind → List ℕ → Result Keyset Kind
grown_beside_by name start draws = grown_beside_where (template_named name) start draws

abbrev pub left_beside_where : Option KeyTemplate → Result Keyset Kind → List ℕ → List ℕ
left_beside_where None start draws = draws
left_beside_where (Some kt) (Err kind) draws = draws
left_beside_where (Some kt) (Ok ks) draws = left_beside kt draws ks

abbrev pub left_beside_by : List ℕ → Result Keyset Kind → List ℕ → List ℕ
left_beside_by name start draws = left_beside_where (template_named name) start draws

-- the primitive of the keys of a type, if it is known
abbrev pub sort_of : List ℕ → Option Sort
sort_of url =
    if bytes_eq url (codes "type.googleapis.com/google.crypto.tink.HkdfPrfKey") then Some Prf
    else (if bytes_eq url (codes "type.googleapis.com/google.crypto.tink.HmacPrfKey") then Some Prf
    else (if bytes_eq url (codes "type.googleapis.com/google.crypto.tink.AesCmacPrfKey") then Some Prf
    else (if bytes_eq url (codes "type.googleapis.com/google.crypto.tink.HmacKey") then Some Mac
    else (if bytes_eq url (codes "type.googleapis.com/google.crypto.tink.AesCmacKey") then Some Mac
    else (if bytes_eq url (codes "type.googleapis.com/google.crypto.tink.AesGcmKey") then Some Aead
    else (if bytes_eq url (codes "type.googleapis.com/google.crypto.tink.AesGcmSivKey") then Some Aead
    else (if bytes_eq url (codes "type.googleapis.com/google.crypto.tink.AesCtrHmacAeadKey") then Some Aead
    else (if bytes_eq url (codes "type.googleapis.com/google.crypto.tink.AesSivKey") then Some DeterministicAead
    else (if bytes_eq url (codes "type.googleapis.com/google.crypto.tink.AesCtrHmacStreamingKey") then Some StreamingAead
    else (if bytes_eq url (codes "type.googleapis.com/google.crypto.tink.AesGcmHkdfStreamingKey") then Some StreamingAead
    else None))))))))))

-- two types of keys are known, and of one primitive
abbrev pub are_one : Option Sort → Option Sort → Bool
are_one (Some Prf) (Some Prf) = true
are_one (Some Mac) (Some Mac) = true
are_one (Some Aead) (Some Aead) = true
are_one (Some DeterministicAead) (Some DeterministicAead) = true
are_one (Some StreamingAead) (Some StreamingAead) = true
are_one _ _ = false

abbrev pub is_other : List ℕ → Option KeyData → Bool
is_other url None = false
is_other url (Some d) = not (are_one (sort_of d.type_url) (sort_of url))

-- a key is enabled, and of another primitive than the keys of a type
abbrev pub is_unlike : List ℕ → Key → Bool
is_unlike url key = is_enabled key && is_other url key.key_data

-- no enabled key is of another primitive than a template's keys
abbrev pub is_alike : Keyset → KeyTemplate → Bool
is_alike ks kt = not (list_any (is_unlike kt.type_url) ks.key)

-- a keyset with a new key as its primary one, unless it is of another primitive
abbrev pub rotated_alike : KeyTemplate → List ℕ → Keyset → Result Keyset Kind
rotated_alike kt draws ks = if is_alike ks kt then rotated kt draws ks else Err WrongPrimitive

abbrev pub left_alike : KeyTemplate → List ℕ → Keyset → List ℕ
left_alike kt draws ks = if is_alike ks kt then left_after kt draws ks else draws

abbrev pub rotated_alike_where : Option KeyTemplate → Result Keyset Kind → List ℕ → Result Keyset Kind
rotated_alike_where None start draws = Err UnknownTemplate
rotated_alike_where (Some kt) start draws = chained (rotated_alike kt draws) start

abbrev pub rotated_alike_by : List ℕ → Result Keyset Kind → List ℕ → Result Keyset Kind
rotated_alike_by name start draws = rotated_alike_where (template_named name) start draws

abbrev pub left_alike_where : Option KeyTemplate → Result Keyset Kind → List ℕ → List ℕ
left_alike_where None start draws = draws
left_alike_where (Some kt) (Err kind) draws = draws
left_alike_where (Some kt) (Ok ks) draws = left_alike kt draws ks

abbrev pub left_alike_by : List ℕ → Result Keyset Kind → List ℕ → List ℕ
left_alike_by name start draws = left_alike_where (template_named name) start draws

-- a template with this output prefix type
abbrev pub prefixed : Option OutputPrefixType → KeyTemplate → KeyTemplate
prefixed None kt = kt
prefixed (Some prefix) kt = record kt { output_prefix_type = prefix_number prefix }

-- a keyset of one new key with it
abbrev pub prefixed_where : Option OutputPrefixType → Option KeyTemplate → List ℕ → Result Keyset Kind
prefixed_where prefix None draws = Err UnknownTemplate
prefixed_where prefix (Some kt) draws = rotated (prefixed prefix kt) draws no_keys

abbrev pub prefixed_by : Option OutputPrefixType → List ℕ → List ℕ → Result Keyset Kind
prefixed_by prefix name draws = prefixed_where prefix (template_named name) draws

abbrev pub left_prefixed_where : Option OutputPrefixType → Option KeyTemplate → List ℕ → List ℕ
left_prefixed_where prefix None draws = draws
left_prefixed_where prefix (Some kt) draws = left_after (prefixed prefix kt) draws no_keys

abbrev pub left_prefixed_by : Option OutputPrefixType → List ℕ → List ℕ → List ℕ
left_prefixed_by prefix name draws = left_prefixed_where prefix (template_named name) draws

-- ---- why a keyset is not made where draws suffice

abbrev pub IsNotAdded : List ℕ → Result Keyset Kind → Kind → Type 0
IsNotAdded name start kind = IsNotRotated name start kind ⊎ ((kind ≡ NoPrimary) × ((ks : Keyset) × (start ≡ Ok ks) × (has_a_primary ks ≡ false)))

abbrev pub IsNotAlike : List ℕ → Result Keyset Kind → Kind → Type 0
IsNotAlike name start kind =
    IsNotRotated name start kind
    ⊎ ((kind ≡ WrongPrimitive) × ((ks : Keyset) × (kt : KeyTemplate) × (start ≡ Ok ks) × (template_named name ≡ Some kt) × (is_alike ks kt ≡ false)))

abbrev pub IsNotPrefixed : Option OutputPrefixType → List ℕ → Kind → Type 0
IsNotPrefixed prefix name kind = IsNotRotated name (Ok no_keys) kind ⊎ ((kind ≡ UnknownPrefix) × (prefix ≡ Some prefixes.UnknownPrefix))
