-- What messages are written as has no float.
use Rattle.std.proofs.Common.{◌≡◌, ℕ, ℤ, pos, negsuc, List, [], ◌∷◌, map, false, Option, Some, None, refl}
use Rattle.serde_json.specs.Data.{Data}
use Rattle.serde_json.specs.View.{items_of}
use Rattle.serde_json.specs.Written.{has_float, items_have_float}
use Rattle.tink_json.specs.Names.{Names, named, statuses, prefixes, materials}
use Rattle.tink_json.specs.Written.{name_or, enum_value, key_data_value, key_value, keyset_value, key_info_value, keyset_info_value, encrypted_keyset_value}
use Rattle.tink_proto.specs.declared.messages.keys.KeyData.{KeyData}
use Rattle.tink_proto.specs.declared.messages.keys.Key.{Key}
use Rattle.tink_proto.specs.declared.messages.keys.Keyset.{Keyset}
use Rattle.tink_proto.specs.declared.messages.infos.KeyInfo.{KeyInfo}
use Rattle.tink_proto.specs.declared.messages.infos.KeysetInfo.{KeysetInfo}
use Rattle.tink_proto.specs.declared.messages.infos.EncryptedKeyset.{EncryptedKeyset}

name_or-plain : (n : ℤ) (name : Option (List ℕ)) → has_float (name_or n name) ≡ false
name_or-plain (pos n) None = refl
name_or-plain (negsuc n) None = refl
name_or-plain n (Some name) = refl

enum-plain : (names : Names) (n : ℤ) → has_float (enum_value names n) ≡ false
enum-plain names n = name_or-plain n (named names n)

items-plain : {T : Type 0} (value : T → Data) → ((m : T) → has_float (value m) ≡ false) → (ms : List T) → items_have_float (items_of (map value ms)) ≡ false
items-plain value plain [] = refl
items-plain value plain (m ∷ ms) = rw (plain m) (items-plain value plain ms)

pub key_data-plain : (m : KeyData) → has_float (key_data_value m) ≡ false
key_data-plain m = rw (enum-plain materials m.key_material_type) refl

pub key_info-plain : (m : KeyInfo) → has_float (key_info_value m) ≡ false
key_info-plain m = rw (enum-plain prefixes m.output_prefix_type, enum-plain statuses m.status) refl

key-plain-of : (held : Option KeyData) (m : Key) → m.key_data ≡ held → has_float (key_value m) ≡ false
key-plain-of None m is = rw (is, enum-plain prefixes m.output_prefix_type, enum-plain statuses m.status) refl
key-plain-of (Some held) m is = rw (is, key_data-plain held, enum-plain prefixes m.output_prefix_type, enum-plain statuses m.status) refl

pub key-plain : (m : Key) → has_float (key_value m) ≡ false
key-plain m = key-plain-of m.key_data m refl

pub keyset-plain : (m : Keyset) → has_float (keyset_value m) ≡ false
keyset-plain m = rw (items-plain key_value key-plain m.key) refl

pub keyset_info-plain : (m : KeysetInfo) → has_float (keyset_info_value m) ≡ false
keyset_info-plain m = rw (items-plain key_info_value key_info-plain m.key_info) refl

encrypted-plain-of : (info : Option KeysetInfo) (m : EncryptedKeyset) → m.keyset_info ≡ info → has_float (encrypted_keyset_value m) ≡ false
encrypted-plain-of None m is = rw is refl
encrypted-plain-of (Some info) m is = rw (is, keyset_info-plain info) refl

pub encrypted_keyset-plain : (m : EncryptedKeyset) → has_float (encrypted_keyset_value m) ≡ false
encrypted_keyset-plain m = encrypted-plain-of m.keyset_info m refl
