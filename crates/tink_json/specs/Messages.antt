-- The messages of keysets from values of JSON, member by member.
use Rattle.std.specs.Prelude.{ℕ, ℤ, List, codes, if◌then◌else◌, Option, Some, None, option_and_then}
use Rattle.std.specs.Str.{is_utf8}
use Rattle.wire_format.specs.Reading.{◌>>=◌}
use Rattle.serde_json.specs.Data.{Data}
use Rattle.serde_json.specs.Read.{read}
use Rattle.tink_json.specs.Fields.{an_object, text_field, bytes_field, number_field, enum_field, message_field, list_field}
use Rattle.tink_json.specs.Names.{statuses, prefixes, materials}
use Rattle.tink_json.specs.Whole.{are_whole}
use Rattle.tink_proto.specs.declared.messages.keys.KeyData.{KeyData}
use Rattle.tink_proto.specs.declared.messages.keys.Key.{Key}
use Rattle.tink_proto.specs.declared.messages.keys.Keyset.{Keyset}
use Rattle.tink_proto.specs.declared.messages.infos.KeyInfo.{KeyInfo}
use Rattle.tink_proto.specs.declared.messages.infos.KeysetInfo.{KeysetInfo}
use Rattle.tink_proto.specs.declared.messages.infos.EncryptedKeyset.{EncryptedKeyset}

abbrev pub key_data : Data → Option KeyData
key_data d = do
  _ ← an_object d
  type_url ← text_field (codes "typeUrl") (codes "type_url") d
  value ← bytes_field (codes "value") (codes "value") d
  material ← enum_field materials (codes "keyMaterialType") (codes "key_material_type") d
  Some (record { type_url = type_url; value = value; key_material_type = material })

-- of which use a key is: its status, id and prefix type
unfoldable pub use_of : Data → Option (ℤ × (ℕ × ℤ))
use_of d = do
  status ← enum_field statuses (codes "status") (codes "status") d
  id ← number_field (codes "keyId") (codes "key_id") d
  prefix ← enum_field prefixes (codes "outputPrefixType") (codes "output_prefix_type") d
  Some (status, (id, prefix))

abbrev pub key : Data → Option Key
key d = do
  _ ← an_object d
  held ← message_field key_data (codes "keyData") (codes "key_data") d
  uses ← use_of d
  Some (record { key_data = held; status = uses.0; key_id = uses.1.0; output_prefix_type = uses.1.1 })

abbrev pub keyset : Data → Option Keyset
keyset d = do
  _ ← an_object d
  primary ← number_field (codes "primaryKeyId") (codes "primary_key_id") d
  keys ← list_field key (codes "key") (codes "key") d
  Some (record { primary_key_id = primary; key = keys })

abbrev pub key_info : Data → Option KeyInfo
key_info d = do
  _ ← an_object d
  type_url ← text_field (codes "typeUrl") (codes "type_url") d
  uses ← use_of d
  Some (record { type_url = type_url; status = uses.0; key_id = uses.1.0; output_prefix_type = uses.1.1 })

abbrev pub keyset_info : Data → Option KeysetInfo
keyset_info d = do
  _ ← an_object d
  primary ← number_field (codes "primaryKeyId") (codes "primary_key_id") d
  infos ← list_field key_info (codes "keyInfo") (codes "key_info") d
  Some (record { primary_key_id = primary; key_info = infos })

abbrev pub encrypted_keyset : Data → Option EncryptedKeyset
encrypted_keyset d = do
  _ ← an_object d
  encrypted ← bytes_field (codes "encryptedKeyset") (codes "encrypted_keyset") d
  info ← message_field keyset_info (codes "keysetInfo") (codes "keyset_info") d
  Some (record { encrypted_keyset = encrypted; keyset_info = info })

-- the value of a text in UTF-8; it nests no deeper than 127
abbrev pub value_of : List ℕ → Option Data
value_of text = if is_utf8 text then read text else None

-- the message of a text, in which each number is a whole one of 64 bits
abbrev pub message_of : {T : Type 0} → (Data → Option T) → List ℕ → Option T
message_of form text = if are_whole text then option_and_then form (value_of text) else None
