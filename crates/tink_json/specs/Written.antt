-- The values of JSON that messages are written as, and their text. An object holds its members by their names in order.
use Rattle.std.specs.Prelude.{ℕ, ℤ, List, map, codes, Option, Some, None}
use Rattle.base64.specs.Engines.{standard}
use Rattle.base64.specs.GeneralPurpose.{encode_of}
use Rattle.json.specs.Layout.{pretty}
use Rattle.json.specs.Tree.{json_tokens}
use Rattle.serde_json.specs.Data.{Data, string, number, array, object, unsigned, Members, no_members, put}
use Rattle.serde_json.specs.Find.{of_integer}
use Rattle.serde_json.specs.View.{items_of}
use Rattle.serde_json.specs.Written.{outline}
use Rattle.tink_json.specs.Names.{Names, named, statuses, prefixes, materials}
use Rattle.tink_proto.specs.declared.messages.keys.KeyData.{KeyData}
use Rattle.tink_proto.specs.declared.messages.keys.Key.{Key}
use Rattle.tink_proto.specs.declared.messages.keys.Keyset.{Keyset}
use Rattle.tink_proto.specs.declared.messages.infos.KeyInfo.{KeyInfo}
use Rattle.tink_proto.specs.declared.messages.infos.KeysetInfo.{KeysetInfo}
use Rattle.tink_proto.specs.declared.messages.infos.EncryptedKeyset.{EncryptedKeyset}

abbrev pub bytes_value : List ℕ → Data
bytes_value bytes = string (encode_of standard bytes)

-- an enum's name, or its number where it has none
abbrev pub name_or : ℤ → Option (List ℕ) → Data
name_or n None = number (of_integer n)
name_or n (Some name) = string name

abbrev pub enum_value : Names → ℤ → Data
enum_value names n = name_or n (named names n)

-- the members with one more where the message is there
abbrev pub put_if : {T : Type 0} → List ℕ → (T → Data) → Option T → Members → Members
put_if name value None members = members
put_if name value (Some m) members = put name (value m) members

abbrev pub key_data_value : KeyData → Data
key_data_value m = object (
    put (codes "keyMaterialType") (enum_value materials m.key_material_type) (
    put (codes "value") (bytes_value m.value) (
    put (codes "typeUrl") (string m.type_url) no_members)))

abbrev pub key_value : Key → Data
key_value m = object (
    put (codes "outputPrefixType") (enum_value prefixes m.output_prefix_type) (
    put (codes "keyId") (number (unsigned m.key_id)) (
    put (codes "status") (enum_value statuses m.status) (
    put_if (codes "keyData") key_data_value m.key_data no_members))))

abbrev pub keyset_value : Keyset → Data
keyset_value m = object (
    put (codes "key") (array (items_of (map key_value m.key))) (
    put (codes "primaryKeyId") (number (unsigned m.primary_key_id)) no_members))

abbrev pub key_info_value : KeyInfo → Data
key_info_value m = object (
    put (codes "outputPrefixType") (enum_value prefixes m.output_prefix_type) (
    put (codes "keyId") (number (unsigned m.key_id)) (
    put (codes "status") (enum_value statuses m.status) (
    put (codes "typeUrl") (string m.type_url) no_members))))

abbrev pub keyset_info_value : KeysetInfo → Data
keyset_info_value m = object (
    put (codes "keyInfo") (array (items_of (map key_info_value m.key_info))) (
    put (codes "primaryKeyId") (number (unsigned m.primary_key_id)) no_members))

abbrev pub encrypted_keyset_value : EncryptedKeyset → Data
encrypted_keyset_value m = object (
    put_if (codes "keysetInfo") keyset_info_value m.keyset_info (
    put (codes "encryptedKeyset") (bytes_value m.encrypted_keyset) no_members))

-- the pretty text of a value without floats: a line for each item and member, two spaces deeper for each bracket
abbrev pub pretty_text : Data → List ℕ
pretty_text d = pretty (json_tokens (outline d))
