-- The messages that are read from their own text: texts are UTF-8, values are bytes, and numbers have 32 bits.
use Rattle.std.specs.Prelude.{◌≡◌, ◌<◌, ◌^◌, true, IfSome}
use Rattle.std.specs.List.{AllByRecursion}
use Rattle.std.specs.Str.{IsUtf8}
use Rattle.base64.specs.GeneralPurpose.{IsBytes}
use Rattle.wire_format.specs.Values.{fits_enum}
use Rattle.tink_proto.specs.declared.messages.keys.KeyData.{KeyData}
use Rattle.tink_proto.specs.declared.messages.keys.Key.{Key}
use Rattle.tink_proto.specs.declared.messages.keys.Keyset.{Keyset}

pub record IsKeyData (m : KeyData) : Type 0 where
  pub type_url : IsUtf8 m.type_url
  pub value : IsBytes m.value
  pub material : fits_enum m.key_material_type ≡ true

pub record IsKey (m : Key) : Type 0 where
  pub key_data : IfSome m.key_data IsKeyData
  pub status : fits_enum m.status ≡ true
  pub key_id : m.key_id < 2 ^ 32
  pub prefix : fits_enum m.output_prefix_type ≡ true

pub record IsKeyset (m : Keyset) : Type 0 where
  pub primary_key_id : m.primary_key_id < 2 ^ 32
  pub key : AllByRecursion IsKey m.key
