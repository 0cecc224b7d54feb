-- Keys of MACs and their formats. The number and kind of each field; after them, the message
-- from the values of its fields, and back.
use Rattle.std.specs.Prelude.{refl}
use Rattle.wire_format.specs.Columns.{Column}
use Rattle.wire_format.specs.Table.{column, pair, message}
use Rattle.wire_format.specs.Kinds.{bytes, enum, number, option_of}
use Rattle.tink_proto_keys.specs.WithParams.{key_with, format_with}
use Rattle.tink_proto_keys.specs.declared.with_params.KeyWith.{KeyWith}
use Rattle.tink_proto_keys.specs.declared.with_params.FormatWith.{FormatWith}
use Rattle.tink_proto_keys.specs.declared.mac.HmacParams.{HmacParams}
use Rattle.tink_proto_keys.specs.declared.mac.AesCmacParams.{AesCmacParams}
use Rattle.tink_proto_keys.specs.declared.mac.AesCmacKey.{AesCmacKey}
use Rattle.tink_proto_keys.specs.declared.mac.AesCmacKeyFormat.{AesCmacKeyFormat}

abbrev pub hmac_params : Column HmacParams
hmac_params = message
    (pair (column 1 refl enum) (column 2 refl number) refl)
    (λ t. record { hash = t.0; tag_size = t.1 })
    (λ m. (m.hash, m.tag_size))
    (λ t. refl) (λ m. refl)

abbrev pub HmacKey : Type 0
HmacKey = KeyWith HmacParams

abbrev pub hmac_key : Column HmacKey
hmac_key = key_with hmac_params

abbrev pub HmacKeyFormat : Type 0
HmacKeyFormat = FormatWith HmacParams

abbrev pub hmac_key_format : Column HmacKeyFormat
hmac_key_format = format_with hmac_params

abbrev pub aes_cmac_params : Column AesCmacParams
aes_cmac_params = message
    (column 1 refl number)
    (λ t. record { tag_size = t })
    (λ m. m.tag_size)
    (λ t. refl) (λ m. refl)

abbrev pub aes_cmac_key : Column AesCmacKey
aes_cmac_key = message
    (pair (column 1 refl number) (pair (column 2 refl bytes) (column 3 refl (option_of aes_cmac_params)) refl) refl)
    (λ t. record { version = t.0; key_value = t.1.0; params = t.1.1 })
    (λ m. (m.version, (m.key_value, m.params)))
    (λ t. refl) (λ m. refl)

abbrev pub aes_cmac_key_format : Column AesCmacKeyFormat
aes_cmac_key_format = message
    (pair (column 1 refl number) (column 2 refl (option_of aes_cmac_params)) refl)
    (λ t. record { key_size = t.0; params = t.1 })
    (λ m. (m.key_size, m.params))
    (λ t. refl) (λ m. refl)
