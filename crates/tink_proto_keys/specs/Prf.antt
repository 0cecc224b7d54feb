-- Keys of PRFs and their formats. The number and kind of each field; after them, the message
-- from the values of its fields, and back.
use Rattle.std.specs.Prelude.{refl}
use Rattle.wire_format.specs.Columns.{Column}
use Rattle.wire_format.specs.Table.{column, pair, message}
use Rattle.wire_format.specs.Kinds.{bytes, enum, number, option_of}
use Rattle.tink_proto_keys.specs.WithParams.{key_with, format_with}
use Rattle.tink_proto_keys.specs.declared.with_params.KeyWith.{KeyWith}
use Rattle.tink_proto_keys.specs.declared.with_params.FormatWith.{FormatWith}
use Rattle.tink_proto_keys.specs.declared.prf.HkdfPrfParams.{HkdfPrfParams}
use Rattle.tink_proto_keys.specs.declared.prf.HkdfPrfKey.{HkdfPrfKey}
use Rattle.tink_proto_keys.specs.declared.prf.HkdfPrfKeyFormat.{HkdfPrfKeyFormat}
use Rattle.tink_proto_keys.specs.declared.prf.HmacPrfParams.{HmacPrfParams}
use Rattle.tink_proto_keys.specs.declared.prf.AesCmacPrfKey.{AesCmacPrfKey}
use Rattle.tink_proto_keys.specs.declared.prf.AesCmacPrfKeyFormat.{AesCmacPrfKeyFormat}

abbrev pub hkdf_prf_params : Column HkdfPrfParams
hkdf_prf_params = message
    (pair (column 1 refl enum) (column 2 refl bytes) refl)
    (λ t. record { hash = t.0; salt = t.1 })
    (λ m. (m.hash, m.salt))
    (λ t. refl) (λ m. refl)

abbrev pub hkdf_prf_key : Column HkdfPrfKey
hkdf_prf_key = message
    (pair (column 1 refl number) (pair (column 2 refl (option_of hkdf_prf_params)) (column 3 refl bytes) refl) refl)
    (λ t. record { version = t.0; params = t.1.0; key_value = t.1.1 })
    (λ m. (m.version, (m.params, m.key_value)))
    (λ t. refl) (λ m. refl)

abbrev pub hkdf_prf_key_format : Column HkdfPrfKeyFormat
hkdf_prf_key_format = message
    (pair (column 1 refl (option_of hkdf_prf_params)) (pair (column 2 refl number) (column 3 refl number) refl) refl)
    (λ t. record { params = t.0; key_size = t.1.0; version = t.1.1 })
    (λ m. (m.params, (m.key_size, m.version)))
    (λ t. refl) (λ m. refl)

abbrev pub hmac_prf_params : Column HmacPrfParams
hmac_prf_params = message
    (column 1 refl enum)
    (λ t. record { hash = t })
    (λ m. m.hash)
    (λ t. refl) (λ m. refl)

abbrev pub HmacPrfKey : Type 0
HmacPrfKey = KeyWith HmacPrfParams

abbrev pub hmac_prf_key : Column HmacPrfKey
hmac_prf_key = key_with hmac_prf_params

abbrev pub HmacPrfKeyFormat : Type 0
HmacPrfKeyFormat = FormatWith HmacPrfParams

abbrev pub hmac_prf_key_format : Column HmacPrfKeyFormat
hmac_prf_key_format = format_with hmac_prf_params

abbrev pub aes_cmac_prf_key : Column AesCmacPrfKey
aes_cmac_prf_key = message
    (pair (column 1 refl number) (column 2 refl bytes) refl)
    (λ t. record { version = t.0; key_value = t.1 })
    (λ m. (m.version, m.key_value))
    (λ t. refl) (λ m. refl)

abbrev pub aes_cmac_prf_key_format : Column AesCmacPrfKeyFormat
aes_cmac_prf_key_format = message
    (pair (column 1 refl number) (column 2 refl number) refl)
    (λ t. record { key_size = t.0; version = t.1 })
    (λ m. (m.key_size, m.version))
    (λ t. refl) (λ m. refl)
