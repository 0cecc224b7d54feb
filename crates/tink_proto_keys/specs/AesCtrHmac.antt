-- Keys of AEAD by AES-CTR and HMAC and their formats. The number and kind of each field; after them, the message
-- from the values of its fields, and back.
use Rattle.std.specs.Prelude.{refl}
use Rattle.wire_format.specs.Columns.{Column}
use Rattle.wire_format.specs.Table.{column, pair, message}
use Rattle.wire_format.specs.Kinds.{bytes, number, option_of}
use Rattle.tink_proto_keys.specs.WithParams.{key_with}
use Rattle.tink_proto_keys.specs.declared.with_params.KeyWith.{KeyWith}
use Rattle.tink_proto_keys.specs.Mac.{hmac_key, hmac_key_format}
use Rattle.tink_proto_keys.specs.declared.aes_ctr_hmac.AesCtrParams.{AesCtrParams}
use Rattle.tink_proto_keys.specs.declared.aes_ctr_hmac.AesCtrKeyFormat.{AesCtrKeyFormat}
use Rattle.tink_proto_keys.specs.declared.aes_ctr_hmac.AesCtrHmacAeadKey.{AesCtrHmacAeadKey}
use Rattle.tink_proto_keys.specs.declared.aes_ctr_hmac.AesCtrHmacAeadKeyFormat.{AesCtrHmacAeadKeyFormat}

abbrev pub aes_ctr_params : Column AesCtrParams
aes_ctr_params = message
    (column 1 refl number)
    (λ t. record { iv_size = t })
    (λ m. m.iv_size)
    (λ t. refl) (λ m. refl)

abbrev pub AesCtrKey : Type 0
AesCtrKey = KeyWith AesCtrParams

abbrev pub aes_ctr_key : Column AesCtrKey
aes_ctr_key = key_with aes_ctr_params

abbrev pub aes_ctr_key_format : Column AesCtrKeyFormat
aes_ctr_key_format = message
    (pair (column 1 refl (option_of aes_ctr_params)) (column 2 refl number) refl)
    (λ t. record { params = t.0; key_size = t.1 })
    (λ m. (m.params, m.key_size))
    (λ t. refl) (λ m. refl)

abbrev pub aes_ctr_hmac_aead_key : Column AesCtrHmacAeadKey
aes_ctr_hmac_aead_key = message
    (pair (column 1 refl number) (pair (column 2 refl (option_of aes_ctr_key)) (column 3 refl (option_of hmac_key)) refl) refl)
    (λ t. record { version = t.0; aes_ctr_key = t.1.0; hmac_key = t.1.1 })
    (λ m. (m.version, (m.aes_ctr_key, m.hmac_key)))
    (λ t. refl) (λ m. refl)

abbrev pub aes_ctr_hmac_aead_key_format : Column AesCtrHmacAeadKeyFormat
aes_ctr_hmac_aead_key_format = message
    (pair (column 1 refl (option_of aes_ctr_key_format)) (column 2 refl (option_of hmac_key_format)) refl)
    (λ t. record { aes_ctr_key_format = t.0; hmac_key_format = t.1 })
    (λ m. (m.aes_ctr_key_format, m.hmac_key_format))
    (λ t. refl) (λ m. refl)
