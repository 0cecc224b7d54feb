-- Keys of streaming encryption and their formats. The number and kind of each field; after them, the message
-- from the values of its fields, and back.
use Rattle.std.specs.Prelude.{refl}
use Rattle.wire_format.specs.Columns.{Column}
use Rattle.wire_format.specs.Table.{column, pair, message}
use Rattle.wire_format.specs.Kinds.{bytes, enum, number, option_of}
use Rattle.tink_proto_keys.specs.WithParams.{key_with, format_with}
use Rattle.tink_proto_keys.specs.declared.with_params.KeyWith.{KeyWith}
use Rattle.tink_proto_keys.specs.declared.with_params.FormatWith.{FormatWith}
use Rattle.tink_proto_keys.specs.Mac.{hmac_params}
use Rattle.tink_proto_keys.specs.declared.streaming.AesCtrHmacStreamingParams.{AesCtrHmacStreamingParams}
use Rattle.tink_proto_keys.specs.declared.streaming.AesGcmHkdfStreamingParams.{AesGcmHkdfStreamingParams}

abbrev pub aes_ctr_hmac_streaming_params : Column AesCtrHmacStreamingParams
aes_ctr_hmac_streaming_params = message
    (pair (column 1 refl number) (pair (column 2 refl number) (pair (column 3 refl enum) (column 4 refl (option_of hmac_params)) refl) refl) refl)
    (λ t. record { ciphertext_segment_size = t.0; derived_key_size = t.1.0; hkdf_hash_type = t.1.1.0; hmac_params = t.1.1.1 })
    (λ m. (m.ciphertext_segment_size, (m.derived_key_size, (m.hkdf_hash_type, m.hmac_params))))
    (λ t. refl) (λ m. refl)

abbrev pub AesCtrHmacStreamingKey : Type 0
AesCtrHmacStreamingKey = KeyWith AesCtrHmacStreamingParams

abbrev pub aes_ctr_hmac_streaming_key : Column AesCtrHmacStreamingKey
aes_ctr_hmac_streaming_key = key_with aes_ctr_hmac_streaming_params

abbrev pub AesCtrHmacStreamingKeyFormat : Type 0
AesCtrHmacStreamingKeyFormat = FormatWith AesCtrHmacStreamingParams

abbrev pub aes_ctr_hmac_streaming_key_format : Column AesCtrHmacStreamingKeyFormat
aes_ctr_hmac_streaming_key_format = format_with aes_ctr_hmac_streaming_params

abbrev pub aes_gcm_hkdf_streaming_params : Column AesGcmHkdfStreamingParams
aes_gcm_hkdf_streaming_params = message
    (pair (column 1 refl number) (pair (column 2 refl number) (column 3 refl enum) refl) refl)
    (λ t. record { ciphertext_segment_size = t.0; derived_key_size = t.1.0; hkdf_hash_type = t.1.1 })
    (λ m. (m.ciphertext_segment_size, (m.derived_key_size, m.hkdf_hash_type)))
    (λ t. refl) (λ m. refl)

abbrev pub AesGcmHkdfStreamingKey : Type 0
AesGcmHkdfStreamingKey = KeyWith AesGcmHkdfStreamingParams

abbrev pub aes_gcm_hkdf_streaming_key : Column AesGcmHkdfStreamingKey
aes_gcm_hkdf_streaming_key = key_with aes_gcm_hkdf_streaming_params

abbrev pub AesGcmHkdfStreamingKeyFormat : Type 0
AesGcmHkdfStreamingKeyFormat = FormatWith AesGcmHkdfStreamingParams

abbrev pub aes_gcm_hkdf_streaming_key_format : Column AesGcmHkdfStreamingKeyFormat
aes_gcm_hkdf_streaming_key_format = format_with aes_gcm_hkdf_streaming_params
