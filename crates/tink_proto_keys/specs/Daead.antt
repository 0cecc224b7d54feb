-- Keys of deterministic AEAD and their formats. The number and kind of each field; after them, the message
-- from the values of its fields, and back.
use Rattle.std.specs.Prelude.{refl}
use Rattle.wire_format.specs.Columns.{Column}
use Rattle.wire_format.specs.Table.{column, pair, message}
use Rattle.wire_format.specs.Kinds.{bytes, number}
use Rattle.tink_proto_keys.specs.declared.daead.AesSivKey.{AesSivKey}
use Rattle.tink_proto_keys.specs.declared.daead.AesSivKeyFormat.{AesSivKeyFormat}

abbrev pub aes_siv_key : Column AesSivKey
aes_siv_key = message
    (pair (column 1 refl number) (column 2 refl bytes) refl)
    (λ t. record { version = t.0; key_value = t.1 })
    (λ m. (m.version, m.key_value))
    (λ t. refl) (λ m. refl)

abbrev pub aes_siv_key_format : Column AesSivKeyFormat
aes_siv_key_format = message
    (pair (column 1 refl number) (column 2 refl number) refl)
    (λ t. record { key_size = t.0; version = t.1 })
    (λ m. (m.key_size, m.version))
    (λ t. refl) (λ m. refl)
