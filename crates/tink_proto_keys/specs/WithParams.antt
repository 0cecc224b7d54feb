-- Keys and formats of keys whose parameters are a message of their own. The number and kind of each field; after them, the
-- message from the values of its fields, and back.
use Rattle.std.specs.Prelude.{refl}
use Rattle.wire_format.specs.Columns.{Column}
use Rattle.wire_format.specs.Table.{column, pair, message}
use Rattle.wire_format.specs.Kinds.{bytes, number, option_of}
use Rattle.tink_proto_keys.specs.declared.with_params.KeyWith.{KeyWith}
use Rattle.tink_proto_keys.specs.declared.with_params.FormatWith.{FormatWith}

module _ {P : Type 0} (params : Column P) where
  abbrev pub key_with : Column (KeyWith P)
  key_with = message
      (pair (column 1 refl number) (pair (column 2 refl (option_of params)) (column 3 refl bytes) refl) refl)
      (λ t. record { version = t.0; params = t.1.0; key_value = t.1.1 })
      (λ m. (m.version, (m.params, m.key_value)))
      (λ t. refl) (λ m. refl)

  abbrev pub format_with : Column (FormatWith P)
  format_with = message
      (pair (column 1 refl (option_of params)) (pair (column 2 refl number) (column 3 refl number) refl) refl)
      (λ t. record { params = t.0; key_size = t.1.0; version = t.1.1 })
      (λ m. (m.params, (m.key_size, m.version)))
      (λ t. refl) (λ m. refl)
