-- The messages of keysets: the number and kind of each field. After them, the message from the values of its fields,
-- and back.
use Rattle.std.specs.Prelude.{refl}
use Rattle.wire_format.specs.Columns.{Column}
use Rattle.wire_format.specs.Table.{column, pair, message}
use Rattle.wire_format.specs.Kinds.{bytes, enum, list_of, number, option_of, text}
use Rattle.tink_proto.specs.declared.messages.keys.KeyData.{KeyData}
use Rattle.tink_proto.specs.declared.messages.keys.Key.{Key}
use Rattle.tink_proto.specs.declared.messages.keys.Keyset.{Keyset}
use Rattle.tink_proto.specs.declared.messages.keys.KeyTemplate.{KeyTemplate}
use Rattle.tink_proto.specs.declared.messages.infos.KeyInfo.{KeyInfo}
use Rattle.tink_proto.specs.declared.messages.infos.KeysetInfo.{KeysetInfo}
use Rattle.tink_proto.specs.declared.messages.infos.EncryptedKeyset.{EncryptedKeyset}

abbrev pub key_data : Column KeyData
key_data = message
    (pair (column 1 refl text) (pair (column 2 refl bytes) (column 3 refl enum) refl) refl)
    (λ t. record { type_url = t.0; value = t.1.0; key_material_type = t.1.1 })
    (λ m. (m.type_url, (m.value, m.key_material_type)))
    (λ t. refl) (λ m. refl)

abbrev pub key : Column Key
key = message
    (pair (column 1 refl (option_of key_data)) (pair (column 2 refl enum) (pair (column 3 refl number) (column 4 refl enum) refl) refl) refl)
    (λ t. record { key_data = t.0; status = t.1.0; key_id = t.1.1.0; output_prefix_type = t.1.1.1 })
    (λ m. (m.key_data, (m.status, (m.key_id, m.output_prefix_type))))
    (λ t. refl) (λ m. refl)

abbrev pub keyset : Column Keyset
keyset = message
    (pair (column 1 refl number) (column 2 refl (list_of key)) refl)
    (λ t. record { primary_key_id = t.0; key = t.1 })
    (λ m. (m.primary_key_id, m.key))
    (λ t. refl) (λ m. refl)

abbrev pub key_template : Column KeyTemplate
key_template = message
    (pair (column 1 refl text) (pair (column 2 refl bytes) (column 3 refl enum) refl) refl)
    (λ t. record { type_url = t.0; value = t.1.0; output_prefix_type = t.1.1 })
    (λ m. (m.type_url, (m.value, m.output_prefix_type)))
    (λ t. refl) (λ m. refl)

abbrev pub key_info : Column KeyInfo
key_info = message
    (pair (column 1 refl text) (pair (column 2 refl enum) (pair (column 3 refl number) (column 4 refl enum) refl) refl) refl)
    (λ t. record { type_url = t.0; status = t.1.0; key_id = t.1.1.0; output_prefix_type = t.1.1.1 })
    (λ m. (m.type_url, (m.status, (m.key_id, m.output_prefix_type))))
    (λ t. refl) (λ m. refl)

abbrev pub keyset_info : Column KeysetInfo
keyset_info = message
    (pair (column 1 refl number) (column 2 refl (list_of key_info)) refl)
    (λ t. record { primary_key_id = t.0; key_info = t.1 })
    (λ m. (m.primary_key_id, m.key_info))
    (λ t. refl) (λ m. refl)

abbrev pub encrypted_keyset : Column EncryptedKeyset
encrypted_keyset = message
    (pair (column 2 refl bytes) (column 3 refl (option_of keyset_info)) refl)
    (λ t. record { encrypted_keyset = t.0; keyset_info = t.1 })
    (λ m. (m.encrypted_keyset, m.keyset_info))
    (λ t. refl) (λ m. refl)
