-- Envelope encryption. The number and kind of each field; after them, the message
-- from the values of its fields, and back.
use Rattle.std.specs.Prelude.{refl}
use Rattle.wire_format.specs.Columns.{Column}
use Rattle.wire_format.specs.Table.{column, pair, message}
use Rattle.wire_format.specs.Kinds.{option_of, text}
use Rattle.tink_proto.specs.Messages.{key_template}
use Rattle.tink_proto_keys.specs.declared.envelope.KmsEnvelopeAeadKeyFormat.{KmsEnvelopeAeadKeyFormat}

abbrev pub kms_envelope_aead_key_format : Column KmsEnvelopeAeadKeyFormat
kms_envelope_aead_key_format = message
    (pair (column 1 refl text) (column 2 refl (option_of key_template)) refl)
    (λ t. record { kek_uri = t.0; dek_template = t.1 })
    (λ m. (m.kek_uri, m.dek_template))
    (λ t. refl) (λ m. refl)
