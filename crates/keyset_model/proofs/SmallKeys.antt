-- Keys for facts by computing.
use Rattle.std.proofs.Common.{ℕ, ℤ, pos, [], Option, Some}
use Rattle.tink_proto.specs.declared.messages.keys.Key.{Key}
use Rattle.tink_proto.specs.declared.messages.keys.KeyData.{KeyData}

abbrev pub data_of : ℤ → Option KeyData
data_of material = Some (record { type_url = []; value = []; key_material_type = material })

abbrev pub key_of : Option KeyData → ℤ → ℕ → ℤ → Key
key_of data_there status id prefix = record { key_data = data_there; status = status; key_id = id; output_prefix_type = prefix }

-- a symmetric key with status and id, raw
abbrev pub key : ℤ → ℕ → Key
key status id = key_of (data_of (pos 1)) status id (pos 3)
