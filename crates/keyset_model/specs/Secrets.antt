-- What of a keyset is secret, and what of it may be shown.
use Rattle.std.specs.Prelude.{ℕ, List, [], map, pos, Bool, false, Option, Some, None}
use Rattle.std.specs.List.{list_any}
use Rattle.tink_proto.specs.declared.messages.keys.Key.{Key}
use Rattle.tink_proto.specs.declared.messages.keys.KeyData.{KeyData}
use Rattle.tink_proto.specs.declared.messages.keys.Keyset.{Keyset}
use Rattle.tink_proto.specs.declared.messages.infos.KeyInfo.{KeyInfo}
use Rattle.tink_proto.specs.declared.messages.infos.KeysetInfo.{KeysetInfo}
use Rattle.keyset_model.specs.Validity.{is_from_to}

-- Data is secret where its material is unknown (0), symmetric (1) or private (2), whatever the key's status.
abbrev pub is_secret_data : Option KeyData → Bool
is_secret_data None = false
is_secret_data (Some d) = is_from_to (pos 0) (pos 2) d.key_material_type

abbrev pub is_secret : Key → Bool
is_secret k = is_secret_data k.key_data

abbrev pub has_secrets : Keyset → Bool
has_secrets ks = list_any is_secret ks.key

-- the URL of a key's data, empty where it has none
abbrev pub url_of : Option KeyData → List ℕ
url_of None = []
url_of (Some d) = d.type_url

abbrev pub key_info : Key → KeyInfo
key_info k = record { type_url = url_of k.key_data; status = k.status; key_id = k.key_id; output_prefix_type = k.output_prefix_type }

-- the keyset without the values of its keys
abbrev pub keyset_info : Keyset → KeysetInfo
keyset_info ks = record { primary_key_id = ks.primary_key_id; key_info = map key_info ks.key }
