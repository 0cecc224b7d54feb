-- What is printed of a keyset: a text of its `keyset_info`, in which no key's value is.
use Rattle.std.specs.Prelude.{ℕ, zero, suc, ℤ, pos, negsuc, if◌then◌else◌, List, [], ◌∷◌, ◌++◌, flat_map, codes, decimal}
use Rattle.std.specs.List.{list_all}
use Rattle.std.specs.Char.{is_ascii}
use Rattle.std.specs.Fmt.{debug_escape, signed_decimal}
use Rattle.tink_proto.specs.declared.messages.infos.KeyInfo.{KeyInfo}
use Rattle.tink_proto.specs.declared.messages.infos.KeysetInfo.{KeysetInfo}

-- the name of a status, or its number
abbrev pub status_text : ℤ → List ℕ
status_text (pos zero) = codes "UnknownStatus"
status_text (pos (suc zero)) = codes "Enabled"
status_text (pos (suc (suc zero))) = codes "Disabled"
status_text (pos (suc (suc (suc zero)))) = codes "Destroyed"
status_text n = signed_decimal n

-- the name of a prefix type, or its number
abbrev pub prefix_text : ℤ → List ℕ
prefix_text (pos zero) = codes "UnknownPrefix"
prefix_text (pos (suc zero)) = codes "Tink"
prefix_text (pos (suc (suc zero))) = codes "Legacy"
prefix_text (pos (suc (suc (suc zero)))) = codes "Raw"
prefix_text (pos (suc (suc (suc (suc zero))))) = codes "Crunchy"
prefix_text n = signed_decimal n

-- a URL in quotes
abbrev pub url_text : List ℕ → List ℕ
url_text url = if list_all is_ascii url then 34 ∷ (flat_map (debug_escape 34) url ++ 34 ∷ []) else codes "(not ASCII)"

-- the end of a key: its prefix type
abbrev pub last_text : KeyInfo → List ℕ
last_text k = codes ", output_prefix_type: " ++ (prefix_text k.output_prefix_type ++ codes " }")

-- its status and id before
abbrev pub use_text : KeyInfo → List ℕ
use_text k = codes ", status: " ++ (status_text k.status ++ (codes ", key_id: " ++ (decimal k.key_id ++ last_text k)))

-- one key
abbrev pub key_text : KeyInfo → List ℕ
key_text k = codes "KeyInfo { type_url: " ++ (url_text k.type_url ++ use_text k)

-- a further key
abbrev pub further_text : KeyInfo → List ℕ
further_text k = codes ", " ++ key_text k

-- all keys
abbrev pub keys_text : List KeyInfo → List ℕ
keys_text [] = []
keys_text (k ∷ ks) = key_text k ++ flat_map further_text ks

abbrev pub info_text : KeysetInfo → List ℕ
info_text i = codes "KeysetInfo { primary_key_id: " ++ (decimal i.primary_key_id ++ (codes ", key_info: [" ++ (keys_text i.key_info ++ codes "] }")))
