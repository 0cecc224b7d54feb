-- The keys of AES-SIV: which build, and what their formats make.
use Rattle.std.specs.Prelude.{ℕ, List, Bool, ◌&&◌, codes, length, nat_eq}
use Rattle.tink_proto.specs.declared.enums.OutputPrefixType.TheVariants.{Tink}
use Rattle.tink_proto.specs.declared.messages.keys.KeyTemplate.{KeyTemplate}
use Rattle.tink_proto_keys.specs.Daead.{aes_siv_key_format}
use Rattle.tink_proto_keys.specs.declared.daead.AesSivKey.{AesSivKey}
use Rattle.tink_key_manager.specs.Templates.{template_of}

abbrev pub aes_siv_url : List ℕ
aes_siv_url = codes "type.googleapis.com/google.crypto.tink.AesSivKey"

-- a key of 64 bytes, in version 0
abbrev pub is_accepted : ℕ → List ℕ → Bool
is_accepted version key = nat_eq version 0 && nat_eq (length key) 64

abbrev pub new_aes_siv_key : List ℕ → AesSivKey
new_aes_siv_key key = record { version = 0; key_value = key }

-- keys of 64 bytes, with a prefix
abbrev pub aes_siv_template : KeyTemplate
aes_siv_template = template_of aes_siv_url aes_siv_key_format (record { key_size = 64; version = 0 }) Tink
