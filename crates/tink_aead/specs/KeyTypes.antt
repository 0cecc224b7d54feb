-- The keys of the AEADs: which build, and what their formats make.
use Rattle.std.specs.Prelude.{ℕ, List, Bool, ◌&&◌, codes, length, nat_eq}
use Rattle.tink_proto.specs.declared.enums.OutputPrefixType.{OutputPrefixType}
use Rattle.tink_proto.specs.declared.messages.keys.KeyTemplate.{KeyTemplate}
use Rattle.tink_proto_keys.specs.Aead.{aes_gcm_key_format, aes_gcm_siv_key_format}
use Rattle.tink_proto_keys.specs.declared.aead.AesGcmKey.{AesGcmKey}
use Rattle.tink_proto_keys.specs.declared.aead.AesGcmSivKey.{AesGcmSivKey}
use Rattle.tink_key_manager.specs.Templates.{template_of}
use Rattle.tink_aead_subtle.specs.KeySizes.{is_aes_key_size}

-- an AES key of 16 or 32 bytes, in version 0
abbrev pub is_versioned_key : ℕ → List ℕ → Bool
is_versioned_key version key = nat_eq version 0 && is_aes_key_size (length key)

-- ---- AES-GCM

abbrev pub gcm_url : List ℕ
gcm_url = codes "type.googleapis.com/google.crypto.tink.AesGcmKey"

abbrev pub new_gcm_key : List ℕ → AesGcmKey
new_gcm_key key = record { version = 0; key_value = key }

abbrev pub gcm_template : ℕ → OutputPrefixType → KeyTemplate
gcm_template key_size prefix = template_of gcm_url aes_gcm_key_format (record { key_size = key_size; version = 0 }) prefix

-- ---- AES-GCM-SIV

abbrev pub gcm_siv_url : List ℕ
gcm_siv_url = codes "type.googleapis.com/google.crypto.tink.AesGcmSivKey"

abbrev pub new_gcm_siv_key : List ℕ → AesGcmSivKey
new_gcm_siv_key key = record { version = 0; key_value = key }

abbrev pub gcm_siv_template : ℕ → OutputPrefixType → KeyTemplate
gcm_siv_template key_size prefix = template_of gcm_siv_url aes_gcm_siv_key_format (record { version = 0; key_size = key_size }) prefix
