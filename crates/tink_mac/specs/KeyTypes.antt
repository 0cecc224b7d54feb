-- The keys of HMAC and AES-CMAC: what they build, and what their formats make.
use Rattle.std.specs.Prelude.{ℕ, List, Bool, false, Option, Some, None, Result, Ok, Err, nat_eq, length, if◌then◌else◌, codes, is_ok}
use Rattle.tink_io.specs.declared.error.Kind.{Kind}
use Rattle.tink_io.specs.declared.error.Kind.TheVariants.{InvalidKey}
use Rattle.tink_proto.specs.Enums.{hash_number}
use Rattle.tink_proto.specs.declared.enums.HashType.{HashType}
use Rattle.tink_proto.specs.declared.enums.OutputPrefixType.TheVariants.{Tink}
use Rattle.tink_proto.specs.declared.messages.keys.KeyTemplate.{KeyTemplate}
use Rattle.tink_proto_keys.specs.Mac.{HmacKeyFormat, HmacKey, aes_cmac_key_format, hmac_key_format}
use Rattle.tink_proto_keys.specs.declared.mac.HmacParams.{HmacParams}
use Rattle.tink_proto_keys.specs.declared.mac.AesCmacKey.{AesCmacKey}
use Rattle.tink_proto_keys.specs.declared.mac.AesCmacKeyFormat.{AesCmacKeyFormat}
use Rattle.tink_proto_keys.specs.declared.mac.AesCmacParams.{AesCmacParams}
use Rattle.tink_core_subtle.specs.Hashes.{hash_named}
use Rattle.tink_key_manager.specs.Templates.{template_of}
use Rattle.tink_key_manager.specs.HashTypes.{hash_type_of}
use Rattle.tink_mac.specs.Tags.{cmac_params, hmac_params, hmac_tags, CmacTags, HmacTags}

-- a value, or `InvalidKey` for every refusal
abbrev pub or_invalid : {A : Type 0} → Result A Kind → Result A Kind
or_invalid (Ok v) = Ok v
or_invalid (Err _) = Err InvalidKey

-- ---- HMAC

abbrev pub hmac_url : List ℕ
hmac_url = codes "type.googleapis.com/google.crypto.tink.HmacKey"

abbrev pub hmac_by_params : Option HmacParams → List ℕ → Result HmacTags Kind
hmac_by_params None key = Err InvalidKey
hmac_by_params (Some p) key = or_invalid (hmac_tags (hash_named (hash_type_of p.hash)) key p.tag_size)

-- a key of version 0, with params of which there is an HMAC
abbrev pub hmac_built : HmacKey → Result HmacTags Kind
hmac_built k = if nat_eq k.version 0 then hmac_by_params k.params k.key_value else Err InvalidKey

abbrev pub are_hmac_params : Option HmacParams → ℕ → Bool
are_hmac_params None key_size = false
are_hmac_params (Some p) key_size = is_ok (hmac_params (hash_named (hash_type_of p.hash)) key_size p.tag_size)

abbrev pub new_hmac_key : HmacKeyFormat → List ℕ → HmacKey
new_hmac_key f key = record { version = 0; params = f.params; key_value = key }

-- the format of keys of a size with tags of a size
abbrev pub hmac_format : ℕ → HashType → ℕ → HmacKeyFormat
hmac_format key_size hash tag_size =
    record { params = Some (record { hash = hash_number hash; tag_size = tag_size }); key_size = key_size; version = 0 }

abbrev pub hmac_template : ℕ → HashType → ℕ → KeyTemplate
hmac_template key_size hash tag_size = template_of hmac_url hmac_key_format (hmac_format key_size hash tag_size) Tink

-- ---- AES-CMAC

abbrev pub cmac_url : List ℕ
cmac_url = codes "type.googleapis.com/google.crypto.tink.AesCmacKey"

abbrev pub are_cmac_params : Option AesCmacParams → ℕ → Bool
are_cmac_params None key_size = false
are_cmac_params (Some p) key_size = is_ok (cmac_params key_size p.tag_size)

abbrev pub cmac_by_params : Option AesCmacParams → List ℕ → Result CmacTags Kind
cmac_by_params None key = Err InvalidKey
cmac_by_params (Some p) key =
    if is_ok (cmac_params (length key) p.tag_size)
    then Ok (record { key = key; tag_size = p.tag_size }) else Err InvalidKey

-- a key of version 0, of 32 bytes and with tags of 10 to 16
abbrev pub cmac_built : AesCmacKey → Result CmacTags Kind
cmac_built k = if nat_eq k.version 0 then cmac_by_params k.params k.key_value else Err InvalidKey

abbrev pub new_cmac_key : AesCmacKeyFormat → List ℕ → AesCmacKey
new_cmac_key f key = record { version = 0; key_value = key; params = f.params }

abbrev pub cmac_format : ℕ → ℕ → AesCmacKeyFormat
cmac_format key_size tag_size = record { key_size = key_size; params = Some (record { tag_size = tag_size }) }

abbrev pub cmac_template : ℕ → ℕ → KeyTemplate
cmac_template key_size tag_size = template_of cmac_url aes_cmac_key_format (cmac_format key_size tag_size) Tink
