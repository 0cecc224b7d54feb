-- The keys of AES in counter mode with HMAC: which build, and what their formats make.
use Rattle.std.specs.Prelude.{ℕ, List, Bool, false, ◌&&◌, Option, Some, None, Result, Ok, Err, codes, nat_eq, nat_le, if◌then◌else◌}
use Rattle.tink_io.specs.declared.error.Kind.{Kind}
use Rattle.tink_io.specs.declared.error.Kind.TheVariants.{InvalidFormat, InvalidKey}
use Rattle.tink_io.specs.Answering.{made_of}
use Rattle.tink_core_subtle.specs.Random.{takes_bytes}
use Rattle.tink_proto.specs.declared.enums.HashType.{HashType}
use Rattle.tink_proto.specs.declared.enums.OutputPrefixType.TheVariants.{Tink}
use Rattle.tink_proto.specs.declared.messages.keys.KeyTemplate.{KeyTemplate}
use Rattle.tink_proto_keys.specs.AesCtrHmac.{AesCtrKey, aes_ctr_hmac_aead_key_format}
use Rattle.tink_proto_keys.specs.declared.aes_ctr_hmac.AesCtrHmacAeadKey.{AesCtrHmacAeadKey}
use Rattle.tink_proto_keys.specs.declared.aes_ctr_hmac.AesCtrHmacAeadKeyFormat.{AesCtrHmacAeadKeyFormat}
use Rattle.tink_proto_keys.specs.declared.aes_ctr_hmac.AesCtrKeyFormat.{AesCtrKeyFormat}
use Rattle.tink_proto_keys.specs.declared.aes_ctr_hmac.AesCtrParams.{AesCtrParams}
use Rattle.tink_proto_keys.specs.Mac.{HmacKeyFormat, HmacKey}
use Rattle.tink_proto_keys.specs.declared.mac.HmacParams.{HmacParams}
use Rattle.tink_key_manager.specs.Manager.{of_draws}
use Rattle.tink_key_manager.specs.Templates.{template_of}
use Rattle.tink_mac.specs.KeyTypes.{are_hmac_params, hmac_built, hmac_format}
use Rattle.tink_mac.specs.Tags.{HmacTags}
use Rattle.tink_aead_subtle.specs.KeySizes.{is_aes_key_size}
use Rattle.tink_aead.specs.KeyTypes.{is_versioned_key}
use Rattle.tink_aead_subtle.specs.declared.aes_ctr.AesCtr.{AesCtr}
use Rattle.tink_aead_subtle.specs.declared.encrypt_then_authenticate.EncryptThenAuthenticate.{EncryptThenAuthenticate}

abbrev pub composed_url : List ℕ
composed_url = codes "type.googleapis.com/google.crypto.tink.AesCtrHmacAeadKey"

-- params with vectors of 12 to 16 bytes
abbrev pub are_ctr_params : Option AesCtrParams → Bool
are_ctr_params None = false
are_ctr_params (Some p) = nat_le 12 p.iv_size && nat_le p.iv_size 16

-- ---- what a key builds

abbrev pub ctr_by_params : Option AesCtrParams → List ℕ → Result AesCtr Kind
ctr_by_params None key = Err InvalidKey
ctr_by_params (Some p) key = if are_ctr_params (Some p) then Ok (record { key = key; iv_size = p.iv_size }) else Err InvalidKey

-- a cipher of version 0, with an AES key and such params
abbrev pub ctr_built : Option AesCtrKey → Result AesCtr Kind
ctr_built None = Err InvalidKey
ctr_built (Some k) = if is_versioned_key k.version k.key_value then ctr_by_params k.params k.key_value else Err InvalidKey

abbrev pub mac_built : Option HmacKey → Result HmacTags Kind
mac_built None = Err InvalidKey
mac_built (Some k) = hmac_built k

-- the size of the tags of a key, if it has params
abbrev pub tag_size_by : Option HmacParams → ℕ
tag_size_by None = 0
tag_size_by (Some p) = p.tag_size

abbrev pub tag_size_of : Option HmacKey → ℕ
tag_size_of None = 0
tag_size_of (Some k) = tag_size_by k.params

-- a cipher and a MAC, with tags of all that the MAC gives
abbrev pub composed_of : AesCtr → HmacTags → EncryptThenAuthenticate AesCtr HmacTags
composed_of cipher mac = record { ind_cpa_cipher = cipher; mac = mac; tag_size = mac.tag_size }

abbrev pub joined : Result AesCtr Kind → Result HmacTags Kind → Result (EncryptThenAuthenticate AesCtr HmacTags) Kind
joined (Ok cipher) mac = made_of (composed_of cipher) mac
joined (Err k) mac = Err k

-- a key of version 0, whose parts build
abbrev pub composed_built : AesCtrHmacAeadKey → Result (EncryptThenAuthenticate AesCtr HmacTags) Kind
composed_built k = if nat_eq k.version 0 then joined (ctr_built k.aes_ctr_key) (mac_built k.hmac_key) else Err InvalidKey

-- ---- what a format makes

abbrev pub is_composed_format : AesCtrKeyFormat → HmacKeyFormat → Bool
is_composed_format a h = is_aes_key_size a.key_size && are_ctr_params a.params && are_hmac_params h.params h.key_size

-- a key of these bytes
abbrev pub new_composed_key : AesCtrKeyFormat → HmacKeyFormat → List ℕ → List ℕ → AesCtrHmacAeadKey
new_composed_key a h aes_key hmac_key = record {
  version = 0;
  aes_ctr_key = Some (record { version = 0; params = a.params; key_value = aes_key });
  hmac_key = Some (record { version = 0; params = h.params; key_value = hmac_key });
}

-- the HMAC key's bytes are drawn behind the AES key's
abbrev pub with_hmac_key : AesCtrKeyFormat → HmacKeyFormat → Result (List ℕ) Kind × List ℕ → Result AesCtrHmacAeadKey Kind × List ℕ
with_hmac_key a h (Ok aes_key, draws) = of_draws h.key_size (new_composed_key a h aes_key) draws
with_hmac_key a h (Err k, draws) = (Err k, draws)

abbrev pub made_by_parts : Option AesCtrKeyFormat → Option HmacKeyFormat → List ℕ → Result AesCtrHmacAeadKey Kind × List ℕ
made_by_parts (Some a) (Some h) draws = if is_composed_format a h then with_hmac_key a h (takes_bytes a.key_size draws) else (Err InvalidFormat, draws)
made_by_parts _ _ draws = (Err InvalidFormat, draws)

abbrev pub composed_made : AesCtrHmacAeadKeyFormat → List ℕ → Result AesCtrHmacAeadKey Kind × List ℕ
composed_made f draws = made_by_parts f.aes_ctr_key_format f.hmac_key_format draws

-- the template of keys with these sizes in bytes
abbrev pub composed_template : ℕ → ℕ → ℕ → ℕ → HashType → KeyTemplate
composed_template aes_key_size iv_size hmac_key_size tag_size hash =
    let format : AesCtrHmacAeadKeyFormat = record {
      aes_ctr_key_format = Some (record { params = Some (record { iv_size = iv_size }); key_size = aes_key_size });
      hmac_key_format = Some (hmac_format hmac_key_size hash tag_size);
    } in
    template_of composed_url aes_ctr_hmac_aead_key_format format Tink
