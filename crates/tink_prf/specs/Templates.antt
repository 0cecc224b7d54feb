-- The templates of keys for pseudorandom functions. None has a prefix.
use Rattle.std.specs.Prelude.{ℕ, List, [], ◌∷◌, codes, Some}
use Rattle.tink_proto.specs.declared.enums.HashType.{HashType}
use Rattle.tink_proto.specs.declared.enums.HashType.TheVariants.{Sha256, Sha512}
use Rattle.tink_proto.specs.declared.enums.OutputPrefixType.TheVariants.{Raw}
use Rattle.tink_proto.specs.declared.messages.keys.KeyTemplate.{KeyTemplate}
use Rattle.tink_proto.specs.Enums.{hash_number}
use Rattle.tink_proto_keys.specs.Prf.{aes_cmac_prf_key_format, hkdf_prf_key_format, hmac_prf_key_format}
use Rattle.tink_key_manager.specs.Templates.{template_of}
use Rattle.tink_prf.specs.KeyTypes.{aes_cmac_prf_url, hkdf_prf_url, hmac_prf_url}

-- HMAC keys of n bytes
abbrev pub hmac_prf_template : ℕ → HashType → KeyTemplate
hmac_prf_template n hash =
    template_of hmac_prf_url hmac_prf_key_format
    (record { params = Some (record { hash = hash_number hash }); key_size = n; version = 0 }) Raw

-- HKDF keys of n bytes, without a salt
abbrev pub hkdf_prf_template : ℕ → HashType → KeyTemplate
hkdf_prf_template n hash =
    template_of hkdf_prf_url hkdf_prf_key_format
    (record { params = Some (record { hash = hash_number hash; salt = [] }); key_size = n; version = 0 }) Raw

-- AES-CMAC keys of n bytes
abbrev pub aes_cmac_prf_template : ℕ → KeyTemplate
aes_cmac_prf_template n =
    template_of aes_cmac_prf_url aes_cmac_prf_key_format (record { key_size = n; version = 0 }) Raw

-- the registered templates under their names
abbrev pub prf_templates : List (List ℕ × KeyTemplate)
prf_templates =
    (codes "HKDF_SHA256", hkdf_prf_template 32 Sha256)
    ∷ (codes "HMAC_SHA256_PRF", hmac_prf_template 32 Sha256)
    ∷ (codes "HMAC_SHA512_PRF", hmac_prf_template 64 Sha512)
    ∷ (codes "AES_CMAC_PRF", aes_cmac_prf_template 32)
    ∷ []
