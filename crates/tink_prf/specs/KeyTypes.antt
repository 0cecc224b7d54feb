-- The keys of pseudorandom functions: what a key builds, and which key a format makes.
use Rattle.std.specs.Prelude.{◌≡◌, ℤ, ℕ, List, [], length, codes, ◌&&◌, Option, Some, None, option_map, Result, Ok, Err, if◌then◌else◌, nat_eq}
use Rattle.wire_format.specs.Reading.{◌>>=◌}
use Rattle.hash_keys.specs.declared.Hash.{Hash}
use Rattle.tink_io.specs.declared.error.Kind.{Kind}
use Rattle.tink_io.specs.declared.error.Kind.TheVariants.{InvalidKey}
use Rattle.tink_primitives.specs.Meaning.{IsTold}
use Rattle.tink_proto.specs.declared.enums.HashType.{HashType}
use Rattle.tink_proto_keys.specs.declared.prf.HmacPrfParams.{HmacPrfParams}
use Rattle.tink_proto_keys.specs.Prf.{HmacPrfKey}
use Rattle.tink_proto_keys.specs.declared.prf.HkdfPrfParams.{HkdfPrfParams}
use Rattle.tink_proto_keys.specs.declared.prf.HkdfPrfKey.{HkdfPrfKey}
use Rattle.tink_proto_keys.specs.declared.prf.AesCmacPrfKey.{AesCmacPrfKey}
use Rattle.tink_core_subtle.specs.Hashes.{hash_named}
use Rattle.tink_key_manager.specs.HashTypes.{hash_type_of}
use Rattle.tink_prf_subtle.specs.Hmac.{HmacKey, hmac_params}
use Rattle.tink_prf_subtle.specs.Hkdf.{HkdfKey, hkdf_params}

-- the primitive of a key, or `InvalidKey` where there is none
abbrev pub built_of : {T P : Type 0} → (T → P) → Option T → Result P Kind
built_of primitive None = Err InvalidKey
built_of primitive (Some key) = Ok (primitive key)

pub built_of_told : {T P : Type 0} (primitive : T → P) (key : Option T) → IsTold (built_of primitive key)
built_of_told primitive None = tt
built_of_told primitive (Some key) = tt

-- the hash, where its params are accepted
abbrev pub where_accepted : Result (Unit {0}) Kind → Option Hash → Option Hash
where_accepted (Ok _) hash = hash
where_accepted (Err _) hash = None

-- the hash of a number as a message holds it
abbrev pub hash_numbered : ℤ → Option Hash
hash_numbered n = hash_named (hash_type_of n)

-- a type whose hash is this one, or none where there is none
abbrev pub IsTypeOf : Option HashType → Option Hash → Type 0
IsTypeOf None hash = hash ≡ None
IsTypeOf (Some t) hash = (h : Hash) × (hash ≡ Some h) × (hash_named t ≡ Some h)

-- ---- HMAC

abbrev pub hmac_prf_url : List ℕ
hmac_prf_url = codes "type.googleapis.com/google.crypto.tink.HmacPrfKey"

-- the hash of keys of n bytes with these params: there are params, with a known hash, and n is at least 16
abbrev pub hmac_prf_hash : Option HmacPrfParams → ℕ → Option Hash
hmac_prf_hash params n = params >>= λ p. where_accepted (hmac_params (hash_numbered p.hash) n) (hash_numbered p.hash)

-- the key of a message of version 0
abbrev pub hmac_prf_key_of : HmacPrfKey → Option HmacKey
hmac_prf_key_of m =
    if nat_eq m.version 0
    then option_map (λ h. record { hash = h; key = m.key_value }) (hmac_prf_hash m.params (length m.key_value))
    else None

abbrev pub new_hmac_prf_key : Option HmacPrfParams → List ℕ → HmacPrfKey
new_hmac_prf_key params value = record { version = 0; params = params; key_value = value }

-- ---- HKDF

abbrev pub hkdf_prf_url : List ℕ
hkdf_prf_url = codes "type.googleapis.com/google.crypto.tink.HkdfPrfKey"

-- the hash of keys of n bytes with these params: there are params, with SHA-256 or SHA-512, and n is at least 32
abbrev pub hkdf_prf_hash : Option HkdfPrfParams → ℕ → Option Hash
hkdf_prf_hash params n = params >>= λ p. where_accepted (hkdf_params (hash_numbered p.hash) n) (hash_numbered p.hash)

-- the salt of params
abbrev pub salt_of : Option HkdfPrfParams → List ℕ
salt_of None = []
salt_of (Some p) = p.salt

-- the key of a message of version 0
abbrev pub hkdf_prf_key_of : HkdfPrfKey → Option HkdfKey
hkdf_prf_key_of m =
    if nat_eq m.version 0
    then option_map (λ h. record { hash = h; key = m.key_value; salt = salt_of m.params })
    (hkdf_prf_hash m.params (length m.key_value))
    else None

abbrev pub new_hkdf_prf_key : Option HkdfPrfParams → List ℕ → HkdfPrfKey
new_hkdf_prf_key params value = record { version = 0; params = params; key_value = value }

-- ---- AES-CMAC

abbrev pub aes_cmac_prf_url : List ℕ
aes_cmac_prf_url = codes "type.googleapis.com/google.crypto.tink.AesCmacPrfKey"

-- the key of a message of version 0, of 32 bytes
abbrev pub aes_cmac_prf_key_of : AesCmacPrfKey → Option (List ℕ)
aes_cmac_prf_key_of m = if nat_eq m.version 0 && nat_eq (length m.key_value) 32 then Some m.key_value else None

abbrev pub new_aes_cmac_prf_key : List ℕ → AesCmacPrfKey
new_aes_cmac_prf_key value = record { version = 0; key_value = value }
