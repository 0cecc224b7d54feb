-- HMAC and AES-CMAC with tags of a size.
use Rattle.std.specs.Prelude.{ℕ, List, length, take, Bool, ◌||◌, nat_eq, nat_lt, if◌then◌else◌, Option, Some, None, Result, Ok, Err}
use Rattle.std.specs.Str.{bytes_eq}
use Rattle.hash_keys.specs.declared.Hash.{Hash}
use Rattle.hash_keys.specs.Hash.{digest_size, hmac_of}
use Rattle.tink_io.specs.declared.error.Kind.{Kind}
use Rattle.tink_io.specs.declared.error.Kind.TheVariants.{BadKeySize, BadTagSize, MacMismatch, UnknownHash}
use Rattle.tink_prf_subtle.specs.AesCmac.{cmac_of, is_aes_key_size}
use Rattle.tink_prf_subtle.specs.Hmac.{HmacKey}

-- a tag is accepted exactly where it is the message's own
abbrev pub own_tag : List ℕ → List ℕ → Result (Unit {0}) Kind
own_tag own tag = if bytes_eq own tag then Ok tt else Err MacMismatch

abbrev pub is_outside : ℕ → ℕ → ℕ → Bool
is_outside low high n = nat_lt n low || nat_lt high n

-- ---- HMAC

-- a key of HMAC with its hash, and the size of the tags
pub record HmacTags : Type 0 where
  pub hmac : HmacKey
  pub tag_size : ℕ

-- the first bytes of HMAC (FIPS 198-1, 4 and 5)
abbrev pub hmac_tag : HmacTags → List ℕ → List ℕ
hmac_tag m message = take m.tag_size (hmac_of m.hmac.hash m.hmac.key message)

-- tags of 10 bytes to a digest, under keys of at least 16 bytes
abbrev pub hmac_params : Option Hash → ℕ → ℕ → Result (Unit {0}) Kind
hmac_params None key_size tag_size = Err UnknownHash
hmac_params (Some h) key_size tag_size =
    if is_outside 10 (digest_size h) tag_size then Err BadTagSize
    else (if nat_lt key_size 16 then Err BadKeySize else Ok tt)

abbrev pub hmac_tags : Option Hash → List ℕ → ℕ → Result HmacTags Kind
hmac_tags None key tag_size = Err UnknownHash
hmac_tags (Some h) key tag_size =
    if is_outside 10 (digest_size h) tag_size then Err BadTagSize
    else (if nat_lt (length key) 16 then Err BadKeySize
    else Ok (record { hmac = record { hash = h; key = key }; tag_size = tag_size }))

-- ---- AES-CMAC

-- a key of AES, and the size of the tags
pub record CmacTags : Type 0 where
  pub key : List ℕ
  pub tag_size : ℕ

-- the first bytes of CMAC over AES (SP 800-38B, 6.2; FIPS 197)
abbrev pub cmac_tag : CmacTags → List ℕ → List ℕ
cmac_tag m message = take m.tag_size (cmac_of m.key message)

-- keys of 32 bytes, with tags of 10 to 16 bytes
abbrev pub cmac_params : ℕ → ℕ → Result (Unit {0}) Kind
cmac_params key_size tag_size =
    if nat_eq key_size 32 then (if is_outside 10 16 tag_size then Err BadTagSize else Ok tt) else Err BadKeySize

-- tags of 10 to 16 bytes, under any key of AES
abbrev pub cmac_tags : List ℕ → ℕ → Result CmacTags Kind
cmac_tags key tag_size =
    if nat_lt (length key) 16 then Err BadKeySize
    else (if is_outside 10 16 tag_size then Err BadTagSize
    else (if is_aes_key_size (length key) then Ok (record { key = key; tag_size = tag_size }) else Err BadKeySize))
