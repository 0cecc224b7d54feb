-- The hashes by name, with HMAC and HKDF over them.
use Rattle.std.specs.Prelude.{ℕ, List}
use Rattle.sha1.specs.Sha1.{sha1}
use Rattle.sha2.specs.Sha256.{sha224, sha256}
use Rattle.sha2.specs.Sha512.{sha384, sha512}
use Rattle.standards.specs.Hmac.{hmac}
use Rattle.standards.specs.Hkdf.{hkdf}
use Rattle.hash_keys.specs.declared.Hash.{Hash}
use Rattle.hash_keys.specs.declared.Hash.TheVariants.{Sha1, Sha224, Sha256, Sha384, Sha512}

-- the digest of a message (FIPS 180-4)
abbrev pub hash_of : Hash → List ℕ → List ℕ
hash_of Sha1 = sha1
hash_of Sha224 = sha224
hash_of Sha256 = sha256
hash_of Sha384 = sha384
hash_of Sha512 = sha512

-- bytes of a block (FIPS 180-4, figure 1)
abbrev pub block_size : Hash → ℕ
block_size Sha1 = 64
block_size Sha224 = 64
block_size Sha256 = 64
block_size Sha384 = 128
block_size Sha512 = 128

-- bytes of a digest (FIPS 180-4, figure 1)
abbrev pub digest_size : Hash → ℕ
digest_size Sha1 = 20
digest_size Sha224 = 28
digest_size Sha256 = 32
digest_size Sha384 = 48
digest_size Sha512 = 64

-- HMAC of a text under a key (FIPS 198-1)
abbrev pub hmac_of : Hash → List ℕ → List ℕ → List ℕ
hmac_of h key text = hmac (hash_of h) (block_size h) key text

-- len bytes of HKDF from the input key material, under a salt and an info (RFC 5869)
abbrev pub hkdf_of : Hash → List ℕ → List ℕ → List ℕ → ℕ → List ℕ
hkdf_of h ikm salt info len = hkdf (hash_of h) (block_size h) (digest_size h) ikm salt info len
