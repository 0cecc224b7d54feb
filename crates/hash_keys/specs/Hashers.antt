-- What hashers hold, and the keys of HMAC that are kept as two of them.
use Rattle.std.specs.Prelude.{◌≡◌, ℕ, List}
use Rattle.sha1.specs.Sha1 as S1
use Rattle.sha2.specs.Hashers.{Holds224, Holds256, Holds384, Holds512}
use Rattle.standards.specs.Hmac.{block_key, pad}
use Rattle.hash_keys.specs.Hash.{block_size, hash_of}
use Rattle.hash_keys.specs.declared.Hash.{Hash}
use Rattle.hash_keys.specs.declared.Hash.TheVariants as hashes
use Rattle.hash_keys.specs.declared.hasher.Hasher.{Hasher}
use Rattle.hash_keys.specs.declared.hasher.Hasher.TheVariants.{Sha1, Sha224, Sha256, Sha384, Sha512}
use Rattle.hash_keys.specs.declared.hmac.HmacKey.{HmacKey}

-- the hash that a hasher computes
abbrev pub name_of : Hasher → Hash
name_of (Sha1 s) = hashes.Sha1
name_of (Sha224 s) = hashes.Sha224
name_of (Sha256 s) = hashes.Sha256
name_of (Sha384 s) = hashes.Sha384
name_of (Sha512 s) = hashes.Sha512

abbrev pub HoldsMessage : Hasher → List ℕ → Type 0
HoldsMessage (Sha1 s) m = S1.Holds s m
HoldsMessage (Sha224 s) m = Holds224 s m
HoldsMessage (Sha256 s) m = Holds256 s m
HoldsMessage (Sha384 s) m = Holds384 s m
HoldsMessage (Sha512 s) m = Holds512 s m

-- the hasher computes this hash, and holds this message
abbrev pub Holds : Hash → Hasher → List ℕ → Type 0
Holds h s m = (name_of s ≡ h) × HoldsMessage s m

-- what is kept is of this key, under this hash: a hasher holds the key's block with the inner pad, another that with the outer pad
-- (FIPS 198-1, 2008, 4, steps 4 and 7, and 6)
pub record IsHmacKey (k : HmacKey) (h : Hash) (key : List ℕ) : Type 0 where
  pub named : k.hash ≡ h
  pub inner : Holds h k.inner (pad (block_key (hash_of h) (block_size h) key) 0x36)
  pub outer : Holds h k.outer (pad (block_key (hash_of h) (block_size h) key) 0x5c)
