-- HKDF as a pseudorandom function.
use Rattle.std.specs.Prelude.{ℕ, ◌*◌, List, nat_lt, if◌then◌else◌, Option, Some, None, Result, Ok, Err}
use Rattle.hash_keys.specs.declared.Hash.{Hash}
use Rattle.hash_keys.specs.declared.Hash.TheVariants.{Sha1, Sha256, Sha512}
use Rattle.hash_keys.specs.Hash.{digest_size, hkdf_of}
use Rattle.tink_io.specs.declared.error.Kind.{Kind}
use Rattle.tink_io.specs.declared.error.Kind.TheVariants.{BadKeySize, OutputTooLong, UnknownHash, UnsupportedHash}
use Rattle.tink_primitives.specs.Meaning.{IsTold}
use Rattle.tink_primitives.specs.MeaningLaws.{told_if}

-- a key of HKDF, its input key material, with its hash and its salt
pub record HkdfKey : Type 0 where
  pub hash : Hash
  pub key : List ℕ
  pub salt : List ℕ

-- n bytes of HKDF with the input as its info (RFC 5869, 2.2 and 2.3)
abbrev pub hkdf_output : HkdfKey → List ℕ → ℕ → Result (List ℕ) Kind
hkdf_output k input n =
    if nat_lt (255 * digest_size k.hash) n then Err OutputTooLong else Ok (hkdf_of k.hash k.key k.salt input n)

pub hkdf_output_told : (k : HkdfKey) (input : List ℕ) (n : ℕ) → IsTold (hkdf_output k input n)
hkdf_output_told k input n =
    told_if (nat_lt (255 * digest_size k.hash) n) (Err OutputTooLong) (Ok (hkdf_of k.hash k.key k.salt input n)) tt tt

-- a key with SHA-1, SHA-256 or SHA-512, or the refusal of another hash
abbrev pub hkdf_key : Option Hash → List ℕ → List ℕ → Result HkdfKey Kind
hkdf_key (Some Sha1) key salt = Ok (record { hash = Sha1; key = key; salt = salt })
hkdf_key (Some Sha256) key salt = Ok (record { hash = Sha256; key = key; salt = salt })
hkdf_key (Some Sha512) key salt = Ok (record { hash = Sha512; key = key; salt = salt })
hkdf_key _ key salt = Err UnsupportedHash

-- keys are made with SHA-256 and SHA-512 alone
abbrev pub hkdf_hash : Option Hash → Result (Unit {0}) Kind
hkdf_hash None = Err UnknownHash
hkdf_hash (Some Sha256) = Ok tt
hkdf_hash (Some Sha512) = Ok tt
hkdf_hash (Some _) = Err UnsupportedHash

-- and of at least 32 bytes
abbrev pub hkdf_params : Option Hash → ℕ → Result (Unit {0}) Kind
hkdf_params hash n = if nat_lt n 32 then Err BadKeySize else hkdf_hash hash
