-- HMAC as a pseudorandom function.
use Rattle.std.specs.Prelude.{ℕ, List, take, nat_lt, if◌then◌else◌, Option, Some, None, Result, Ok, Err}
use Rattle.hash_keys.specs.declared.Hash.{Hash}
use Rattle.hash_keys.specs.Hash.{digest_size, hmac_of}
use Rattle.tink_io.specs.declared.error.Kind.{Kind}
use Rattle.tink_io.specs.declared.error.Kind.TheVariants.{BadKeySize, OutputTooLong, UnknownHash}
use Rattle.tink_primitives.specs.Meaning.{IsTold}
use Rattle.tink_primitives.specs.MeaningLaws.{told_if}

-- a key of HMAC with its hash
pub record HmacKey : Type 0 where
  pub hash : Hash
  pub key : List ℕ

-- the first n bytes of HMAC (FIPS 198-1, 4 and 5)
abbrev pub hmac_output : HmacKey → List ℕ → ℕ → Result (List ℕ) Kind
hmac_output k input n =
    if nat_lt (digest_size k.hash) n then Err OutputTooLong else Ok (take n (hmac_of k.hash k.key input))

pub hmac_output_told : (k : HmacKey) (input : List ℕ) (n : ℕ) → IsTold (hmac_output k input n)
hmac_output_told k input n =
    told_if (nat_lt (digest_size k.hash) n) (Err OutputTooLong) (Ok (take n (hmac_of k.hash k.key input))) tt tt

-- a key, or the refusal of the unknown hash
abbrev pub hmac_key : Option Hash → List ℕ → Result HmacKey Kind
hmac_key None key = Err UnknownHash
hmac_key (Some h) key = Ok (record { hash = h; key = key })

abbrev pub hmac_hash : Option Hash → Result (Unit {0}) Kind
hmac_hash None = Err UnknownHash
hmac_hash (Some _) = Ok tt

-- keys are made of at least 16 bytes
abbrev pub hmac_params : Option Hash → ℕ → Result (Unit {0}) Kind
hmac_params hash n = if nat_lt n 16 then Err BadKeySize else hmac_hash hash
