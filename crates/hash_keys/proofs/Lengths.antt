-- How long digests, HMAC and HKDF are.
use Rattle.std.proofs.Common.{◌≡◌, ◌≤◌, ◌<◌, ◌+◌, ◌-◌, ◌*◌, ◌/◌, ℕ, zero, suc, List, length, refl, lit≤, arith, length-append}
use Rattle.std.proofs.lemmas.List.{length-take-le}
use Rattle.std.proofs.Math.Nat.{lt_of_mul-lt-mul_left}
use Rattle.std.specs.Prelude.{slice_index}
use Rattle.std.specs.Int.{to_be_bytes, w32}
use Rattle.sha1.specs.Sha1.{digest_bytes, sha1}
use Rattle.sha2.proofs.Facts256.{length-sha224, length-sha256}
use Rattle.sha2.proofs.Facts512.{length-sha384, length-sha512}
use Rattle.standards.specs.Hmac.{hmac}
use Rattle.standards.specs.Hkdf.{hkdf, expand, expand_block}
use Rattle.hash_keys.specs.Hash.{hash_of, block_size, digest_size, hmac_of, hkdf_of}
use Rattle.hash_keys.specs.declared.Hash.{Hash}
use Rattle.hash_keys.specs.declared.Hash.TheVariants.{Sha1, Sha224, Sha256, Sha384, Sha512}

length-digest_bytes : (words : List ℕ) (n : ℕ) → length (digest_bytes words n) ≡ n * 4
unfolding digest_bytes
length-digest_bytes words zero = refl
length-digest_bytes words (suc n) =
    let last : length (to_be_bytes w32 (slice_index words n)) ≡ 4 = refl in
    omega (arith, length-digest_bytes words n, length-append (digest_bytes words n) (to_be_bytes w32 (slice_index words n)))

pub length-sha1 : (m : List ℕ) → length (sha1 m) ≡ 20
unfolding sha1
length-sha1 m = length-digest_bytes _ 5

-- a digest has 20 to 64 bytes
pub digest_size-within : (h : Hash) → (20 ≤ digest_size h) × (digest_size h ≤ 64)
digest_size-within Sha1 = (lit≤ tt, lit≤ tt)
digest_size-within Sha224 = (lit≤ tt, lit≤ tt)
digest_size-within Sha256 = (lit≤ tt, lit≤ tt)
digest_size-within Sha384 = (lit≤ tt, lit≤ tt)
digest_size-within Sha512 = (lit≤ tt, lit≤ tt)

pub length-hash_of : (h : Hash) (m : List ℕ) → length (hash_of h m) ≡ digest_size h
length-hash_of Sha1 m = length-sha1 m
length-hash_of Sha224 m = length-sha224 m
length-hash_of Sha256 m = length-sha256 m
length-hash_of Sha384 m = length-sha384 m
length-hash_of Sha512 m = length-sha512 m

pub length-hmac_of : (h : Hash) (key text : List ℕ) → length (hmac_of h key text) ≡ digest_size h
unfolding hmac
length-hmac_of h key text = length-hash_of h _

length-expand_block : (h : Hash) (key info : List ℕ) (i : ℕ) → length (expand_block (hash_of h) (block_size h) key info (suc i)) ≡ digest_size h
unfolding expand_block
length-expand_block h key info i = length-hmac_of h key _

pub length-expand : (h : Hash) (key info : List ℕ) (n : ℕ) → length (expand (hash_of h) (block_size h) key info n) ≡ digest_size h * n
unfolding expand
length-expand h key info zero = omega arith
length-expand h key info (suc n) =
    omega (arith, length-expand h key info n, length-expand_block h key info n, length-append {A = ℕ})

-- so many blocks of HKDF are enough
enough_blocks : (size len : ℕ) → 0 < size → len ≤ size * ((len + size - 1) / size)
enough_blocks size len some = omega arith

-- and one fewer is not
pub just_enough_blocks : (size len n : ℕ) → 0 < size → len ≤ size * n → size * n < len + size → n ≡ (len + size - 1) / size
just_enough_blocks size len n some enough just =
    let low : size * n < size * ((len + size - 1) / size + 1) = omega arith in
    let high : size * ((len + size - 1) / size) < size * (n + 1) = omega arith in
    let at_most : n < (len + size - 1) / size + 1 = lt_of_mul-lt-mul_left size low in
    let at_least : (len + size - 1) / size < n + 1 = lt_of_mul-lt-mul_left size high in
    omega arith

-- HKDF gives as many bytes as it is asked for (the standard allows up to 255 digests)
pub length-hkdf_of : (h : Hash) (ikm salt info : List ℕ) (len : ℕ) → length (hkdf_of h ikm salt info len) ≡ len
unfolding hkdf
length-hkdf_of h ikm salt info len =
    let some : 0 < digest_size h = omega (arith, digest_size-within h) in
    length-take-le len _ (omega (arith, length-expand h (hmac_of h salt ikm) info ((len + digest_size h - 1) / digest_size h), enough_blocks (digest_size h) len some))
