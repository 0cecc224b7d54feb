-- Hashes and key derivation by the types of hashes.
use Rattle.std.specs.Prelude.{ℕ, ◌*◌, List, Bool, true, false, nat_lt, if◌then◌else◌, Option, Some, None, Result, Ok, Err}
use Rattle.hash_keys.specs.declared.Hash.{Hash}
use Rattle.hash_keys.specs.declared.Hash.TheVariants.{Sha1, Sha224, Sha256, Sha384, Sha512}
use Rattle.hash_keys.specs.Hash.{digest_size, hkdf_of}
use Rattle.tink_io.specs.declared.error.Kind.{Kind}
use Rattle.tink_io.specs.declared.error.Kind.TheVariants as kinds
use Rattle.tink_proto.specs.declared.enums.HashType.{HashType}
use Rattle.tink_proto.specs.declared.enums.HashType.TheVariants as types

-- the hash of a type; none for the unknown one
abbrev pub hash_named : HashType → Option Hash
hash_named types.UnknownHash = None
hash_named types.Sha1 = Some Sha1
hash_named types.Sha224 = Some Sha224
hash_named types.Sha256 = Some Sha256
hash_named types.Sha384 = Some Sha384
hash_named types.Sha512 = Some Sha512

-- the bytes of a digest
abbrev pub size_told : Option Hash → Result ℕ Kind
size_told None = Err kinds.UnknownHash
size_told (Some h) = Ok (digest_size h)

abbrev pub is_sha224 : Hash → Bool
is_sha224 Sha1 = false
is_sha224 Sha224 = true
is_sha224 Sha256 = false
is_sha224 Sha384 = false
is_sha224 Sha512 = false

-- n bytes of HKDF (RFC 5869), or the first refusal that applies
abbrev pub derived : Option Hash → List ℕ → List ℕ → List ℕ → ℕ → Result (List ℕ) Kind
derived None key salt info n = Err kinds.UnknownHash
derived (Some h) key salt info n =
    if nat_lt (255 * digest_size h) n then Err kinds.OutputTooLong
    else (if nat_lt n 10 then Err kinds.TagTooSmall
    else (if is_sha224 h then Err kinds.UnsupportedHash
    else Ok (hkdf_of h key salt info n)))
