-- The types of hashes and their numbers.
use Rattle.std.proofs.Common.{◌≡◌, ℤ, false, refl, sym}
use Rattle.std.specs.Ordering.{int_eq}
use Rattle.std.proofs.lemmas.Bool.{false_from_ne_true}
use Rattle.std.proofs.lemmas.Bool.Decides.{Decides-int_eq}
use Rattle.tink_proto.specs.Enums.{hash_number}
use Rattle.tink_proto.specs.declared.enums.HashType.{HashType}
use Rattle.tink_proto.specs.declared.enums.HashType.TheVariants.{UnknownHash, Sha1, Sha224, Sha256, Sha384, Sha512}
use Rattle.tink_key_manager.specs.HashTypes.{hash_type_of}

-- each type has its number
pub hash_type_of-hash_number : (e : HashType) → hash_type_of (hash_number e) ≡ e
hash_type_of-hash_number UnknownHash = refl
hash_type_of-hash_number Sha1 = refl
hash_type_of-hash_number Sha224 = refl
hash_type_of-hash_number Sha256 = refl
hash_type_of-hash_number Sha384 = refl
hash_type_of-hash_number Sha512 = refl

-- a number that no type has
pub unnumbered : (n : ℤ) → ((e : HashType) → hash_number e ≡ n → ⊥) → hash_type_of n ≡ UnknownHash
unnumbered n none = simp (other Sha1, other Sha224, other Sha256, other Sha384, other Sha512)
  where
    other : (e : HashType) → int_eq n (hash_number e) ≡ false
    other e = false_from_ne_true (int_eq n (hash_number e)) (λ t. none e (sym ((Decides-int_eq n (hash_number e)).0 t)))
