-- The prefix type of a number.
use Rattle.std.proofs.Common.{◌≡◌, ℤ, true, false, None, refl, sym}
use Rattle.std.specs.Ordering.{int_eq}
use Rattle.std.proofs.lemmas.Bool.Decides.{Decides-int_eq}
use Rattle.tink_proto.specs.declared.enums.OutputPrefixType.{OutputPrefixType}
use Rattle.tink_proto.specs.declared.enums.OutputPrefixType.TheVariants.{Tink, Legacy, Raw, Crunchy}
use Rattle.tink_proto.specs.Enums.{prefix_number}
use Rattle.tink_sets.specs.Prefixes.{known_type}

apart : (n m : ℤ) → (m ≡ n → ⊥) → int_eq n m ≡ false
apart n m not =
    (elim (int_eq n m) as (λ b. int_eq n m ≡ b → b ≡ false) [
      | true ↦ λ e. absurd (not (sym ((Decides-int_eq n m).0 e)))
      | false ↦ λ e. refl
    ]) refl

-- a number that no type has
pub known_type-none : (n : ℤ) → ((e : OutputPrefixType) → prefix_number e ≡ n → ⊥) → known_type n ≡ None
known_type-none n not = rw (apart n (prefix_number Tink) (not Tink), apart n (prefix_number Legacy) (not Legacy), apart n (prefix_number Crunchy) (not Crunchy), apart n (prefix_number Raw) (not Raw)) refl
