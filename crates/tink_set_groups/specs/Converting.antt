-- Converting entries one by one, up to the first refusal.
use Rattle.std.specs.Prelude.{◌≡◌, ⊤, ℕ, List, [], ◌∷◌, Vec, Option, Some, None, Result, Ok, Err}
use Rattle.std.specs.BTreeMap.{BTreeMap}
use Rattle.tink_io.specs.declared.error.Kind.{Kind}
use Rattle.tink_io.specs.Answering.{made_of}
use Rattle.tink_set_groups.specs.Groups.{group_at}

-- a value before those that follow, or the first refusal
abbrev pub before : {B : Type 0} → Result B Kind → Result (List B) Kind → Result (List B) Kind
before (Err k) rest = Err k
before (Ok v) rest = made_of (λ vs. v ∷ vs) rest

-- each converted, or the first refusal
abbrev pub converted : {A B : Type 0} → (A → Result B Kind) → List A → Result (List B) Kind
converted f [] = Ok []
converted f (x ∷ xs) = before (f x) (converted f xs)

-- a list is converted whole, and there is none where there was none
abbrev pub IsConverted : {A B : Type 0} → (A → Result B Kind) → Option (List A) → Option (List B) → Type 0
IsConverted f None None = ⊤
IsConverted f None (Some _) = ⊥
IsConverted f (Some _) None = ⊥
IsConverted f (Some xs) (Some ys) = converted f xs ≡ Ok ys

-- each list of a map is converted whole
abbrev pub AreConverted : {E F A : Type 0} → (E → Result F Kind) → BTreeMap (Vec ℕ A) (List E) → BTreeMap (Vec ℕ A) (List F) → Type 0
AreConverted f old new = (prefix : List ℕ) → IsConverted f (group_at old prefix) (group_at new prefix)

-- some list of a map has an entry that is refused by a kind
pub record HasRefused {E F A : Type 0} (f : E → Result F Kind) (m : BTreeMap (Vec ℕ A) (List E)) (k : Kind) : Type 0 where
  pub prefix : List ℕ
  pub entries : List E
  pub there : group_at m prefix ≡ Some entries
  pub refused : converted f entries ≡ Err k
