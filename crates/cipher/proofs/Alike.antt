-- A list is equal to itself by a test of its parts.
use Rattle.std.proofs.Common.{◌≡◌, ℕ, Bool, true, List, [], ◌∷◌, refl, nat_eq, eq-eqb}
use lib.Pointwise.{pointwise}

pub pointwise-same : {A : Type 0} (eq : A → A → Bool) → ((x : A) → eq x x ≡ true) → (xs : List A) → pointwise eq xs xs ≡ true
pointwise-same eq same [] = refl
pointwise-same eq same (x ∷ xs) = rw same (pointwise-same eq same xs)

pub blocks-same : (xs : List (List ℕ)) → pointwise (pointwise nat_eq) xs xs ≡ true
blocks-same = pointwise-same (pointwise nat_eq) (pointwise-same nat_eq (λ x. eq-eqb x x refl))
