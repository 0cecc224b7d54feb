-- Tests of the elements of a list, by other tests of them.
use Rattle.std.proofs.Common.{◌≡◌, ◌∙◌, ◌||◌, ◌+◌, ◌∷◌, [], ℕ, List, Bool, true, false, Some, None, Option, cond, refl, is_some, arith}
use Rattle.std.specs.Prelude.{find, nat_lt, count_by}
use Rattle.std.specs.Option.{option_map}
use Rattle.std.specs.List.{fold, list_any}
use Rattle.std.proofs.lemmas.Bool.Decides.{nat_tests}

-- one passes where the count is not 0
or_false : (b : Bool) → (b || false) ≡ b
or_false true = refl
or_false false = refl

or_same : (b : Bool) (n : ℕ) → nat_lt 0 n ≡ b → nat_lt 0 (n + 1) ≡ true
or_same b n is = grind (arith, nat_tests)

any-step : (first b a : Bool) (n : ℕ) → nat_lt 0 n ≡ first → (first || (b || a)) ≡ (nat_lt 0 (n + cond b 1 0) || a)
any-step true true a n is = rw (or_same true n is) refl
any-step false true a n is = rw (or_same false n is) refl
any-step first false a n is = let same : n + 0 ≡ n = omega arith in rw (same, is) refl

any-counted : {X : Type 0} (p : X → Bool) (n : ℕ) (xs : List X) → (nat_lt 0 n || list_any p xs) ≡ nat_lt 0 (fold (λ m x. m + cond (p x) 1 0) n xs)
any-counted p n [] = or_false (nat_lt 0 n)
any-counted p n (x ∷ xs) = any-step (nat_lt 0 n) (p x) (list_any p xs) n refl ∙ any-counted p (n + cond (p x) 1 0) xs

pub any-count : {X : Type 0} (p : X → Bool) (xs : List X) → list_any p xs ≡ nat_lt 0 (count_by p xs)
any-count p xs = any-counted p 0 xs

-- and where there is a first one
found-first : {X Y : Type 0} (f : X → Y) (b a : Bool) (x : X) (o : Option X) → a ≡ is_some (option_map f o) → (b || a) ≡ is_some (option_map f (cond b (Some x) o))
found-first f true a x o is = refl
found-first f false a x o is = is

pub any-found : {X Y : Type 0} (f : X → Y) (p : X → Bool) (xs : List X) → list_any p xs ≡ is_some (option_map f (find p xs))
any-found f p [] = refl
any-found f p (x ∷ xs) = found-first f (p x) (list_any p xs) x (find p xs) (any-found f p xs)

pub mapped : {X Y : Type 0} (f : X → Y) (o : Option X) → is_some (option_map f o) ≡ is_some o
mapped f None = refl
mapped f (Some x) = refl
