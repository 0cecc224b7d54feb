-- Converting a list step by step.
use Rattle.std.proofs.Common.{◌≡◌, ◌∙◌, ℕ, suc, ◌+◌, ◌<◌, ◌++◌, ◌∷◌, [], List, Ok, Err, Result, Some, None, Option, length, drop, get_or, refl, sym, ap, append_assoc, add-one, drop-cons}
use Rattle.tink_io.specs.declared.error.Kind.{Kind}
use Rattle.tink_io.specs.Answering.{made_of}
use Rattle.std.specs.Prelude.{Vec}
use Rattle.std.specs.BTreeMap.{BTreeMap}
use Rattle.tink_set_groups.specs.Groups.{group_at, HaveSameGroups}
use Rattle.tink_set_groups.specs.Converting.{before, converted, IsConverted, AreConverted, HasRefused}

-- one value more
pub one_more : {B : Type 0} (all : List B) (v : B) (rest : Result (List B) Kind) → made_of (λ vs. all ++ vs) (before (Ok v) rest) ≡ made_of (λ vs. (all ++ v ∷ []) ++ vs) rest
one_more all v (Ok vs) = ap Ok (sym (append_assoc all (v ∷ []) vs))
one_more all v (Err k) = refl

pub none_before : {B : Type 0} (rest : Result (List B) Kind) → rest ≡ made_of (λ vs. [] ++ vs) rest
none_before (Ok vs) = refl
none_before (Err k) = refl

-- the value at a place stands first of what is left
pub here : {A B : Type 0} (f : A → Result B Kind) (xs : List A) (i : ℕ) (x d : A) → i < length xs → x ≡ get_or xs i d → converted f (drop i xs) ≡ before (f x) (converted f (drop (i + 1) xs))
here f xs i x d h e = rw (add-one) (ap (converted f) (drop-cons xs i d h) ∙ ap (λ y. before (f y) (converted f (drop (suc i) xs))) (sym e))

pub converted-same : {A : Type 0} (xs : List A) → converted (λ x. Ok x) xs ≡ Ok xs
converted-same [] = refl
converted-same (x ∷ xs) = ap (λ r. before (Ok x) r) (converted-same xs)

same : {A : Type 0} (o q : Option (List A)) → IsConverted (λ (x : A). Ok x) o q → q ≡ o
same None None h = refl
same None (Some ys) h = absurd h
same (Some xs) None h = absurd h
same (Some xs) (Some ys) h = let whole = converted-same xs in let is : ys ≡ xs = cc in ap Some is

-- lists that are converted to themselves
pub copied : {E A : Type 0} (m n : BTreeMap (Vec ℕ A) (List E)) → AreConverted (λ (x : E). Ok x) m n → HaveSameGroups m n
copied m n h p = same (group_at m p) (group_at n p) (h p)

pub never_refused : {E A : Type 0} (m : BTreeMap (Vec ℕ A) (List E)) (k : Kind) → HasRefused (λ (x : E). Ok x) m k → ⊥
never_refused m k h = let whole = converted-same h.entries in let refused = h.refused in absurd (cc)

module _ {A B : Type 0} (f : A → Result B Kind) (xs : List A) (i : ℕ) (x d : A) (all : List B) (so_far : converted f xs ≡ made_of (λ vs. all ++ vs) (converted f (drop i xs)))
    (more : i < length xs) (is : x ≡ get_or xs i d) where
  left : converted f xs ≡ made_of (λ vs. all ++ vs) (before (f x) (converted f (drop (i + 1) xs)))
  left = so_far ∙ ap (made_of (λ vs. all ++ vs)) (here f xs i x d more is)

  -- the value at a place is converted, and stands behind those before
  pub went_on : (v : B) (now : List B) → f x ≡ Ok v → now ≡ all ++ v ∷ [] → converted f xs ≡ made_of (λ vs. now ++ vs) (converted f (drop (i + 1) xs))
  went_on v now one put =
      let rest = converted f (drop (i + 1) xs) in
      left ∙ ap (λ r. made_of (λ vs. all ++ vs) (before r rest)) one ∙ one_more all v rest ∙ ap (λ o. made_of (λ vs. o ++ vs) rest) (sym put)

  -- the value at a place is refused
  pub stopped : (k : Kind) → f x ≡ Err k → converted f xs ≡ Err k
  stopped k refused = left ∙ ap (λ r. made_of (λ vs. all ++ vs) (before r (converted f (drop (i + 1) xs)))) refused
