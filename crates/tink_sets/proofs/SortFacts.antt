-- What is refused as of another sort.
use Rattle.std.proofs.Common.{◌≡◌, ℕ, List, [], ◌∷◌, Ok, Err, Result, ap, subst}
use Rattle.std.specs.Prelude.{Vec}
use Rattle.std.specs.BTreeMap.{BTreeMap}
use Rattle.tink_io.specs.declared.error.Kind.{Kind}
use Rattle.tink_io.specs.declared.error.Kind.TheVariants.{WrongPrimitive}
use Rattle.tink_io.specs.Answering.{made_of}
use Rattle.tink_primitives.specs.declared.primitive.Primitive.{Primitive}
use Rattle.tink_set_groups.specs.Converting.{before, converted, HasRefused}
use Rattle.tink_sets.specs.Entries.{typed_by, with_primitive}
use Rattle.tink_sets.specs.declared.entry.Entry.{Entry}

abbrev pub OnlyWrong : {A B : Type 0} → (A → Result B Kind) → Type 0
OnlyWrong {A} f = (x : A) (k : Kind) → f x ≡ Err k → k ≡ WrongPrimitive

made_err : {A B : Type 0} (f : A → B) (r : Result A Kind) (k : Kind) → made_of f r ≡ Err k → r ≡ Err k
made_err f (Ok v) k e = absurd (cc)
made_err f (Err j) k e = let same : j ≡ k = cc in ap Err same

before_err : {B : Type 0} (r : Result B Kind) (rest : Result (List B) Kind) (k : Kind) → before r rest ≡ Err k → (r ≡ Err k → k ≡ WrongPrimitive) → (rest ≡ Err k → k ≡ WrongPrimitive) → k ≡ WrongPrimitive
before_err (Ok v) rest k e one others = others (made_err (λ vs. v ∷ vs) rest k e)
before_err (Err j) rest k e one others = let same : j ≡ k = cc in one (ap Err same)

pub converted_wrong : {A B : Type 0} (f : A → Result B Kind) → OnlyWrong f → (xs : List A) (k : Kind) → converted f xs ≡ Err k → k ≡ WrongPrimitive
converted_wrong f law [] k e = absurd (cc)
converted_wrong f law (x ∷ xs) k e = before_err (f x) (converted f xs) k e (law x k) (converted_wrong f law xs k)

module _ {K A D HD HE M P S St V Q : Type 0} (pick : Primitive K A D HD HE M P S St V → Result Q Kind) (law : OnlyWrong pick) where
  pub typed_wrong : OnlyWrong (typed_by pick)
  typed_wrong e k is = law e.primitive k (made_err (with_primitive e) (pick e.primitive) k is)

  -- what is refused is refused as of another sort
  pub refused_wrong : {G : Type 0} (m : BTreeMap (Vec ℕ G) (List (Entry K A D HD HE M P S St V))) (k : Kind) → HasRefused (typed_by pick) m k → (k ≡ WrongPrimitive) × HasRefused (typed_by pick) m WrongPrimitive
  refused_wrong m k h =
      let wrong = converted_wrong (typed_by pick) typed_wrong h.entries k h.refused in
      (wrong, subst (λ j. HasRefused (typed_by pick) m j) wrong h)
