-- Managers that are made by makers which make one value each.
use Rattle.std.proofs.Common.{◌≡◌, ◌∷◌, List, [], refl, sym, ap, subst, ◌∙◌, inl, inr}
use Rattle.std.specs.Prelude.{◌⊎◌, ⊤, ℕ, true, false, Result, Ok, Err, OnOk, IfErr}
use Rattle.std.proofs.lemmas.Bool.{false≢true}
use Rattle.tink_io.specs.declared.error.Kind.TheVariants.{AlreadyRegistered, OutOfMemory}
use Rattle.tink_io.specs.declared.error.TinkError.{TinkError}
use Rattle.tink_registry.specs.Listed.{are_all_fresh, with_all, Named, Registered}
use Rattle.tink_registry.specs.Registering.{AreMade, Registers}

module _ {M : Type 0} where
  -- each maker makes this one manager
  abbrev pub MakeThese : List (M → Type 0) → List M → Type 0
  MakeThese [] [] = ⊤
  MakeThese [] (_ ∷ _) = ⊥
  MakeThese (_ ∷ _) [] = ⊥
  MakeThese (made ∷ makers) (m ∷ ms) = ((x : M) → made x → x ≡ m) × MakeThese makers ms

  pub these_made : (makers : List (M → Type 0)) (ms xs : List M) → MakeThese makers ms → AreMade makers xs → xs ≡ ms
  these_made [] [] [] these are = refl
  these_made [] [] (x ∷ xs) these are = elim are [ ]
  these_made [] (m ∷ ms) xs these are = elim these [ ]
  these_made (made ∷ makers) [] xs these are = elim these [ ]
  these_made (made ∷ makers) (m ∷ ms) [] these are = elim are [ ]
  these_made (made ∷ makers) (m ∷ ms) (x ∷ xs) these are =
      ap (λ y. y ∷ xs) (these.0 x are.0) ∙ ap (λ ys. m ∷ ys) (these_made makers ms xs these.1 are.1)

  -- what a registration leaves whose URLs are new
  abbrev pub Leaves : Registered M → Result (Unit {0}) TinkError → Registered M → Type 0
  Leaves told (Ok _) new = new ≡ told
  Leaves told (Err e) new = e.kind ≡ OutOfMemory

  pub registered : (url : M → List ℕ) (makers : List (M → Type 0)) (ms : List M) (templates : List Named) (old new : Registered M) (r : Result (Unit {0}) TinkError)
      → MakeThese makers ms → are_all_fresh url old.managers ms ≡ true → Registers (AreMade makers) url templates old new r → Leaves (with_all old ms templates) r new
  registered url makers ms templates old new (Ok _) these fresh registers =
      subst (λ xs. new ≡ with_all old xs templates) (these_made makers ms registers.0 these registers.1) registers.3
  registered url makers ms templates old new (Err e) these fresh registers = memory registers.1
    where
      memory : ((e.kind ≡ OutOfMemory) ⊎ ((xs : List M) × AreMade makers xs × (e.kind ≡ AlreadyRegistered) × (are_all_fresh url old.managers xs ≡ false))) → e.kind ≡ OutOfMemory
      memory (inl is) = is
      memory (inr found) =
          elim (false≢true (sym (subst (λ xs. are_all_fresh url old.managers xs ≡ false) (these_made makers ms found.0 these found.1) found.3) ∙ fresh)) [ ]

  pub leaves_ok : (told new : Registered M) (r : Result (Unit {0}) TinkError) → Leaves told r new → OnOk r (new ≡ told)
  leaves_ok told new (Ok _) leaves = leaves
  leaves_ok told new (Err e) leaves = tt

  pub leaves_err : (told new : Registered M) (r : Result (Unit {0}) TinkError) → Leaves told r new → IfErr r (λ e. e.kind ≡ OutOfMemory)
  leaves_err told new (Ok _) leaves = tt
  leaves_err told new (Err e) leaves = leaves
