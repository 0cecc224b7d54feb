-- What registering the managers and templates of some types of keys leaves.
use Rattle.std.specs.Prelude.{◌≡◌, ◌⊎◌, ⊤, ◌∷◌, ℕ, List, [], true, false, Result, Ok, Err}
use Rattle.tink_io.specs.declared.error.Kind.TheVariants.{AlreadyRegistered, OutOfMemory}
use Rattle.tink_io.specs.declared.error.TinkError.{TinkError}
use Rattle.tink_registry.specs.Listed.{are_all_fresh, with_all, Named, Registered}

-- a manager made of some value of its own type
abbrev pub IsMade : {A M : Type 0} → (A → M → Type 0) → M → Type 0
IsMade {A} made m = (a : A) × made a m

-- each manager is made by its maker, and there are no more and no fewer
abbrev pub AreMade : {M : Type 0} → List (M → Type 0) → List M → Type 0
AreMade [] [] = ⊤
AreMade [] (_ ∷ _) = ⊥
AreMade (_ ∷ _) [] = ⊥
AreMade (made ∷ makers) (m ∷ ms) = made m × AreMade makers ms

-- All of them and the templates are registered, where none of their URLs was and no two have one; a refusal leaves the
-- registry, and comes where this is not so, or by `OutOfMemory`.
abbrev pub Registers : {M : Type 0} → (List M → Type 0) → (M → List ℕ) → List Named → Registered M → Registered M → Result (Unit {0}) TinkError → Type 0
Registers {M} made url templates old new (Ok _) = (managers : List M) × made managers × (are_all_fresh url old.managers managers ≡ true) × (new ≡ with_all old managers templates)
Registers {M} made url templates old new (Err e) =
    (new ≡ old) × ((e.kind ≡ OutOfMemory) ⊎ ((managers : List M) × made managers × (e.kind ≡ AlreadyRegistered) × (are_all_fresh url old.managers managers ≡ false)))
