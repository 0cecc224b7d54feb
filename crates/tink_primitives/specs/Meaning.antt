-- What the meaning of a primitive tells of a call: its one answer, a value or a kind, and the draws left.
-- `OutOfMemory` is no part of it.
use Rattle.std.specs.Prelude.{◌≡◌, ◌++◌, ⊤, List, ℕ, Result, Ok, Err}
use Rattle.tink_io.specs.declared.error.Kind.{Kind}
use Rattle.tink_io.specs.declared.error.Kind.TheVariants.{OutOfMemory, MacMismatch}

-- a value, or a kind that isn't `OutOfMemory`
abbrev pub IsTold : {T : Type 0} → Result T Kind → Type 0
IsTold (Ok _) = ⊤
IsTold (Err OutOfMemory) = ⊥
IsTold (Err _) = ⊤

-- the draws that are left are an end of what there was
abbrev pub IsEndOf : List ℕ → List ℕ → Type 0
IsEndOf now before = (taken : List ℕ) × (before ≡ taken ++ now)

-- an answer that is told, with an end of the draws
pub record IsDrawn {T : Type 0} (draws : List ℕ) (told : Result T Kind × List ℕ) : Type 0 where
  pub answer : IsTold told.0
  pub ends : IsEndOf told.1 draws

-- what a check of a MAC tells: it is that of the message, or `MacMismatch`
abbrev pub IsMatch : Result (Unit {0}) Kind → Type 0
IsMatch (Ok _) = ⊤
IsMatch (Err MacMismatch) = ⊤
IsMatch (Err _) = ⊥
