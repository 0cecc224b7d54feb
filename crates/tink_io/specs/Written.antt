-- What calls that write did to a sink: what it has taken, before and after, and its faults.
use Rattle.std.specs.Prelude.{◌≡◌, ◌⊎◌, ℕ, ◌≤◌, List, length, take, Result, Ok, Err}
use Rattle.std.specs.declared.option.Option.{Option}
use Rattle.std.specs.Io.KnownBytes.{Appends}
use Rattle.tink_io.specs.Faults.{Rose}
use Rattle.tink_io.specs.declared.error.Kind.TheVariants.{WriteFault}
use Rattle.tink_io.specs.declared.error.TinkError.{TinkError}

-- known bytes grow by a prefix of bs
abbrev pub AppendsPrefix : Option (List ℕ) → Option (List ℕ) → List ℕ → Type 0
AppendsPrefix old new bs = (n : ℕ) × (n ≤ length bs) × Appends old new (take n bs)

-- bs are written whole, or a prefix of them and then a fault
abbrev pub WritesOrFaults : Option (List ℕ) → Option (List ℕ) → ℕ → ℕ → List ℕ → Type 0
WritesOrFaults old new before now bs = Appends old new bs ⊎ (AppendsPrefix old new bs × Rose before now)

-- what a call that writes bs answers
abbrev pub Writes : Option (List ℕ) → Option (List ℕ) → ℕ → ℕ → Result (Unit {0}) TinkError → List ℕ → Type 0
Writes old new before now (Ok _) bs = Appends old new bs × (before ≤ now)
Writes old new before now (Err e) bs = AppendsPrefix old new bs × (before ≤ now) × Rose before now × (e ≡ record { kind = WriteFault })

-- the same of a sink, by what it has taken and its faults
abbrev pub WritesTo : {K : Type 0} → (K → Option (List ℕ)) → (K → ℕ) → K → K → Result (Unit {0}) TinkError → List ℕ → Type 0
WritesTo got faults old new result bs = Writes (got old) (got new) (faults old) (faults new) result bs
