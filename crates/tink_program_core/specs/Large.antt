-- The command that measures a large text: what it writes, and by what it is refused.
use Rattle.std.specs.Prelude.{◌≡◌, ℕ, List, replicate, Option, Result, Ok, Err}
use Rattle.std.specs.Io.KnownBytes.{Appends}
use Rattle.tink_io.specs.Faults.{Rose}
use Rattle.tink_io.specs.Written.{AppendsPrefix}
use Rattle.tink_io.specs.declared.error.Kind.{Kind}
use Rattle.tink_io.specs.declared.error.Kind.TheVariants.{OutOfMemory, WriteFault}
use Rattle.tink_io.specs.declared.error.TinkError.{TinkError}
use Rattle.tink_large.specs.Large.{large_output}
use Rattle.tink_program_core.specs.Draws.{draws_in}
use Rattle.tink_io.specs.Outside.{Outside, IsUntouched}
use Rattle.tink_program_core.specs.Keysets.{WroteText, WrotePrefix}
use Rattle.tink_program_core.specs.Streams.{IsDoneOrWant}
use Rattle.tink_program_core.specs.declared.outcomes.Outcome.{Outcome}
use Rattle.tink_program_core.specs.declared.outcomes.Outcome.TheVariants.{Done, Refused}

-- the draws of every large text: those of the seed of zeros
abbrev pub large_draws : List ℕ
large_draws = draws_in (replicate 32 0) 256

-- the four lines of the large text of a number
abbrev pub lines_of : ℕ → List ℕ
lines_of n = large_output n large_draws

-- a call writes them, or refuses: after a fault a prefix of them is written, before that nothing. `OutOfMemory` is free.
abbrev pub RefusesLarge : ℕ → Option (List ℕ) → Option (List ℕ) → ℕ → ℕ → Kind → Type 0
RefusesLarge n old new before now OutOfMemory = (new ≡ old) × (now ≡ before)
RefusesLarge n old new before now WriteFault = AppendsPrefix old new (lines_of n) × Rose before now
RefusesLarge n old new before now _ = ⊥

abbrev pub WritesLarge : ℕ → Option (List ℕ) → Option (List ℕ) → ℕ → ℕ → Result (Unit {0}) TinkError → Type 0
WritesLarge n old new before now (Ok _) = Appends old new (lines_of n)
WritesLarge n old new before now (Err e) = RefusesLarge n old new before now e.kind

-- what stands after each outcome of the command that measures a large text, and why it came
abbrev pub LargeMeans : ℕ → Outside → Outside → Outcome → Type 0
LargeMeans n old new Done = WroteText old new (lines_of n)
LargeMeans n old new (Refused OutOfMemory) = IsUntouched old new
LargeMeans n old new (Refused WriteFault) = WrotePrefix old new (lines_of n)
LargeMeans n old new _ = ⊥

-- what 0 and 12 promise of a large text, and when it is measured: exactly its lines were written, or a prefix of them
pub record MeasuresLarge (n : ℕ) (old new : Outside) (status : ℕ) : Type 0 where
  pub whole : status ≡ 0 → WroteText old new (lines_of n)
  pub prefix : status ≡ 12 → WrotePrefix old new (lines_of n)
  pub succeeds : (Rose old.write_faults new.write_faults → ⊥) → IsDoneOrWant status
