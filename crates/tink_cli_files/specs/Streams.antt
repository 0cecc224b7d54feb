-- What becomes of a stream, a token or a text that is written into a place.
use Rattle.std.specs.Prelude.{◌≡◌, ℕ, List, Bool, Result, IfErr}
use Rattle.std.specs.declared.option.Option.{Option}
use Rattle.tink_io.specs.Faults.{Rose}
use Rattle.tink_io.specs.declared.error.Kind.TheVariants.{OutOfMemory}
use Rattle.tink_io.specs.declared.error.TinkError.{TinkError}
use Rattle.tink_io.specs.Places.{Ends, IsShown}

-- A call wrote the draft of a place, which has got so much and has failed so often, and answered as it says. By its answer
-- the draft was shown or taken away.
pub record RanAndEnded {P V : Type 0} (got : P → Option (List ℕ)) (counted : P → ℕ) (says : P → Result V TinkError → Type 0) (replaces : Bool) (before after : Option (Option (List ℕ))) (faults : ℕ) (result : Result V TinkError) : Type 0 where
  pub draft : P
  pub answer : Result V TinkError
  pub ran : says draft answer
  pub ended : Ends (got draft) replaces before after (counted draft) faults answer result

-- The draft was the whole of what was to be made, and it stands under the name.
pub record IsShownWhole {P V : Type 0} (got : P → Option (List ℕ)) (is_whole : P → V → Type 0) (replaces : Bool) (before after : Option (Option (List ℕ))) (value : V) : Type 0 where
  pub draft : P
  pub whole : is_whole draft value
  pub shown : IsShown (got draft) replaces before after

-- Where no end failed, by its count of faults before and after, the call was done and the draft shown, or there is no memory.
abbrev pub Succeeds : {V : Type 0} → ℕ → ℕ → ℕ → ℕ → Result V TinkError → Type 0
Succeeds reads reads_after writes writes_after result =
    (Rose reads reads_after → ⊥) → (Rose writes writes_after → ⊥) → IfErr result (λ e. e.kind ≡ OutOfMemory)
