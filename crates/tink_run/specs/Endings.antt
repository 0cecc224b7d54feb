-- What is answered over a sink that gathered what it got, once that was handed on.
use Rattle.std.specs.Prelude.{◌≡◌, ◌⊎◌, ℕ, ◌≤◌, List, Result, Ok, Err}
use Rattle.std.specs.declared.option.Option.{Option}
use Rattle.std.specs.Io.KnownBytes.{Keeps}
use Rattle.tink_io.specs.Faults.{Rose}
use Rattle.tink_io.specs.declared.error.Kind.TheVariants.{WriteFault}
use Rattle.tink_io.specs.declared.error.TinkError.{TinkError}
use Rattle.tink_io.specs.Gathering.{IsCutShort, OnlyGrows}
use Rattle.tink_run.specs.declared.report.Report.{Report}
use Rattle.tink_io.specs.Outside.{Outside}
use Rattle.tink_run.specs.Run.{IsEarly}

-- all that was given was handed on, and the answer stays
pub record IsHandedOn (told got : Option (List ℕ)) (answer ended : Result Report TinkError) : Type 0 where
  pub is : ended ≡ answer
  pub kept : Keeps told got

-- the sink failed, now or before: it has got a prefix of what was given
pub record IsHandedShort (told got : Option (List ℕ)) (before now : ℕ) (answer ended : Result Report TinkError) : Type 0 where
  pub is : ended ≡ Err (record { kind = WriteFault })
  pub short : IsCutShort told got
  pub cause : Rose before now ⊎ (answer ≡ Err (record { kind = WriteFault }))

abbrev pub IsEndedBy : Option (List ℕ) → Option (List ℕ) → ℕ → ℕ → Result Report TinkError → Result Report TinkError → Type 0
IsEndedBy told got before now answer ended = IsHandedOn told got answer ended ⊎ IsHandedShort told got before now answer ended

-- an early refusal was answered
abbrev pub IsRefusedEarly : Result Report TinkError → Type 0
IsRefusedEarly (Ok report) = ⊥
IsRefusedEarly (Err e) = IsEarly e.kind

-- Something was answered while the sink had got these bytes and had failed so often, which `means` says of that moment, and then
-- they were handed on. An early refusal left nothing to hand on.
pub record EndsAs (means : Outside → Result Report TinkError → Type 0) (old new : Outside) (ended : Result Report TinkError) : Type 0 where
  pub told : Option (List ℕ)
  pub faults : ℕ
  pub answer : Result Report TinkError
  pub meant : means (record new { got = told; write_faults = faults }) answer
  pub ends : IsEndedBy told new.got faults new.write_faults answer ended
  pub grows : OnlyGrows old.got new.got
  pub earlier : old.write_faults ≤ faults
  pub later : faults ≤ new.write_faults
  pub early : IsRefusedEarly answer → (ended ≡ answer) × (told ≡ new.got) × (faults ≡ new.write_faults)
