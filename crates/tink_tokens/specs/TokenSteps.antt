-- Tokens of what a source has, step by step.
use Rattle.std.specs.Prelude.{◌≡◌, ◌⊎◌, ℕ, List, Option, Result, Ok, Err}
use Rattle.tink_io.specs.Faults.{Rose}
use Rattle.tink_io.specs.declared.error.Kind.{Kind}
use Rattle.tink_io.specs.declared.error.Kind.TheVariants.{OutOfMemory, ReadFault, InputTooLong}
use Rattle.tink_io.specs.declared.error.TinkError.{TinkError}
use Rattle.tink_mac.specs.MacKinds.{kind_computes, kind_verifies}
use Rattle.tink_mac.specs.Wrapped.{IsMacOf}
use Rattle.tink_mac.specs.declared.mac_kind.MacKind.{MacKind}
use Rattle.tink_mac.specs.declared.factory.WrappedMac.{WrappedMac}
use Rattle.tink_tokens.specs.Inputs.{ExceedsLimit, ReadsInput}
use Rattle.tink_tokens.specs.Tokens.{Macs}

-- the MACs of a set are those that loaded
abbrev pub AreLoadedMacs : Macs → WrappedMac MacKind → Type 0
AreLoadedMacs macs w = IsMacOf kind_computes kind_verifies macs.id macs.entries w.ps.primary w.ps.entries

-- a call gives the given MACs, or refuses by the given kind, or there is no memory
abbrev pub GivesMacs : Result (WrappedMac MacKind) TinkError → Result Macs Kind → Type 0
GivesMacs (Ok w) told = (macs : Macs) × (told ≡ Ok macs) × AreLoadedMacs macs w
GivesMacs (Err e) told = (e.kind ≡ OutOfMemory) ⊎ (told ≡ Err e.kind)

module _ (Gives : List ℕ → List ℕ → Type 0) (Refuses : List ℕ → Kind → Type 0) (old new : Option (List ℕ))
    (before now : ℕ) where
  -- why nothing is made of the input that a source has. `OutOfMemory` is free.
  abbrev pub MakesNothing : Kind → Type 0
  MakesNothing OutOfMemory = Unit {0}
  MakesNothing ReadFault = Rose before now
  MakesNothing InputTooLong = ExceedsLimit old
  MakesNothing kind = (input : List ℕ) × ReadsInput old new input × Refuses input kind

  -- what is made of it
  abbrev pub MakesOfInput : Result (List ℕ) TinkError → Type 0
  MakesOfInput (Ok output) = (input : List ℕ) × ReadsInput old new input × Gives input output
  MakesOfInput (Err e) = MakesNothing e.kind
