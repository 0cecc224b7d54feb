-- What a writer of keysets did to a sink.
use Rattle.std.specs.Prelude.{◌≡◌, ◌⊎◌, ℕ, List, Option}
use Rattle.std.specs.Io.KnownBytes.{Appends, Keeps}
use Rattle.tink_io.specs.Written.{AppendsPrefix}
use Rattle.tink_io.specs.declared.error.Kind.{Kind}
use Rattle.tink_io.specs.declared.error.Kind.TheVariants.{OutOfMemory, WriteFault}

-- known bytes grow by such a text
abbrev pub AppendsText : (List ℕ → Type 0) → Option (List ℕ) → Option (List ℕ) → Type 0
AppendsText IsText old new = (text : List ℕ) × IsText text × Appends old new text

-- by which kind a write was refused, and what it has written: nothing, or a prefix of such a text
abbrev pub IsPartOf : (List ℕ → Type 0) → Kind → Option (List ℕ) → Option (List ℕ) → Type 0
IsPartOf IsText kind old new =
    ((kind ≡ OutOfMemory) × Keeps old new) ⊎ ((kind ≡ WriteFault) × ((text : List ℕ) × IsText text × AppendsPrefix old new text))

-- the same of one text
abbrev pub IsPartOfText : List ℕ → Kind → Option (List ℕ) → Option (List ℕ) → Type 0
IsPartOfText text kind old new = IsPartOf (λ written. written ≡ text) kind old new
