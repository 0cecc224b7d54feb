-- Why a call that makes a vector made none, though there may be something to be made.
use Rattle.std.specs.Prelude.{◌≡◌, ℕ, List, Option, None, ⊤}
use Rattle.cipher_modes.specs.declared.padded.PaddedVecError.{PaddedVecError}
use Rattle.cipher_modes.specs.declared.padded.PaddedVecError.TheVariants.{Pad, Unpad, OutOfMemory}

-- Pad only where there is nothing; being out of memory may come before
abbrev pub TellsPad : PaddedVecError → Option (List ℕ) → Type 0
TellsPad Pad made = made ≡ None
TellsPad Unpad made = ⊥
TellsPad OutOfMemory made = ⊤

-- Unpad only where there is nothing; being out of memory may come before
abbrev pub TellsUnpad : PaddedVecError → Option (List ℕ) → Type 0
TellsUnpad Pad made = ⊥
TellsUnpad Unpad made = made ≡ None
TellsUnpad OutOfMemory made = ⊤
