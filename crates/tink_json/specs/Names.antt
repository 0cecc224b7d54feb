-- The names of the enums' numbers.
use Rattle.std.specs.Prelude.{ℕ, ℤ, pos, List, [], ◌∷◌, codes, if◌then◌else◌, bytes_eq, Option, Some, None}
use Rattle.std.specs.Ordering.{int_eq}

-- names, each beside its number
abbrev pub Names : Type 0
Names = List (List ℕ × ℤ)

abbrev pub statuses : Names
statuses = (codes "UNKNOWN_STATUS", pos 0) ∷ (codes "ENABLED", pos 1) ∷ (codes "DISABLED", pos 2) ∷ (codes "DESTROYED", pos 3) ∷ []

abbrev pub prefixes : Names
prefixes = (codes "UNKNOWN_PREFIX", pos 0) ∷ (codes "TINK", pos 1) ∷ (codes "LEGACY", pos 2) ∷ (codes "RAW", pos 3) ∷ (codes "CRUNCHY", pos 4) ∷ []

abbrev pub materials : Names
materials = (codes "UNKNOWN_KEYMATERIAL", pos 0) ∷ (codes "SYMMETRIC", pos 1) ∷ (codes "ASYMMETRIC_PRIVATE", pos 2) ∷ (codes "ASYMMETRIC_PUBLIC", pos 3) ∷ (codes "REMOTE", pos 4) ∷ []

-- the number of a name
abbrev pub numbered : Names → List ℕ → Option ℤ
numbered [] name = None
numbered (n ∷ names) name = if bytes_eq name n.0 then Some n.1 else numbered names name

-- the name of a number
abbrev pub named : Names → ℤ → Option (List ℕ)
named [] number = None
named (n ∷ names) number = if int_eq number n.1 then Some n.0 else named names number
