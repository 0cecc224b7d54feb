-- How a token is read.
use Rattle.std.specs.Prelude.{◌≡◌, ◌⊎◌, ◌++◌, ◌∷◌, ℕ, List, Result, Ok, Err}
use Rattle.base64.specs.GeneralPurpose.{IsBytes}
use Rattle.tink_io.specs.declared.error.Kind.TheVariants.{BadToken, OutOfMemory}
use Rattle.tink_io.specs.declared.error.TinkError.{TinkError}
use Rattle.tink_mac.specs.Tokens.{dot, spelled, token_of}

-- a text with a dot in it, which is the token of spellings at both sides alone
pub record IsSplit (token front back : List ℕ) : Type 0 where
  pub whole : token ≡ front ++ dot ∷ back
  pub alone : (p m : List ℕ) → token ≡ token_of p m → (front ≡ spelled p) × (back ≡ spelled m)

-- the spelling of these bytes, and of no others
pub record IsSpelling (text bytes : List ℕ) : Type 0 where
  pub fit : IsBytes bytes
  pub is : text ≡ spelled bytes
  pub alone : (b : List ℕ) → IsBytes b → text ≡ spelled b → b ≡ bytes

-- the bytes that a text spells, or why there are none
abbrev pub IsRead : List ℕ → Result (List ℕ) TinkError → Type 0
IsRead text (Ok bytes) = IsSpelling text bytes
IsRead text (Err e) =
    (e.kind ≡ OutOfMemory) ⊎ ((e.kind ≡ BadToken) × ((b : List ℕ) → IsBytes b → text ≡ spelled b → ⊥))
