-- What sealing and opening answer. `seal` is the encryption of a text, under given keys, nonce and data.
use Rattle.std.specs.Prelude.{◌≡◌, ◌<◌, ◌≤◌, ◌+◌, ◌^◌, ℕ, List, length, Bool, true, false, Result, Ok, Err}
use Rattle.gcm.specs.declared.errors.GcmError.{GcmError}
use Rattle.gcm.specs.declared.errors.GcmError.TheVariants.{DataTooLong, TextTooLong, DecryptFailed}

-- the most bytes of associated data
abbrev pub MOST_DATA : ℕ
MOST_DATA = 2 ^ 36

-- lengths that are sealed and opened
pub record Fit (most aad text : ℕ) : Type 0 where
  pub aad_fits : aad ≤ MOST_DATA
  pub text_fits : text ≤ most

-- the answer to the lengths alone
abbrev pub IsLimited : ℕ → ℕ → ℕ → Result (Unit {0}) GcmError → Type 0
IsLimited most aad text (Ok _) = Fit most aad text
IsLimited most aad text (Err DataTooLong) = MOST_DATA < aad
IsLimited most aad text (Err TextTooLong) = (aad ≤ MOST_DATA) × (most < text)
IsLimited most aad text (Err DecryptFailed) = ⊥

-- the answer to sealing a text of at most `most` bytes, where `out` was as in old and is as in new
abbrev pub IsSealed : (List ℕ → List ℕ) → ℕ → List ℕ → List ℕ → List ℕ → List ℕ → Result (Unit {0}) GcmError → Type 0
IsSealed seal most aad text old new (Ok _) = Fit most (length aad) (length text) × (new ≡ seal text)
IsSealed seal most aad text old new (Err DataTooLong) = (MOST_DATA < length aad) × (new ≡ old)
IsSealed seal most aad text old new (Err TextTooLong) = (length aad ≤ MOST_DATA) × (most < length text) × (new ≡ old)
IsSealed seal most aad text old new (Err DecryptFailed) = ⊥

-- the answer to opening what a text of at most `most` bytes may have been sealed to
abbrev pub IsOpened : (List ℕ → List ℕ) → ℕ → List ℕ → List ℕ → List ℕ → List ℕ → Result (Unit {0}) GcmError → Type 0
IsOpened seal most aad sealed old new (Ok _) = Fit (most + 16) (length aad) (length sealed) × (seal new ≡ sealed)
IsOpened seal most aad sealed old new (Err DataTooLong) = (MOST_DATA < length aad) × (new ≡ old)
IsOpened seal most aad sealed old new (Err TextTooLong) = (length aad ≤ MOST_DATA) × (most + 16 < length sealed) × (new ≡ old)
IsOpened seal most aad sealed old new (Err DecryptFailed) = Fit (most + 16) (length aad) (length sealed) × ((text : List ℕ) → seal text ≡ sealed → ⊥) × (new ≡ old)

-- whether a text that is sealed so was found, and if not, that there is none
abbrev pub IsTried : (List ℕ → List ℕ) → List ℕ → List ℕ → List ℕ → Bool → Type 0
IsTried seal sealed old new true = seal new ≡ sealed
IsTried seal sealed old new false = ((text : List ℕ) → seal text ≡ sealed → ⊥) × (new ≡ old)
