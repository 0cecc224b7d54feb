-- Tokens: a payload and a MAC of its spelling, in base64url without padding (RFC 4648, section 5).
use Rattle.std.specs.Prelude.{◌≡◌, ◌⊎◌, ◌++◌, ◌∷◌, ℕ, List, Option, Result, Ok, Err}
use Rattle.base64.specs.Engines.{url_safe_no_pad}
use Rattle.base64.specs.GeneralPurpose.{encode_of, IsBytes}
use Rattle.tink_io.specs.declared.error.Kind.{Kind}
use Rattle.tink_io.specs.declared.error.Kind.TheVariants.{BadToken, MacMismatch, OutOfMemory}
use Rattle.tink_io.specs.declared.error.TinkError.{TinkError}
use Rattle.tink_sets.specs.declared.entry.TypedEntry.{TypedEntry}
use Rattle.tink_mac.specs.Wrapped.{any_verifies, primary_mac, Computes, Verifies}

-- `.`
abbrev pub dot : ℕ
dot = 46

-- the spelling of bytes
abbrev pub spelled : List ℕ → List ℕ
spelled bytes = encode_of url_safe_no_pad bytes

-- the spelling of a payload, a dot, and the spelling of a MAC
abbrev pub token_of : List ℕ → List ℕ → List ℕ
token_of payload mac = spelled payload ++ dot ∷ spelled mac

-- a text is the token of this payload and this MAC
pub record IsTokenOf (token payload mac : List ℕ) : Type 0 where
  pub payload_bytes : IsBytes payload
  pub mac_bytes : IsBytes mac
  pub text : token ≡ token_of payload mac

-- and of no others
pub record IsOneToken (token payload mac : List ℕ) : Type 0 where
  pub is : IsTokenOf token payload mac
  pub alone : (p m : List ℕ) → IsTokenOf token p m → (p ≡ payload) × (m ≡ mac)

-- it is the token of none
abbrev pub IsNoToken : List ℕ → Type 0
IsNoToken token = (p m : List ℕ) → IsTokenOf token p m → ⊥

-- ---- signing

module _ {P : Type 0} (computes : Computes P) (primary : Option (TypedEntry P)) (payload : List ℕ) where
  -- the token of a payload and the primary entry's MAC of its spelling
  pub record IsSigned (token : List ℕ) : Type 0 where
    pub mac : List ℕ
    pub is : IsTokenOf token payload mac
    pub made : primary_mac computes primary (spelled payload) ≡ Ok mac

  -- it is given, or there is no memory, or no such MAC
  abbrev pub IsSigning : Result (List ℕ) TinkError → Type 0
  IsSigning (Ok token) = IsSigned token
  IsSigning (Err e) = (e.kind ≡ OutOfMemory) ⊎ (primary_mac computes primary (spelled payload) ≡ Err e.kind)

-- ---- verifying

module _ {P : Type 0} (verifies : Verifies P) (group : List ℕ → List (TypedEntry P)) (token : List ℕ) where
  -- the token of a payload and of a MAC that is accepted for its spelling
  pub record IsAccepted (payload : List ℕ) : Type 0 where
    pub mac : List ℕ
    pub is : IsTokenOf token payload mac
    pub accepted : any_verifies verifies group mac (spelled payload) ≡ Ok tt

  -- the one payload and MAC of a token, on which the entries answer so
  pub record IsAnswered (answer : Result (Unit {0}) Kind) (payload : List ℕ) : Type 0 where
    pub mac : List ℕ
    pub is : IsOneToken token payload mac
    pub answered : any_verifies verifies group mac (spelled payload) ≡ answer

  -- why a token is refused
  abbrev pub IsTokenRefused : Kind → Type 0
  IsTokenRefused kind =
      (kind ≡ OutOfMemory) ⊎ ((kind ≡ BadToken) × IsNoToken token)
      ⊎ ((kind ≡ MacMismatch) × ((payload : List ℕ) × IsAnswered (Err MacMismatch) payload))

  abbrev pub IsVerifying : Result (List ℕ) TinkError → Type 0
  IsVerifying (Ok payload) = IsAnswered (Ok tt) payload
  IsVerifying (Err e) = IsTokenRefused e.kind
