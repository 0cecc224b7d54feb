-- Signed tokens by the MACs of a file of keys.
use Rattle.std.specs.Prelude.{◌≡◌, ◌⊎◌, ℕ, List, Result, Ok, Err}
use Rattle.tink_io.specs.declared.error.Kind.{Kind}
use Rattle.tink_sets.specs.Entries.{entry_of_id}
use Rattle.tink_mac.specs.MacKinds.{kind_computes}
use Rattle.tink_mac.specs.Tokens.{spelled}
use Rattle.tink_mac.specs.Wrapped.{primary_mac}
use Rattle.tink_tokens.specs.Tokens.{Macs, RefusesVerifying, SignsTo, VerifiesTo}
use Rattle.tink_c_primitives.specs.Primitives.{macs_of_file}

-- the MACs of a file load, and this holds of them
pub record OfMacs (file : List ℕ) (P : Macs → Type 0) : Type 0 where
  pub macs : Macs
  pub loads : macs_of_file file ≡ Ok macs
  pub holds : P macs

-- the token of a payload by the primary key
abbrev pub TokenGives : List ℕ → List ℕ → List ℕ → Type 0
TokenGives file payload token = OfMacs file (λ macs. SignsTo macs payload token)

-- there is none: the file does not load, or its primary key computes no MAC
abbrev pub TokenRefuses : List ℕ → List ℕ → Kind → Type 0
TokenRefuses file payload kind =
    (macs_of_file file ≡ Err kind)
    ⊎ OfMacs file (λ macs. primary_mac kind_computes (entry_of_id macs.id macs.entries) (spelled payload) ≡ Err kind)

-- the payload of a token whose MAC a key accepts
abbrev pub PayloadGives : List ℕ → List ℕ → List ℕ → Type 0
PayloadGives file token payload = OfMacs file (λ macs. VerifiesTo macs token payload)

-- there is none: the file does not load, or the text is no token, or no key accepts its MAC
abbrev pub PayloadRefuses : List ℕ → List ℕ → Kind → Type 0
PayloadRefuses file token kind = (macs_of_file file ≡ Err kind) ⊎ OfMacs file (λ macs. RefusesVerifying macs token kind)
