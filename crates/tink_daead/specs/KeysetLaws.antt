-- What the AES-SIV keys of a keyset decrypt, given by what they encrypt.
use Rattle.std.specs.Prelude.{◌≡◌, ◌↔◌, ◌⊎◌, ◌<◌, ℕ, List, [], ◌∷◌, length, take, drop, Ok}
use Rattle.std.specs.List.{All}
use Rattle.tink_sets.specs.declared.entry.TypedEntry.{TypedEntry}
use Rattle.tink_daead.specs.AesSiv.{aes_siv, aes_siv_decrypts}
use Rattle.tink_daead.specs.AesSivLaws.{IsSivKey}
use Rattle.tink_keysets.specs.Decrypting.{any_decrypts}

-- an entry of which contracts see the key
abbrev pub SivEntry : Type 0
SivEntry = TypedEntry (List ℕ)

abbrev pub HasSivKey : SivEntry → Type 0
HasSivKey e = IsSivKey e.primitive

-- an input is the encryption of no text under an entry's key
abbrev pub EncryptsNoTextTo : List ℕ → List ℕ → SivEntry → Type 0
EncryptsNoTextTo aad input e = (text : List ℕ) → input ≡ aes_siv e.primitive aad text → ⊥

-- it is the encryption of this text under the first of a list under which it is that of any
abbrev pub IsSealedByFirst : List ℕ → List ℕ → List ℕ → List SivEntry → Type 0
IsSealedByFirst aad text input [] = ⊥
IsSealedByFirst aad text input (e ∷ es) = (input ≡ aes_siv e.primitive aad text) ⊎ (EncryptsNoTextTo aad input e × IsSealedByFirst aad text input es)

-- The entries of the first five bytes have the rest as an encryption, where there is a rest; those without a prefix the
-- whole, and only where none of the others has one.
abbrev pub IsSealedInGroups : (List ℕ → List SivEntry) → List ℕ → List ℕ → List ℕ → Type 0
IsSealedInGroups group aad text input =
    ((5 < length input) × IsSealedByFirst aad text (drop 5 input) (group (take 5 input)))
    ⊎ ((5 < length input → All (EncryptsNoTextTo aad (drop 5 input)) (group (take 5 input))) × IsSealedByFirst aad text input (group []))

-- exactly such an input is decrypted, to that text
abbrev pub KeysetsDecryptExactly : Type 0
KeysetsDecryptExactly =
    (group : List ℕ → List SivEntry) → ((prefix : List ℕ) → All HasSivKey (group prefix)) → (input aad text : List ℕ)
    → (any_decrypts aes_siv_decrypts group input aad ≡ Ok text) ↔ IsSealedInGroups group aad text input
