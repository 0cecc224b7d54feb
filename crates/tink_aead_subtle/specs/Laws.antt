-- The laws of the AEADs by AES.
use Rattle.std.specs.Prelude.{◌≡◌, ◌↔◌, ◌≤◌, ◌<◌, ◌^◌, ◌++◌, ℕ, List, length, IsTrue, Result, Ok}
use Rattle.gcm.specs.Answers.{Fit}
use Rattle.tink_io.specs.declared.error.Kind.{Kind}
use Rattle.tink_aead_subtle.specs.Composed.{authenticated, composed_decrypts, composed_encrypts}
use Rattle.tink_aead_subtle.specs.CounterMode.{ctr_decrypts, ctr_encrypts, in_counter_mode}
use Rattle.tink_aead_subtle.specs.KeySizes.{is_aes_key_size}

-- an input is the encryption of a text, with this data, under some nonce
pub record IsEncryption (seals : List ℕ → List ℕ → List ℕ → List ℕ) (most : ℕ) (aad text input : List ℕ) : Type 0 where
  pub nonce : List ℕ
  pub size : length nonce ≡ 12
  pub is : input ≡ nonce ++ seals nonce aad text
  pub fits : Fit most (length aad) (length text)

-- exactly the encryptions of some text are accepted, each as that of its text
abbrev pub AcceptsExactly : (List ℕ → List ℕ → List ℕ → List ℕ) → ℕ → (List ℕ → List ℕ → Result (List ℕ) Kind) → Type 0
AcceptsExactly seals most decrypts = (input aad text : List ℕ) → (decrypts input aad ≡ Ok text) ↔ IsEncryption seals most aad text input

-- what is encrypted, with whatever draws, is decrypted again
abbrev pub Undoes : (List ℕ → List ℕ → List ℕ → Result (List ℕ) Kind × List ℕ) → (List ℕ → List ℕ → Result (List ℕ) Kind) → Type 0
Undoes encrypts decrypts = (text aad draws sealed : List ℕ) → (encrypts text aad draws).0 ≡ Ok sealed → decrypts sealed aad ≡ Ok text

-- and with twelve draws each text and data within the limits are encrypted
abbrev pub Encrypts : ℕ → (List ℕ → List ℕ → List ℕ → Result (List ℕ) Kind × List ℕ) → Type 0
Encrypts most encrypts =
    (text aad draws : List ℕ) → Fit most (length aad) (length text) → 12 ≤ length draws → (sealed : List ℕ) × ((encrypts text aad draws).0 ≡ Ok sealed)

-- a key of 16 or 32 bytes
abbrev pub IsAesKey : List ℕ → Type 0
IsAesKey key = IsTrue (is_aes_key_size (length key))

-- an input is a vector of n bytes and a text in counter mode under it
pub record IsCounterEncryption (key : List ℕ) (iv_size : ℕ) (text input : List ℕ) : Type 0 where
  pub iv : List ℕ
  pub size : length iv ≡ iv_size
  pub is : input ≡ iv ++ in_counter_mode key iv text

-- exactly these are decrypted, each to its text, where a vector fits a block
abbrev pub CounterDecryptsExactly : Type 0
CounterDecryptsExactly = (key : List ℕ) (iv_size : ℕ) → iv_size ≤ 16 → (input text : List ℕ) → (ctr_decrypts key iv_size input ≡ Ok text) ↔ IsCounterEncryption key iv_size text input

-- what is encrypted is decrypted again
abbrev pub CounterUndoes : Type 0
CounterUndoes = (key : List ℕ) (iv_size : ℕ) (text draws sealed : List ℕ) → (ctr_encrypts key iv_size text draws).0 ≡ Ok sealed → ctr_decrypts key iv_size sealed ≡ Ok text

-- and with enough draws each text is encrypted
abbrev pub CounterEncrypts : Type 0
CounterEncrypts =
    (key : List ℕ) (iv_size : ℕ) → iv_size ≤ 16 → (text draws : List ℕ) → iv_size ≤ length draws
    → (sealed : List ℕ) × ((ctr_encrypts key iv_size text draws).0 ≡ Ok sealed)

-- an input is the output of AES in counter mode for a text, and the MAC of this data, that output and the data's length
pub record IsComposed (key : List ℕ) (iv_size : ℕ) (mac : List ℕ → List ℕ) (aad text input : List ℕ) : Type 0 where
  pub iv : List ℕ
  pub size : length iv ≡ iv_size
  pub is : let sealed = iv ++ in_counter_mode key iv text in input ≡ sealed ++ mac (authenticated aad sealed)
  pub fits : length aad < 2 ^ 61

-- the MAC of each message is this one, of t bytes, and it alone is accepted
pub record IsMac (computes : List ℕ → Result (List ℕ) Kind) (verifies : List ℕ → List ℕ → Result (Unit {0}) Kind) (t : ℕ) (mac : List ℕ → List ℕ) : Type 0 where
  pub size : (message : List ℕ) → length (mac message) ≡ t
  pub computed : (message : List ℕ) → computes message ≡ Ok (mac message)
  pub verified : (tag message : List ℕ) → (verifies tag message ≡ Ok tt) ↔ (tag ≡ mac message)

-- with such a MAC exactly those inputs are accepted, each as that of its text
abbrev pub ComposedAcceptsExactly : Type 0
ComposedAcceptsExactly =
    (key : List ℕ) (iv_size t : ℕ) (computes : List ℕ → Result (List ℕ) Kind) (verifies : List ℕ → List ℕ → Result (Unit {0}) Kind) (mac : List ℕ → List ℕ)
    → iv_size ≤ 16 → IsMac computes verifies t mac → (input aad text : List ℕ)
    → (composed_decrypts (ctr_decrypts key iv_size) verifies t input aad ≡ Ok text) ↔ IsComposed key iv_size mac aad text input

-- and what is encrypted is decrypted again
abbrev pub ComposedUndoes : Type 0
ComposedUndoes =
    (key : List ℕ) (iv_size t : ℕ) (computes : List ℕ → Result (List ℕ) Kind) (verifies : List ℕ → List ℕ → Result (Unit {0}) Kind) (mac : List ℕ → List ℕ)
    → iv_size ≤ 16 → IsMac computes verifies t mac → Undoes (composed_encrypts (ctr_encrypts key iv_size) computes t) (composed_decrypts (ctr_decrypts key iv_size) verifies t)

-- with enough draws each text is encrypted, with data of which the number of bits fits eight bytes
abbrev pub ComposedEncrypts : Type 0
ComposedEncrypts =
    (key : List ℕ) (iv_size t : ℕ) (computes : List ℕ → Result (List ℕ) Kind) (verifies : List ℕ → List ℕ → Result (Unit {0}) Kind) (mac : List ℕ → List ℕ)
    → iv_size ≤ 16 → IsMac computes verifies t mac → (text aad draws : List ℕ) → length aad < 2 ^ 61 → iv_size ≤ length draws
    → (sealed : List ℕ) × ((composed_encrypts (ctr_encrypts key iv_size) computes t text aad draws).0 ≡ Ok sealed)
