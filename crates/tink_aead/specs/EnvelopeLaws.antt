-- The law of envelopes.
use Rattle.std.specs.Prelude.{◌≡◌, ◌≤◌, ℕ, List, length, Result, Ok}
use Rattle.tink_io.specs.declared.error.Kind.{Kind}
use Rattle.tink_aead.specs.Envelope.{envelope_decrypts, envelope_encrypts}
use Rattle.tink_aead_subtle.specs.Laws.{Undoes}

-- a remote key never encrypts to no bytes
abbrev pub GivesBytes : (List ℕ → List ℕ → List ℕ → Result (List ℕ) Kind × List ℕ) → Type 0
GivesBytes encrypts = (text aad draws sealed : List ℕ) → (encrypts text aad draws).0 ≡ Ok sealed → 1 ≤ length sealed

module _ {P : Type 0} (encrypts : P → List ℕ → List ℕ → List ℕ → Result (List ℕ) Kind × List ℕ) (decrypts : P → List ℕ → List ℕ → Result (List ℕ) Kind) where
  -- each AEAD of a data key undoes its own encryption
  abbrev pub DataKeysUndo : (List ℕ → Result P Kind) → Type 0
  DataKeysUndo aead_of = (key : List ℕ) (p : P) → aead_of key ≡ Ok p → Undoes (encrypts p) (decrypts p)

  -- with such a remote key, which undoes its own encryption, and such data keys an envelope undoes its own
  abbrev pub EnvelopeUndoes : Type 0
  EnvelopeUndoes =
      (makes : List ℕ → Result (List ℕ) Kind × List ℕ) (seals : List ℕ → List ℕ → List ℕ → Result (List ℕ) Kind × List ℕ) (opens : List ℕ → List ℕ → Result (List ℕ) Kind)
      (aead_of : List ℕ → Result P Kind) → Undoes seals opens → GivesBytes seals → DataKeysUndo aead_of
      → Undoes (envelope_encrypts makes seals aead_of encrypts) (envelope_decrypts opens aead_of decrypts)
