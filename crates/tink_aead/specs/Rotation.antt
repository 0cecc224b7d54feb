-- Ciphertexts that were made before a keyset was edited.
use Rattle.std.specs.Prelude.{◌≡◌, ◌⊎◌, ◌<◌, ℕ, List, [], Bool, Result, Ok, length}
use Rattle.std.specs.List.{All, Contains}
use Rattle.tink_io.specs.declared.error.Kind.{Kind}
use Rattle.tink_proto.specs.declared.messages.keys.Key.{Key}
use Rattle.tink_proto.specs.declared.messages.keys.Keyset.{Keyset}
use Rattle.tink_primitives.specs.Sorts.{as_aead}
use Rattle.tink_primitives.specs.declared.primitive.Primitive.{Primitive}
use Rattle.tink_primitives.specs.declared.primitive.Primitive.TheVariants.{Aead}
use Rattle.tink_sets.specs.Entries.{entry_of_id}
use Rattle.tink_sets.specs.declared.entry.TypedEntry.{TypedEntry}
use Rattle.keyset_model.specs.Operations.{Operation, Maker, Managed, after_all}
use Rattle.keyset_model.specs.Spared.{Spares}
use Rattle.keyset_model.specs.Keys.{enabled}
use Rattle.tink_keysets.specs.Accepting.{entries_of}
use Rattle.tink_keysets.specs.Decrypting.{any_decrypts, OpensToNoOther}
use Rattle.tink_keysets.specs.Typing.{key_entry, keyset_entries}
use Rattle.tink_aead_subtle.specs.Laws.{Undoes}
use Rattle.tink_aead.specs.Wrapped.{entry_encrypts, primary_encrypts}

module _ {R K P D HD HE M F S St V : Type 0} (url : R → List ℕ) (supports : R → List ℕ → Bool) (builds : R → List ℕ → Result (Primitive K P D HD HE M F S St V) Kind) where
  -- the entry that a key builds, as one of an AEAD
  abbrev pub aead_entry : List R → Key → Result (TypedEntry P) Kind
  aead_entry = key_entry as_aead url supports builds

  -- and those of the enabled keys
  abbrev pub aead_entries : List R → Keyset → Result (List (TypedEntry P)) Kind
  aead_entries = keyset_entries as_aead url supports builds

module _ {P : Type 0} (encrypts : P → List ℕ → List ℕ → List ℕ → Result (List ℕ) Kind × List ℕ) (decrypts : P → List ℕ → List ℕ → Result (List ℕ) Kind) where
  -- An entry made this ciphertext of a text, by an AEAD whose decryption undoes its encryption.
  pub record IsSealedBy (e : TypedEntry P) (text aad input : List ℕ) : Type 0 where
    pub draws : List ℕ
    pub made : (entry_encrypts encrypts e text aad draws).0 ≡ Ok input
    pub undoes : Undoes (encrypts e.primitive) (decrypts e.primitive)
    pub long : 5 < length input

  -- an AEAD decrypts what it encrypts, which has more than five bytes
  pub record IsSoundAead (p : P) : Type 0 where
    pub undoes : Undoes (encrypts p) (decrypts p)
    pub long : (text aad draws sealed : List ℕ) → (encrypts p text aad draws).0 ≡ Ok sealed → 5 < length sealed

  -- What an entry with its own prefix made is decrypted by every list that has the entry, where none opens it to
  -- another text.
  abbrev pub OldCiphertextsOpen : Type 0
  OldCiphertextsOpen =
      (es : List (TypedEntry P)) (e : TypedEntry P) (text aad input : List ℕ)
      → (length e.prefix ≡ 5) ⊎ (e.prefix ≡ []) → Contains es e → IsSealedBy e text aad input → All (OpensToNoOther decrypts text aad input) es
      → any_decrypts decrypts (entries_of es) input aad ≡ Ok text

  -- each AEAD that a manager builds decrypts what it encrypts
  abbrev pub BuildsSoundAeads : {R K D HD HE M F S St V : Type 0} → (R → List ℕ → Result (Primitive K P D HD HE M F S St V) Kind) → Type 0
  BuildsSoundAeads {R} builds = (m : R) (value : List ℕ) (p : P) → builds m value ≡ Ok (Aead p) → IsSoundAead p

  module _ {R K D HD HE M F S St V : Type 0} (url : R → List ℕ) (supports : R → List ℕ → Bool) (builds : R → List ℕ → Result (Primitive K P D HD HE M F S St V) Kind) where
    -- What an enabled key's entry made is decrypted by the entries of its keyset after all commands that neither disable,
    -- destroy nor delete the key, where none of them opens it to another text.
    abbrev pub EnabledKeysOpen : Type 0
    EnabledKeysOpen =
        (makes : Maker) (managers : List R) (m : Managed) (commands : List Operation) (k : Key) (e : TypedEntry P) (es : List (TypedEntry P)) (text aad input : List ℕ)
        → Contains (enabled m.keyset) k → All (Spares k.key_id) commands → aead_entry url supports builds managers k ≡ Ok e
        → aead_entries url supports builds managers (after_all makes m commands).keyset ≡ Ok es → IsSealedBy e text aad input
        → All (OpensToNoOther decrypts text aad input) es → any_decrypts decrypts (entries_of es) input aad ≡ Ok text

    -- What the AEAD of a keyset encrypts is decrypted by that of the keyset after all commands that neither disable,
    -- destroy nor delete a key of the primary id, where no entry opens it to another text.
    abbrev pub EncryptedOpens : Type 0
    EncryptedOpens =
        (makes : Maker) (managers : List R) (m : Managed) (commands : List Operation) (es later : List (TypedEntry P)) (text aad draws input : List ℕ)
        → All (Spares m.keyset.primary_key_id) commands → aead_entries url supports builds managers m.keyset ≡ Ok es
        → All (λ e. Undoes (encrypts e.primitive) (decrypts e.primitive)) es
        → (primary_encrypts encrypts (entry_of_id m.keyset.primary_key_id es) text aad draws).0 ≡ Ok input → 5 < length input
        → aead_entries url supports builds managers (after_all makes m commands).keyset ≡ Ok later → All (OpensToNoOther decrypts text aad input) later
        → any_decrypts decrypts (entries_of later) input aad ≡ Ok text

    -- so where the managers build AEADs that decrypt what they encrypt
    abbrev pub CiphertextsOutlive : Type 0
    CiphertextsOutlive =
        BuildsSoundAeads builds
        → (makes : Maker) (managers : List R) (m : Managed) (commands : List Operation) (es later : List (TypedEntry P)) (text aad draws input : List ℕ)
        → All (Spares m.keyset.primary_key_id) commands → aead_entries url supports builds managers m.keyset ≡ Ok es
        → aead_entries url supports builds managers (after_all makes m commands).keyset ≡ Ok later
        → (primary_encrypts encrypts (entry_of_id m.keyset.primary_key_id es) text aad draws).0 ≡ Ok input
        → All (OpensToNoOther decrypts text aad input) later → any_decrypts decrypts (entries_of later) input aad ≡ Ok text
