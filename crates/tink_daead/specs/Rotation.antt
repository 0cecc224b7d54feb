-- Ciphertexts that were made before a keyset was edited.
use Rattle.std.specs.Prelude.{◌≡◌, ◌<◌, ℕ, List, Bool, Result, Ok, length}
use Rattle.std.specs.List.{All, Contains}
use Rattle.tink_io.specs.declared.error.Kind.{Kind}
use Rattle.tink_proto.specs.declared.messages.keys.Key.{Key}
use Rattle.tink_proto.specs.declared.messages.keys.Keyset.{Keyset}
use Rattle.tink_primitives.specs.Sorts.{as_deterministic_aead}
use Rattle.tink_primitives.specs.declared.primitive.Primitive.{Primitive}
use Rattle.tink_primitives.specs.declared.primitive.Primitive.TheVariants.{DeterministicAead}
use Rattle.tink_sets.specs.Entries.{entry_of_id}
use Rattle.tink_sets.specs.declared.entry.TypedEntry.{TypedEntry}
use Rattle.keyset_model.specs.Operations.{Operation, Maker, Managed, after_all}
use Rattle.keyset_model.specs.Keys.{enabled}
use Rattle.keyset_model.specs.Spared.{Spares}
use Rattle.tink_keysets.specs.Accepting.{entries_of}
use Rattle.tink_keysets.specs.Decrypting.{any_decrypts, OpensToNoOther}
use Rattle.tink_keysets.specs.Typing.{key_entry, keyset_entries}
use Rattle.tink_daead.specs.Wrapped.{entry_encrypts, primary_encrypts}

module _ {R K A P HD HE M F S St V : Type 0} (url : R → List ℕ) (supports : R → List ℕ → Bool) (builds : R → List ℕ → Result (Primitive K A P HD HE M F S St V) Kind) where
  -- the entry that a key builds, as one of a deterministic AEAD
  abbrev pub daead_entry : List R → Key → Result (TypedEntry P) Kind
  daead_entry = key_entry as_deterministic_aead url supports builds

  -- and those of the enabled keys
  abbrev pub daead_entries : List R → Keyset → Result (List (TypedEntry P)) Kind
  daead_entries = keyset_entries as_deterministic_aead url supports builds

module _ {P : Type 0} (encrypts : P → List ℕ → List ℕ → Result (List ℕ) Kind) (decrypts : P → List ℕ → List ℕ → Result (List ℕ) Kind) where
  -- a deterministic AEAD decrypts what it encrypts, which has more than five bytes
  pub record IsSoundDaead (p : P) : Type 0 where
    pub undoes : (text aad sealed : List ℕ) → encrypts p text aad ≡ Ok sealed → decrypts p sealed aad ≡ Ok text
    pub long : (text aad sealed : List ℕ) → encrypts p text aad ≡ Ok sealed → 5 < length sealed

  -- each deterministic AEAD that a manager builds decrypts what it encrypts
  abbrev pub BuildsSoundDaeads : {R K A HD HE M F S St V : Type 0} → (R → List ℕ → Result (Primitive K A P HD HE M F S St V) Kind) → Type 0
  BuildsSoundDaeads {R} builds = (m : R) (value : List ℕ) (p : P) → builds m value ≡ Ok (DeterministicAead p) → IsSoundDaead p

  module _ {R K A HD HE M F S St V : Type 0} (url : R → List ℕ) (supports : R → List ℕ → Bool) (builds : R → List ℕ → Result (Primitive K A P HD HE M F S St V) Kind) where
    -- What a key's entry encrypted is decrypted under every keyset in which the key is enabled, where no entry opens it
    -- to another text.
    abbrev pub OldTextsOpen : Type 0
    OldTextsOpen =
        BuildsSoundDaeads builds
        → (managers : List R) (ks : Keyset) (k : Key) (e : TypedEntry P) (es : List (TypedEntry P)) (text aad input : List ℕ)
        → daead_entry url supports builds managers k ≡ Ok e → Contains (enabled ks) k → daead_entries url supports builds managers ks ≡ Ok es
        → entry_encrypts encrypts e text aad ≡ Ok input → All (OpensToNoOther decrypts text aad input) es
        → any_decrypts decrypts (entries_of es) input aad ≡ Ok text

    -- What a keyset's primary key encrypted is decrypted after each list of commands that disables, destroys and deletes
    -- no key of its id, where no entry opens it to another text.
    abbrev pub TextsOutlive : Type 0
    TextsOutlive =
        BuildsSoundDaeads builds
        → (makes : Maker) (managers : List R) (m : Managed) (commands : List Operation) (es later : List (TypedEntry P)) (text aad input : List ℕ)
        → All (Spares m.keyset.primary_key_id) commands → daead_entries url supports builds managers m.keyset ≡ Ok es
        → daead_entries url supports builds managers (after_all makes m commands).keyset ≡ Ok later
        → primary_encrypts encrypts (entry_of_id m.keyset.primary_key_id es) text aad ≡ Ok input
        → All (OpensToNoOther decrypts text aad input) later → any_decrypts decrypts (entries_of later) input aad ≡ Ok text
