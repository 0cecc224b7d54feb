-- The AEADs of a master keyset.
use Rattle.std.specs.Prelude.{◌≡◌, ◌⊎◌, ℕ, List, Result, Ok, Err}
use Rattle.std.specs.Str.{bytes_eq}
use Rattle.tink_io.specs.declared.error.Kind.{Kind}
use Rattle.tink_io.specs.declared.error.Kind.TheVariants.{OutOfMemory}
use Rattle.tink_io.specs.declared.error.TinkError.{TinkError}
use Rattle.tink_io.specs.Answering.{made_of}
use Rattle.tink_proto.specs.declared.messages.keys.Keyset.{Keyset}
use Rattle.tink_sets.specs.Entries.{entry_of_id}
use Rattle.tink_sets.specs.declared.entry.TypedEntry.{TypedEntry}
use Rattle.tink_keysets.specs.Encrypted.{chained}
use Rattle.tink_keysets.specs.Valid.{valid_keyset}
use Rattle.tink_keysets.specs.Accepting.{entries_of}
use Rattle.tink_aead.specs.AeadKinds.{kind_decrypts, kind_encrypts}
use Rattle.tink_aead.specs.Rotation.{aead_entries}
use Rattle.tink_keysets.specs.Decrypting.{any_decrypts}
use Rattle.tink_aead.specs.Wrapped.{IsAeadOf, primary_encrypts}
use Rattle.tink_aead.specs.declared.aead_kind.AeadKind.{AeadKind}
use Rattle.tink_aead.specs.declared.factory.WrappedAead.{WrappedAead}
use Rattle.tink.specs.Managers.{row_of}
use Rattle.tink.specs.Registered.{with_everything}
use Rattle.tink_keyset_io.specs.Files.{wire_of}

-- the entries of a keyset's enabled keys as AEADs, and the id of the primary one
pub record MasterKeys : Type 0 where
  pub id : ℕ
  pub entries : List (TypedEntry AeadKind)

abbrev pub master_keys : ℕ → List (TypedEntry AeadKind) → MasterKeys
master_keys id entries = record { id = id; entries = entries }

-- the AEADs of a keyset by the eleven managers, or the refusal of the first key that does not build, of a keyset
-- without a primary key, or of the first key that is no AEAD
abbrev pub master_in : Keyset → Result MasterKeys Kind
master_in ks =
    made_of (master_keys ks.primary_key_id)
    (aead_entries (λ m. (row_of m).url) (λ m url. bytes_eq (row_of m).url url) (λ m. (row_of m).built) with_everything.managers ks)

-- the valid keyset of a file of keys
abbrev pub valid_in_file : List ℕ → Result Keyset Kind
valid_in_file file = chained valid_keyset (wire_of file)

-- the AEADs that a file of keys loads as, or the first refusal
unfoldable pub master_of : List ℕ → Result MasterKeys Kind
master_of file = chained master_in (valid_in_file file)

-- what the primary key encrypts
abbrev pub master_encrypts : MasterKeys → List ℕ → List ℕ → List ℕ → Result (List ℕ) Kind × List ℕ
master_encrypts m text aad draws = primary_encrypts kind_encrypts (entry_of_id m.id m.entries) text aad draws

-- what any key decrypts
abbrev pub master_decrypts : MasterKeys → List ℕ → List ℕ → Result (List ℕ) Kind
master_decrypts m input aad = any_decrypts kind_decrypts (entries_of m.entries) input aad

-- the AEADs of a set are those that loaded
abbrev pub IsMaster : MasterKeys → WrappedAead AeadKind → Type 0
IsMaster m w = IsAeadOf kind_encrypts kind_decrypts m.id m.entries w.ps.primary w.ps.entries

-- a call gives the given AEADs, or refuses by the given kind, or there is no memory
abbrev pub GivesMaster : Result (WrappedAead AeadKind) TinkError → Result MasterKeys Kind → Type 0
GivesMaster (Ok w) told = (m : MasterKeys) × (told ≡ Ok m) × IsMaster m w
GivesMaster (Err e) told = (e.kind ≡ OutOfMemory) ⊎ (told ≡ Err e.kind)
