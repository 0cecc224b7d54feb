-- What the primitives of a file of keys answer.
use Rattle.std.specs.Prelude.{◌≡◌, ◌⊎◌, ℕ, List, None, Result, Ok, Err}
use Rattle.std.specs.Str.{bytes_eq}
use Rattle.tink_io.specs.declared.error.Kind.{Kind}
use Rattle.tink_io.specs.declared.error.Kind.TheVariants.{OutOfMemory}
use Rattle.tink_io.specs.declared.error.TinkError.{TinkError}
use Rattle.tink_io.specs.Answering.{and_then, made_of}
use Rattle.tink_proto.specs.declared.messages.keys.Keyset.{Keyset}
use Rattle.tink_sets.specs.Entries.{entry_of, entry_of_id}
use Rattle.tink_sets.specs.declared.entry.TypedEntry.{TypedEntry}
use Rattle.tink_keysets.specs.Accepting.{entries_of}
use Rattle.tink_keysets.specs.Built.{built_entries}
use Rattle.tink_keysets.specs.Decrypting.{any_decrypts}
use Rattle.tink_keysets.specs.Encrypted.{chained}
use Rattle.tink_prf.specs.PrfKinds.{kind_output}
use Rattle.tink_prf.specs.Sets.{HasPrfs, primary_output, prfs_of}
use Rattle.tink_prf.specs.declared.prf_kind.PrfKind.{PrfKind}
use Rattle.tink_prf.specs.declared.set_factory.Set.{Set}
use Rattle.tink_mac.specs.MacKinds as macs
use Rattle.tink_mac.specs.Wrapped.{any_verifies, primary_mac}
use Rattle.tink_daead.specs.AesSiv.{aes_siv_decrypts, aes_siv_encrypts}
use Rattle.tink_daead.specs.Rotation.{daead_entries}
use Rattle.tink_daead.specs.Wrapped.{IsDaeadOf, primary_encrypts}
use Rattle.tink_daead.specs.declared.factory.WrappedDeterministicAead.{WrappedDeterministicAead}
use Rattle.tink_daead.specs.declared.subtle.aes_siv.AesSiv.{AesSiv}
use Rattle.tink_tokens.specs.Tokens.{Macs, macs_in}
use Rattle.tink.specs.Managers.{row_of}
use Rattle.tink.specs.Registered.{with_everything}
use Rattle.tink_aead.specs.AeadKinds as aeads
use Rattle.tink_aead.specs.Rotation.{aead_entries}
use Rattle.tink_aead.specs.Wrapped as wrapped
use Rattle.tink_aead.specs.declared.aead_kind.AeadKind.{AeadKind}
use Rattle.tink_aead.specs.declared.factory.WrappedAead.{WrappedAead}
use Rattle.tink_keysets.specs.Valid.{valid_keyset}
use Rattle.tink_keyset_io.specs.Files.{wire_of}

-- the valid keyset of a file
abbrev pub valid_in_file : List ℕ → Result Keyset Kind
valid_in_file file = chained valid_keyset (wire_of file)

-- a call gives what these keys are, or refuses by the given kind, or there is no memory
abbrev pub GivesKeys : {K W : Type 0} → (K → W → Type 0) → Result W TinkError → Result K Kind → Type 0
GivesKeys {K} Is (Ok w) told = (k : K) × (told ≡ Ok k) × Is k w
GivesKeys Is (Err e) told = (e.kind ≡ OutOfMemory) ⊎ (told ≡ Err e.kind)

-- ---- AEADs

-- the entries of a keyset's enabled keys as AEADs, and the id of the primary one
pub record AeadKeys : Type 0 where
  pub id : ℕ
  pub entries : List (TypedEntry AeadKind)

abbrev pub aead_keys : ℕ → List (TypedEntry AeadKind) → AeadKeys
aead_keys id entries = record { id = id; entries = entries }

abbrev pub aeads_in : Keyset → Result AeadKeys Kind
aeads_in ks =
    made_of (aead_keys ks.primary_key_id)
    (aead_entries (λ m. (row_of m).url) (λ m url. bytes_eq (row_of m).url url) (λ m. (row_of m).built) with_everything.managers ks)

-- the AEADs of a set are those that loaded
abbrev pub IsAead : AeadKeys → WrappedAead AeadKind → Type 0
IsAead k w = wrapped.IsAeadOf aeads.kind_encrypts aeads.kind_decrypts k.id k.entries w.ps.primary w.ps.entries

abbrev pub aeads_of : List ℕ → Result AeadKeys Kind
aeads_of file = chained aeads_in (valid_in_file file)

-- what the primary key of a file encrypts
abbrev pub aead_encrypted : List ℕ → List ℕ → List ℕ → List ℕ → Result (List ℕ) Kind
aead_encrypted file text aad random =
    chained (λ k. (wrapped.primary_encrypts aeads.kind_encrypts (entry_of_id k.id k.entries) text aad random).0) (aeads_of file)

-- what a key of a file decrypts
abbrev pub aead_decrypted : List ℕ → List ℕ → List ℕ → Result (List ℕ) Kind
aead_decrypted file input aad = chained (λ k. any_decrypts aeads.kind_decrypts (entries_of k.entries) input aad) (aeads_of file)

-- ---- deterministic AEADs

-- the entries of a keyset's enabled keys as deterministic AEADs, and the id of the primary one
pub record DaeadKeys : Type 0 where
  pub id : ℕ
  pub entries : List (TypedEntry AesSiv)

abbrev pub daead_keys : ℕ → List (TypedEntry AesSiv) → DaeadKeys
daead_keys id entries = record { id = id; entries = entries }

abbrev pub daeads_in : Keyset → Result DaeadKeys Kind
daeads_in ks =
    made_of (daead_keys ks.primary_key_id)
    (daead_entries (λ m. (row_of m).url) (λ m url. bytes_eq (row_of m).url url) (λ m. (row_of m).built) with_everything.managers ks)

-- the deterministic AEADs of a set are those that loaded
abbrev pub IsDaead : DaeadKeys → WrappedDeterministicAead AesSiv → Type 0
IsDaead k w = IsDaeadOf aes_siv_encrypts aes_siv_decrypts k.id k.entries w.ps.primary w.ps.entries

abbrev pub daeads_of : List ℕ → Result DaeadKeys Kind
daeads_of file = chained daeads_in (valid_in_file file)

abbrev pub daead_encrypted : List ℕ → List ℕ → List ℕ → Result (List ℕ) Kind
daead_encrypted file text aad = chained (λ k. primary_encrypts aes_siv_encrypts (entry_of_id k.id k.entries) text aad) (daeads_of file)

abbrev pub daead_decrypted : List ℕ → List ℕ → List ℕ → Result (List ℕ) Kind
daead_decrypted file input aad = chained (λ k. any_decrypts aes_siv_decrypts (entries_of k.entries) input aad) (daeads_of file)

-- ---- MACs

abbrev pub macs_of_file : List ℕ → Result Macs Kind
macs_of_file file = chained macs_in (valid_in_file file)

abbrev pub mac_computed : List ℕ → List ℕ → Result (List ℕ) Kind
mac_computed file message = chained (λ m. primary_mac macs.kind_computes (entry_of_id m.id m.entries) message) (macs_of_file file)

abbrev pub mac_verified : List ℕ → List ℕ → List ℕ → Result (Unit {0}) Kind
mac_verified file mac message = chained (λ m. any_verifies macs.kind_verifies (entries_of m.entries) mac message) (macs_of_file file)

-- ---- pseudorandom functions

-- the functions of a keyset's enabled keys with their ids, and the id of the primary one
pub record PrfKeys : Type 0 where
  pub id : ℕ
  pub prfs : List (ℕ × PrfKind)

abbrev pub prf_keys : ℕ → List (ℕ × PrfKind) → PrfKeys
prf_keys id prfs = record { id = id; prfs = prfs }

abbrev pub prfs_in : Keyset → Result PrfKeys Kind
prfs_in ks =
    made_of (prf_keys ks.primary_key_id)
    (and_then (built_entries (λ m. (row_of m).url) (λ m url. bytes_eq (row_of m).url url) (λ m. (row_of m).built) entry_of with_everything.managers None ks)
    (prfs_of ks.primary_key_id))

abbrev pub ArePrfs : PrfKeys → Set PrfKind → Type 0
ArePrfs k set = HasPrfs k.id k.prfs set

abbrev pub prfs_of_file : List ℕ → Result PrfKeys Kind
prfs_of_file file = chained prfs_in (valid_in_file file)

-- the functions of a file, as one set, give this
pub record PrfTells (file input : List ℕ) (n : ℕ) (told : Result (List ℕ) Kind) : Type 0 where
  pub keys : PrfKeys
  pub loads : prfs_of_file file ≡ Ok keys
  pub set : Set PrfKind
  pub are : ArePrfs keys set
  pub tells : primary_output kind_output set input n ≡ told

abbrev pub PrfGives : List ℕ → List ℕ → ℕ → List ℕ → Type 0
PrfGives file input n bytes = PrfTells file input n (Ok bytes)

abbrev pub PrfRefuses : List ℕ → List ℕ → ℕ → Kind → Type 0
PrfRefuses file input n kind = (prfs_of_file file ≡ Err kind) ⊎ PrfTells file input n (Err kind)
