-- The AEADs of a keyset as one.
use Rattle.std.specs.Prelude.{◌≡◌, ◌++◌, ℕ, List, Vec, Option, Some, None, Result, Err}
use Rattle.std.specs.BTreeMap.{BTreeMap}
use Rattle.tink_io.specs.declared.error.Kind.{Kind}
use Rattle.tink_io.specs.declared.error.Kind.TheVariants.{NoPrimary}
use Rattle.tink_io.specs.Answering.{made_of}
use Rattle.tink_sets.specs.Entries.{entry_of_id, typed_prefix_of}
use Rattle.tink_sets.specs.Groups.{group_of}
use Rattle.tink_sets.specs.declared.entry.TypedEntry.{TypedEntry}
use Rattle.tink_keysets.specs.Built.{HasEntries}
use Rattle.tink_keysets.specs.Accepting.{entries_of}
use Rattle.tink_keysets.specs.Decrypting.{any_decrypts}

-- what was sealed, behind a prefix
abbrev pub behind_prefix : List ℕ → Result (List ℕ) Kind × List ℕ → Result (List ℕ) Kind × List ℕ
behind_prefix prefix told = (made_of (λ sealed. prefix ++ sealed) told.0, told.1)

module _ {P : Type 0} (encrypts : P → List ℕ → List ℕ → List ℕ → Result (List ℕ) Kind × List ℕ) where
  -- an entry's encryption of a text, behind its prefix
  abbrev pub entry_encrypts : TypedEntry P → List ℕ → List ℕ → List ℕ → Result (List ℕ) Kind × List ℕ
  entry_encrypts e text aad draws = behind_prefix e.prefix (encrypts e.primitive text aad draws)

  -- the primary entry's encryption
  abbrev pub primary_encrypts : Option (TypedEntry P) → List ℕ → List ℕ → List ℕ → Result (List ℕ) Kind × List ℕ
  primary_encrypts None text aad draws = (Err NoPrimary, draws)
  primary_encrypts (Some e) text aad draws = entry_encrypts e text aad draws

module _ {P : Type 0} (decrypts : P → List ℕ → List ℕ → Result (List ℕ) Kind) where
  -- each ciphertext has one answer by either
  abbrev pub HasSameAnswers : (old new : List ℕ → List (TypedEntry P)) → Type 0
  HasSameAnswers old new = (input aad : List ℕ) → any_decrypts decrypts new input aad ≡ any_decrypts decrypts old input aad

-- A set is that of these entries: it encrypts by the first of the primary id, and decrypts by any of them.
pub record IsAeadOf {P G : Type 0} (encrypts : P → List ℕ → List ℕ → List ℕ → Result (List ℕ) Kind × List ℕ) (decrypts : P → List ℕ → List ℕ → Result (List ℕ) Kind) (id : ℕ) (es : List (TypedEntry P)) (primary : Option (TypedEntry P)) (groups : BTreeMap (Vec ℕ G) (List (TypedEntry P))) : Type 0 where
  pub has : HasEntries typed_prefix_of (λ e. e.key_id) id es primary groups
  pub encrypted : (text aad draws : List ℕ) → primary_encrypts encrypts primary text aad draws ≡ primary_encrypts encrypts (entry_of_id id es) text aad draws
  pub decrypted : (input aad : List ℕ) → any_decrypts decrypts (group_of groups) input aad ≡ any_decrypts decrypts (entries_of es) input aad
