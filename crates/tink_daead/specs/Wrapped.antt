-- The deterministic AEADs of a keyset as one.
use Rattle.std.specs.Prelude.{◌≡◌, ◌++◌, ℕ, List, Vec, Option, Some, None, Result, Err}
use Rattle.std.specs.BTreeMap.{BTreeMap}
use Rattle.tink_io.specs.declared.error.Kind.{Kind}
use Rattle.tink_io.specs.declared.error.Kind.TheVariants.{NoPrimary}
use Rattle.tink_io.specs.Answering.{made_of}
use Rattle.tink_sets.specs.Entries.{entry_of_id, typed_prefix_of}
use Rattle.tink_sets.specs.Groups.{group_of}
use Rattle.tink_sets.specs.declared.entry.TypedEntry.{TypedEntry}
use Rattle.tink_keysets.specs.Built.{HasEntries}
use Rattle.tink_keysets.specs.Accepting.{entries_of}
use Rattle.tink_keysets.specs.Decrypting.{any_decrypts}

module _ {P : Type 0} (encrypts : P → List ℕ → List ℕ → Result (List ℕ) Kind) where
  -- an entry's encryption of a text, behind its prefix
  abbrev pub entry_encrypts : TypedEntry P → List ℕ → List ℕ → Result (List ℕ) Kind
  entry_encrypts e text aad = made_of (λ sealed. e.prefix ++ sealed) (encrypts e.primitive text aad)

  -- the primary entry's encryption
  abbrev pub primary_encrypts : Option (TypedEntry P) → List ℕ → List ℕ → Result (List ℕ) Kind
  primary_encrypts None text aad = Err NoPrimary
  primary_encrypts (Some e) text aad = entry_encrypts e text aad

-- A set is that of these entries: it encrypts by the first of the primary id, and decrypts by any of them.
pub record IsDaeadOf {P G : Type 0} (encrypts : P → List ℕ → List ℕ → Result (List ℕ) Kind) (decrypts : P → List ℕ → List ℕ → Result (List ℕ) Kind) (id : ℕ) (es : List (TypedEntry P)) (primary : Option (TypedEntry P)) (groups : BTreeMap (Vec ℕ G) (List (TypedEntry P))) : Type 0 where
  pub has : HasEntries typed_prefix_of (λ e. e.key_id) id es primary groups
  pub encrypted : (text aad : List ℕ) → primary_encrypts encrypts primary text aad ≡ primary_encrypts encrypts (entry_of_id id es) text aad
  pub decrypted : (input aad : List ℕ) → any_decrypts decrypts (group_of groups) input aad ≡ any_decrypts decrypts (entries_of es) input aad
