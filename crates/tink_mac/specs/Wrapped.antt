-- The MACs of a keyset as one.
use Rattle.std.specs.Prelude.{◌≡◌, ◌++◌, ◌∷◌, ℕ, List, [], Vec, Option, Some, None, Result, Err}
use Rattle.std.specs.BTreeMap.{BTreeMap}
use Rattle.tink_io.specs.declared.error.Kind.{Kind}
use Rattle.tink_io.specs.declared.error.Kind.TheVariants.{MacMismatch, NoPrimary}
use Rattle.tink_io.specs.Answering.{made_of}
use Rattle.tink_proto.specs.declared.enums.OutputPrefixType.{OutputPrefixType}
use Rattle.tink_proto.specs.declared.enums.OutputPrefixType.TheVariants.{Legacy}
use Rattle.tink_sets.specs.Entries.{entry_of_id, typed_prefix_of}
use Rattle.tink_sets.specs.Groups.{group_of}
use Rattle.tink_sets.specs.declared.entry.TypedEntry.{TypedEntry}
use Rattle.tink_keysets.specs.Built.{HasEntries}
use Rattle.tink_keysets.specs.Accepting.{accepted_behind_prefix, entries_of}

-- what a MAC covers: for a LEGACY key the data and one zero byte
abbrev pub covered : OutputPrefixType → List ℕ → List ℕ
covered Legacy message = message ++ 0 ∷ []
covered _ message = message

-- what MACs compute and accept
abbrev pub Computes : Type 0 → Type 0
Computes P = P → List ℕ → Result (List ℕ) Kind

abbrev pub Verifies : Type 0 → Type 0
Verifies P = P → List ℕ → List ℕ → Result (Unit {0}) Kind

module _ {P : Type 0} (computes : Computes P) where
  -- an entry's MAC of some data, behind its prefix
  abbrev pub entry_mac : TypedEntry P → List ℕ → Result (List ℕ) Kind
  entry_mac e message = made_of (λ tag. e.prefix ++ tag) (computes e.primitive (covered e.prefix_type message))

  -- the primary entry's MAC
  abbrev pub primary_mac : Option (TypedEntry P) → List ℕ → Result (List ℕ) Kind
  primary_mac None message = Err NoPrimary
  primary_mac (Some e) message = entry_mac e message

module _ {P : Type 0} (verifies : Verifies P) where
  -- what an entry answers on a MAC without its prefix
  abbrev pub entry_verifies : List ℕ → TypedEntry P → List ℕ → Result (Unit {0}) Kind
  entry_verifies message e mac = verifies e.primitive mac (covered e.prefix_type message)

  -- the first entry that accepts, of MACs of more than five bytes
  abbrev pub any_verifies : (List ℕ → List (TypedEntry P)) → List ℕ → List ℕ → Result (Unit {0}) Kind
  any_verifies group mac message = accepted_behind_prefix (entry_verifies message) group MacMismatch mac

-- A wrapped MAC is that of these entries: it computes by the first of the primary id, and accepts by any of them.
pub record IsMacOf {P G : Type 0} (computes : Computes P) (verifies : Verifies P) (id : ℕ) (es : List (TypedEntry P))
    (primary : Option (TypedEntry P)) (groups : BTreeMap (Vec ℕ G) (List (TypedEntry P))) : Type 0 where
  pub has : HasEntries typed_prefix_of (λ e. e.key_id) id es primary groups
  pub computed : (message : List ℕ)
      → primary_mac computes primary message ≡ primary_mac computes (entry_of_id id es) message
  pub verified : (mac message : List ℕ)
      → any_verifies verifies (group_of groups) mac message ≡ any_verifies verifies (entries_of es) mac message
