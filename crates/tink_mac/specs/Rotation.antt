-- MACs that were made before a keyset was edited.
use Rattle.std.specs.Prelude.{◌≡◌, ◌<◌, ℕ, List, All, Bool, Result, Ok, length}
use Rattle.std.specs.List.{Contains}
use Rattle.tink_io.specs.declared.error.Kind.{Kind}
use Rattle.tink_proto.specs.declared.messages.keys.Key.{Key}
use Rattle.tink_proto.specs.declared.messages.keys.Keyset.{Keyset}
use Rattle.tink_primitives.specs.Sorts.{as_mac}
use Rattle.tink_primitives.specs.declared.primitive.Primitive.{Primitive}
use Rattle.tink_primitives.specs.declared.primitive.Primitive.TheVariants.{Mac}
use Rattle.tink_sets.specs.Entries.{entry_of_id}
use Rattle.tink_sets.specs.declared.entry.TypedEntry.{TypedEntry}
use Rattle.keyset_model.specs.Operations.{Operation, Maker, Managed, after_all}
use Rattle.keyset_model.specs.Keys.{enabled}
use Rattle.keyset_model.specs.Spared.{Spares}
use Rattle.tink_keysets.specs.Accepting.{entries_of}
use Rattle.tink_keysets.specs.Typing.{key_entry, keyset_entries}
use Rattle.tink_mac.specs.Wrapped.{any_verifies, covered, entry_mac, primary_mac, Computes, Verifies}

-- An entry computes this MAC of a message, its primitive accepts its own tag of it, and the MAC has more than five
-- bytes.
pub record IsMacBy {P : Type 0} (computes : Computes P) (verifies : Verifies P) (e : TypedEntry P)
    (message mac : List ℕ) : Type 0 where
  pub made : entry_mac computes e message ≡ Ok mac
  pub own : (tag : List ℕ) → computes e.primitive (covered e.prefix_type message) ≡ Ok tag
      → verifies e.primitive tag (covered e.prefix_type message) ≡ Ok tt
  pub long : 5 < length mac

-- a MAC accepts each tag that it computes, which has more than five bytes
pub record IsSound {P : Type 0} (computes : Computes P) (verifies : Verifies P) (p : P) : Type 0 where
  pub own : (message tag : List ℕ) → computes p message ≡ Ok tag → verifies p tag message ≡ Ok tt
  pub long : (message tag : List ℕ) → computes p message ≡ Ok tag → 5 < length tag

-- so is each MAC that a manager builds
abbrev pub BuildsSound : {M K A D HD HE P F S St V : Type 0}
    → (M → List ℕ → Result (Primitive K A D HD HE P F S St V) Kind) → Computes P → Verifies P → Type 0
BuildsSound {M} {P = P} builds computes verifies =
    (m : M) (value : List ℕ) (p : P) → builds m value ≡ Ok (Mac p) → IsSound computes verifies p

module _ {M K A D HD HE P F S St V : Type 0} (url : M → List ℕ) (supports : M → List ℕ → Bool)
    (builds : M → List ℕ → Result (Primitive K A D HD HE P F S St V) Kind) where
  -- the entry that a key builds, as one of a MAC
  abbrev pub mac_entry : List M → Key → Result (TypedEntry P) Kind
  mac_entry = key_entry as_mac url supports builds

  -- and those of the enabled keys
  abbrev pub mac_entries : List M → Keyset → Result (List (TypedEntry P)) Kind
  mac_entries = keyset_entries as_mac url supports builds

  -- What a key's entry made is accepted by the entries of every keyset in which the key is enabled.
  abbrev pub OldMacsVerify : Computes P → Verifies P → Type 0
  OldMacsVerify computes verifies =
      (managers : List M) (ks : Keyset) (k : Key) (e : TypedEntry P) (es : List (TypedEntry P)) (message mac : List ℕ)
      → mac_entry managers k ≡ Ok e → Contains (enabled ks) k → mac_entries managers ks ≡ Ok es
      → IsMacBy computes verifies e message mac → any_verifies verifies (entries_of es) mac message ≡ Ok tt

  -- What the primary key of a keyset made is accepted after each list of commands that disables, destroys and deletes
  -- no key of its id.
  abbrev pub MacsOutlive : Computes P → Verifies P → Type 0
  MacsOutlive computes verifies =
      BuildsSound builds computes verifies
      → (managers : List M) (makes : Maker) (m : Managed) (commands : List Operation)
      (es later : List (TypedEntry P)) (message mac : List ℕ)
      → All (Spares m.keyset.primary_key_id) commands
      → mac_entries managers m.keyset ≡ Ok es → mac_entries managers (after_all makes m commands).keyset ≡ Ok later
      → primary_mac computes (entry_of_id m.keyset.primary_key_id es) message ≡ Ok mac
      → any_verifies verifies (entries_of later) mac message ≡ Ok tt
