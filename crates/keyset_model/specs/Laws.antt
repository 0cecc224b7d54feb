-- Laws of the commands.
use Rattle.std.specs.Prelude.{◌≡◌, ◌⊎◌, ◌↔◌, ◌*◌, ◌<◌, ◌≤◌, ℕ, ℤ, List, drop, length, Bool, Some, None, Result, Ok, Err, All, Any, Contains, IsTrue, nat_eq}
use Rattle.std.specs.List.{IsDistinct}
use Rattle.tink_io.specs.declared.error.Kind.{Kind}
use Rattle.tink_io.specs.declared.error.Kind.TheVariants.{NoFreshId}
use Rattle.tink_proto.specs.declared.enums.KeyStatusType.TheVariants as statuses
use Rattle.tink_proto.specs.declared.messages.keys.Key.{Key}
use Rattle.tink_proto.specs.declared.messages.keys.KeyData.{KeyData}
use Rattle.tink_proto.specs.declared.messages.keys.KeyTemplate.{KeyTemplate}
use Rattle.tink_proto.specs.declared.messages.keys.Keyset.{Keyset}
use Rattle.tink_proto.specs.Enums.{status_number}
use Rattle.keyset_model.specs.Adding.{added, drawn_id, fresh_id, is_taken, most_ids, IsFresh}
use Rattle.keyset_model.specs.Operations.{Maker, Operation, Add, Rotate, Enable, Disable, Destroy, Delete, SetPrimary, Managed, edit, keyset_after, after_all}
use Rattle.keyset_model.specs.Keys.{ids_of}
use Rattle.keyset_model.specs.Entries.{is_known_prefix}
use Rattle.keyset_model.specs.Validity.{IsValid, has_a_primary, is_known_material}

-- an id that adding gives isn't 0, and no key had it
abbrev pub AddsFreshIds : Type 0
AddsFreshIds =
    (ks : Keyset) (kt : KeyTemplate) (as_primary : Bool) (made : Result KeyData Kind × List ℕ) (id : ℕ)
    → (added ks kt as_primary made).answer ≡ Ok id → IsFresh ks.key id

-- there is no fresh id exactly where draws suffice for all 128 ids, and each of these is 0 or a key's
abbrev pub RefusesTakenIds : Type 0
RefusesTakenIds =
    (keys : List Key) (draws : List ℕ)
    → ((fresh_id keys most_ids draws).0 ≡ Err NoFreshId)
    ↔ ((4 * most_ids ≤ length draws) × ((i : ℕ) → i < most_ids → IsTrue (is_taken keys (drawn_id (drop (4 * i) draws)))))

-- a key that is not added leaves the keyset
abbrev pub RefusedAddingLeaves : Type 0
RefusedAddingLeaves =
    (ks : Keyset) (kt : KeyTemplate) (as_primary : Bool) (made : Result KeyData Kind × List ℕ) (kind : Kind)
    → (added ks kt as_primary made).answer ≡ Err kind → (added ks kt as_primary made).keyset ≡ ks

-- a refused command leaves the keyset
abbrev pub RefusedEditLeaves : Type 0
RefusedEditLeaves =
    (makes : Maker) (ks : Keyset) (command : Operation) (draws : List ℕ) (kind : Kind)
    → (edit makes ks command draws).0 ≡ Err kind → keyset_after ks (edit makes ks command draws).0 ≡ ks

-- ---- lists of commands

-- the command gives a key of the id the status
abbrev pub SetsStatus : ℕ → ℤ → Operation → Type 0
SetsStatus id status (Add _) = ⊥
SetsStatus id status (Rotate _) = ⊥
SetsStatus id status (Enable n) = (n ≡ id) × (status ≡ status_number statuses.Enabled)
SetsStatus id status (Disable n) = (n ≡ id) × (status ≡ status_number statuses.Disabled)
SetsStatus id status (Destroy n) = (n ≡ id) × (status ≡ status_number statuses.Destroyed)
SetsStatus id status (Delete _) = ⊥
SetsStatus id status (SetPrimary _) = ⊥

-- the key is destroyed, and has no data
pub record IsGone (k : Key) : Type 0 where
  pub status : k.status ≡ status_number statuses.Destroyed
  pub no_data : k.key_data ≡ None

-- what commands leave of a key: its id and its prefix type; its status, unless one of them gave it another; and its data,
-- unless one of them destroyed it. A destroyed key stays so.
pub record IsKept (commands : List Operation) (k now : Key) : Type 0 where
  pub id : now.key_id ≡ k.key_id
  pub prefix : now.output_prefix_type ≡ k.output_prefix_type
  pub status : (now.status ≡ k.status) ⊎ Any (SetsStatus k.key_id now.status) commands
  pub key_data : (now.key_data ≡ k.key_data) ⊎ (IsGone now × Contains commands (Destroy k.key_id))
  pub stays : k.status ≡ status_number statuses.Destroyed → now.status ≡ status_number statuses.Destroyed

-- no key is lost but by a command that deletes its id
abbrev pub KeepsKeys : Type 0
KeepsKeys =
    (makes : Maker) (m : Managed) (commands : List Operation) (k : Key) → Contains m.keyset.key k
    → Contains commands (Delete k.key_id) ⊎ Any (IsKept commands k) (after_all makes m commands).keyset.key

-- no id is 0, and no two are equal
pub record AreOwnIds (ids : List ℕ) : Type 0 where
  pub not_zero : All (λ id. id ≡ 0 → ⊥) ids
  pub distinct : IsDistinct nat_eq ids

-- ids that are distinct and not 0 stay so
abbrev pub KeepsIds : Type 0
KeepsIds = (makes : Maker) (m : Managed) (commands : List Operation) → AreOwnIds (ids_of m.keyset.key) → AreOwnIds (ids_of (after_all makes m commands).keyset.key)

-- where an enabled key has the primary id, one has it after all commands
abbrev pub KeepsPrimary : Type 0
KeepsPrimary = (makes : Maker) (m : Managed) (commands : List Operation) → IsTrue (has_a_primary m.keyset) → IsTrue (has_a_primary (after_all makes m commands).keyset)

-- the managers give data that a handle may hold, and by templates whose prefix type is from 1 to 4
abbrev pub GivesHeld : Maker → Type 0
GivesHeld makes =
    (kt : KeyTemplate) (draws : List ℕ) (d : KeyData) → (makes kt draws).0 ≡ Ok d
    → IsTrue (is_known_material (Some d)) × IsTrue (is_known_prefix kt.output_prefix_type)

-- a valid keyset whose ids are distinct, and of which an enabled key is the primary one, stays valid
abbrev pub KeepsValid : Type 0
KeepsValid =
    (makes : Maker) → GivesHeld makes → (m : Managed) (commands : List Operation) → AreOwnIds (ids_of m.keyset.key) → IsTrue (has_a_primary m.keyset)
    → IsValid m.keyset → IsValid (after_all makes m commands).keyset
