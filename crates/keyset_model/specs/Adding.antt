-- Adding a key: its id, its place, and what is answered. The data of the key and the draws left after it are given.
use Rattle.std.specs.Prelude.{◌≡◌, ◌++◌, ◌||◌, ℕ, zero, suc, List, [], ◌∷◌, length, take, drop, Bool, Option, Some, None, Result, Ok, Err, All, if◌then◌else◌, nat_eq, nat_le}
use Rattle.std.specs.List.{list_any}
use Rattle.std.specs.Int.{w32, from_be_bytes}
use Rattle.tink_io.specs.declared.error.Kind.{Kind}
use Rattle.tink_io.specs.declared.error.Kind.TheVariants.{UnsupportedKeyType, UnknownPrefix, RandomFault, NoFreshId}
use Rattle.tink_proto.specs.declared.enums.KeyStatusType.TheVariants.{Enabled}
use Rattle.tink_proto.specs.declared.messages.keys.Key.{Key}
use Rattle.tink_proto.specs.declared.messages.keys.KeyData.{KeyData}
use Rattle.tink_proto.specs.declared.messages.keys.KeyTemplate.{KeyTemplate}
use Rattle.tink_proto.specs.declared.messages.keys.Keyset.{Keyset}
use Rattle.tink_proto.specs.Enums.{status_number}
use Rattle.keyset_model.specs.Keys.{has_id}
use Rattle.keyset_model.specs.Entries.{is_known_prefix}

-- the id is 0, or a key has it
abbrev pub is_taken : List Key → ℕ → Bool
is_taken keys id = nat_eq id 0 || list_any (has_id id) keys

-- an id of the next four draws, the greatest place first
abbrev pub drawn_id : List ℕ → ℕ
drawn_id draws = from_be_bytes w32 (take 4 draws)

-- the first drawn id that isn't taken, in at most so many takes, and the draws that are left. A take is whole or nothing.
unfoldable pub fresh_id : List Key → ℕ → List ℕ → Result ℕ Kind × List ℕ
fresh_id keys zero draws = (Err NoFreshId, draws)
fresh_id keys (suc takes) draws =
    if nat_le 4 (length draws)
    then (if is_taken keys (drawn_id draws) then fresh_id keys takes (drop 4 draws) else (Ok (drawn_id draws), drop 4 draws))
    else (Err RandomFault, draws)

-- how many ids are drawn at most
abbrev pub most_ids : ℕ
most_ids = 128

-- an enabled key
abbrev pub new_key : KeyTemplate → KeyData → ℕ → Key
new_key kt d id = record { key_data = Some d; status = status_number Enabled; key_id = id; output_prefix_type = kt.output_prefix_type }

-- the keyset with one key more, at its end, which may be the primary one from now on
abbrev pub with_key : Keyset → Bool → Key → Keyset
with_key ks as_primary k = record { primary_key_id = if as_primary then k.key_id else ks.primary_key_id; key = ks.key ++ k ∷ [] }

-- what adding answers, the keyset after it, and the draws that are left
pub record Added : Type 0 where
  pub answer : Result ℕ Kind
  pub keyset : Keyset
  pub left : List ℕ

-- A refusal leaves the keyset; takes that were made stay made.
abbrev pub added_by_id : Keyset → KeyTemplate → Bool → KeyData → Result ℕ Kind → List ℕ → Added
added_by_id ks kt as_primary d (Err kind) left = record { answer = Err kind; keyset = ks; left = left }
added_by_id ks kt as_primary d (Ok id) left = record { answer = Ok id; keyset = with_key ks as_primary (new_key kt d id); left = left }

-- the key's data is drawn first, then its id
abbrev pub added_by_data : Keyset → KeyTemplate → Bool → Result KeyData Kind → List ℕ → Added
added_by_data ks kt as_primary (Err kind) left = record { answer = Err kind; keyset = ks; left = left }
added_by_data ks kt as_primary (Ok d) left =
    added_by_id ks kt as_primary d (fresh_id ks.key most_ids left).0 (fresh_id ks.key most_ids left).1

abbrev pub added : Keyset → KeyTemplate → Bool → Result KeyData Kind × List ℕ → Added
added ks kt as_primary made = added_by_data ks kt as_primary made.0 made.1

-- the data of a new key by a template, where a manager may be there: none, then the prefix, then the manager's refusal
abbrev pub new_data : {M : Type 0} → (M → List ℕ → List ℕ → Result KeyData Kind × List ℕ) → KeyTemplate → List ℕ → Option M → Result KeyData Kind × List ℕ
new_data makes kt draws None = (Err UnsupportedKeyType, draws)
new_data makes kt draws (Some m) = if is_known_prefix kt.output_prefix_type then makes m kt.value draws else (Err UnknownPrefix, draws)

-- the answer and the draws that are left
abbrev pub reply : Added → Result ℕ Kind × List ℕ
reply a = (a.answer, a.left)

-- the keyset in the answer's place
abbrev pub keyset_or : Result ℕ Kind → Keyset → Result Keyset Kind
keyset_or (Ok _) ks = Ok ks
keyset_or (Err kind) ks = Err kind

abbrev pub keyset_reply : Added → Result Keyset Kind × List ℕ
keyset_reply a = (keyset_or a.answer a.keyset, a.left)

-- an id that isn't 0 and that no key has
pub record IsFresh (keys : List Key) (id : ℕ) : Type 0 where
  pub not_zero : id ≡ 0 → ⊥
  pub unused : All (λ k. k.key_id ≡ id → ⊥) keys
