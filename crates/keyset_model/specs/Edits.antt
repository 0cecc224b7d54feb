-- What each command of a manager makes of a keyset, or by which kind it is refused. A command acts on the first key of
-- its id, and a refusal that stands first comes first.
use Rattle.std.specs.Prelude.{◌||◌, ℕ, ℤ, List, [], ◌∷◌, Bool, Option, Some, None, Result, Ok, Err, if◌then◌else◌, nat_eq, find}
use Rattle.std.specs.Option.{option_map}
use Rattle.std.specs.Ordering.{int_eq}
use Rattle.tink_io.specs.declared.error.Kind.{Kind}
use Rattle.tink_io.specs.declared.error.Kind.TheVariants.{KeyNotFound, IsPrimary, WrongStatus, NotEnabled}
use Rattle.tink_proto.specs.declared.enums.KeyStatusType.{KeyStatusType}
use Rattle.tink_proto.specs.declared.enums.KeyStatusType.TheVariants.{Enabled, Disabled, Destroyed}
use Rattle.tink_proto.specs.declared.messages.keys.Key.{Key}
use Rattle.tink_proto.specs.declared.messages.keys.Keyset.{Keyset}
use Rattle.tink_proto.specs.Enums.{status_number}
use Rattle.keyset_model.specs.Keys.{has_id}

-- the status of the first key of an id
abbrev pub status_of : ℕ → List Key → Option ℤ
status_of id keys = option_map (λ k. k.status) (find (has_id id) keys)

-- the keys, the first one of an id changed
abbrev pub with_first : ℕ → (Key → Key) → List Key → List Key
with_first id change [] = []
with_first id change (k ∷ ks) = if has_id id k then change k ∷ ks else k ∷ with_first id change ks

-- the keys without the first one of an id
abbrev pub without_first : ℕ → List Key → List Key
without_first id [] = []
without_first id (k ∷ ks) = if has_id id k then ks else k ∷ without_first id ks

abbrev pub with_status : KeyStatusType → Key → Key
with_status status k = record k { status = status_number status }

-- the key without its data
abbrev pub as_destroyed : Key → Key
as_destroyed k = record k { status = status_number Destroyed; key_data = None }

-- enabled or disabled
abbrev pub is_live : ℤ → Bool
is_live status = int_eq status (status_number Enabled) || int_eq status (status_number Disabled)

-- enabled, disabled or destroyed
abbrev pub is_known_status : ℤ → Bool
is_known_status status = is_live status || int_eq status (status_number Destroyed)

-- the keyset with other keys, where the first key of the id is there and has such a status
abbrev pub edited_where : (ℤ → Bool) → Keyset → List Key → Option ℤ → Result Keyset Kind
edited_where test ks keys None = Err KeyNotFound
edited_where test ks keys (Some status) = if test status then Ok (record ks { key = keys }) else Err (WrongStatus status)

-- the keyset with other keys, where the first key of the id is there
abbrev pub edited_if_there : Keyset → List Key → Option ℤ → Result Keyset Kind
edited_if_there ks keys None = Err KeyNotFound
edited_if_there ks keys (Some _) = Ok (record ks { key = keys })

abbrev pub primary_if_enabled : Keyset → ℕ → Option ℤ → Result Keyset Kind
primary_if_enabled ks id None = Err KeyNotFound
primary_if_enabled ks id (Some status) = if int_eq status (status_number Enabled) then Ok (record ks { primary_key_id = id }) else Err NotEnabled

-- The primary id is refused first, whether a key has it or not.
abbrev pub unless_primary : Keyset → ℕ → Result Keyset Kind → Result Keyset Kind
unless_primary ks id edited = if nat_eq ks.primary_key_id id then Err IsPrimary else edited

abbrev pub enable : Keyset → ℕ → Result Keyset Kind
enable ks id = edited_where is_live ks (with_first id (with_status Enabled) ks.key) (status_of id ks.key)

abbrev pub disable : Keyset → ℕ → Result Keyset Kind
disable ks id = unless_primary ks id (edited_where is_live ks (with_first id (with_status Disabled) ks.key) (status_of id ks.key))

abbrev pub destroy : Keyset → ℕ → Result Keyset Kind
destroy ks id = unless_primary ks id (edited_where is_known_status ks (with_first id as_destroyed ks.key) (status_of id ks.key))

abbrev pub delete : Keyset → ℕ → Result Keyset Kind
delete ks id = unless_primary ks id (edited_if_there ks (without_first id ks.key) (status_of id ks.key))

abbrev pub set_primary : Keyset → ℕ → Result Keyset Kind
set_primary ks id = primary_if_enabled ks id (status_of id ks.key)
