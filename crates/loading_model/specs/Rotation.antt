-- Streams and the commands of a manager: which key of a keyset is chosen for a stream, and what commands leave of that.
-- A key is named by its place in the keyset, since ids may be equal.
use Rattle.std.specs.Prelude.{◌≡◌, ◌↔◌, ◌⊎◌, ◌≤◌, ◌-◌, ⊤, ℕ, zero, suc, true, if◌then◌else◌, nat_eq, nat_lt, List, [], ◌∷◌, All, Option, Some, None, Ok, IsTrue, slice_get}
use Rattle.std.specs.Option.{option_map}
use Rattle.tink_proto.specs.declared.messages.keys.Key.{Key}
use Rattle.tink_proto.specs.declared.messages.keys.Keyset.{Keyset}
use Rattle.tink_proto.specs.Messages.{keyset}
use Rattle.wire_format.specs.Message.{encoded}
use Rattle.keyset_model.specs.Operations.{Maker, Operation, Add, Rotate, Enable, Disable, Destroy, Delete, SetPrimary, Managed, after, after_all}
use Rattle.keyset_model.specs.Keys.{has_id, is_enabled}
use Rattle.keyset_model.specs.Spared.{Spares}
use Rattle.stream_model.specs.Agree.{joined}
use Rattle.stream_model.specs.Key.{StreamKey, fronted}
use Rattle.stream_model.specs.Opening.{OpeningKey, Begins, IsChosen, IsStream, opening_key}
use Rattle.loading_model.specs.Loading.{Loaded, LoadingRow, build_data, load_by, load_keyset, opening_keys, out_of}
use Rattle.loading_model.specs.Loading.BuiltKey.{Streaming}

-- the loaded keys open the stream to the text: it is a stream of the chosen key, and its texts make this one
pub record OpensTo (l : Loaded) (aad S text : List ℕ) : Type 0 where
  pub key : OpeningKey
  pub chosen : IsChosen (opening_keys aad l) S (Some key)
  pub texts : List (List ℕ)
  pub stream : IsStream key S texts
  pub whole : text ≡ joined texts

-- ---- the place of a key

-- the place of the first key of an id, from 0 on
abbrev pub place_of : ℕ → List Key → Option ℕ
place_of id [] = None
place_of id (k ∷ ks) = if has_id id k then Some 0 else option_map suc (place_of id ks)

-- an enabled key whose data builds this key of streams, but for its output prefix
pub record BuildsKey (rows : List LoadingRow) (k : Key) (key : StreamKey) : Type 0 where
  pub enabled : is_enabled k ≡ true
  pub bare : StreamKey
  pub built : build_data rows k.key_data ≡ Ok (Streaming bare)
  pub is : key ≡ fronted (out_of k.output_prefix_type k.key_id) bare

-- an enabled key that builds a key of streams under which the stream begins
abbrev pub BeginsUnder : List LoadingRow → List ℕ → List ℕ → Key → Type 0
BeginsUnder rows aad S k = (key : StreamKey) × BuildsKey rows k key × Begins (opening_key aad key) S

-- the key at the place is the first of these, has this id and builds this key of streams
abbrev pub IsChosenAt : List LoadingRow → List ℕ → List ℕ → List Key → ℕ → ℕ → StreamKey → Type 0
IsChosenAt rows aad S [] place id key = ⊥
IsChosenAt rows aad S (k ∷ ks) zero id key = (k.key_id ≡ id) × BuildsKey rows k key × Begins (opening_key aad key) S
IsChosenAt rows aad S (k ∷ ks) (suc place) id key =
    (BeginsUnder rows aad S k → ⊥) × IsChosenAt rows aad S ks place id key

-- ---- what commands leave

-- the command enables no key
abbrev pub EnablesNone : Operation → Type 0
EnablesNone (Add _) = ⊤
EnablesNone (Rotate _) = ⊤
EnablesNone (Enable _) = ⊥
EnablesNone (Disable _) = ⊤
EnablesNone (Destroy _) = ⊤
EnablesNone (Delete _) = ⊤
EnablesNone (SetPrimary _) = ⊤

-- the command adds a key behind the others, or makes one the primary one
abbrev pub LeavesKeys : Operation → Type 0
LeavesKeys (Add _) = ⊤
LeavesKeys (Rotate _) = ⊤
LeavesKeys (Enable _) = ⊥
LeavesKeys (Disable _) = ⊥
LeavesKeys (Destroy _) = ⊥
LeavesKeys (Delete _) = ⊥
LeavesKeys (SetPrimary _) = ⊤

-- the first key of the id stands elsewhere, or the id is the primary one, which is refused
abbrev pub ActsElsewhere : Keyset → ℕ → ℕ → Type 0
ActsElsewhere ks place id = (ks.primary_key_id ≡ id) ⊎ (place_of id ks.key ≡ Some place → ⊥)

-- the command disables, destroys or deletes no key at the place, and enables none before it
abbrev pub LeavesPlace : Keyset → ℕ → Operation → Type 0
LeavesPlace ks place (Add _) = ⊤
LeavesPlace ks place (Rotate _) = ⊤
LeavesPlace ks place (Enable id) = (p : ℕ) → place_of id ks.key ≡ Some p → place ≤ p
LeavesPlace ks place (Disable id) = ActsElsewhere ks place id
LeavesPlace ks place (Destroy id) = ActsElsewhere ks place id
LeavesPlace ks place (Delete id) = ActsElsewhere ks place id
LeavesPlace ks place (SetPrimary _) = ⊤

-- one less where a key that stood before it was taken out
abbrev pub place_without : Option ℕ → ℕ → ℕ
place_without None place = place
place_without (Some p) place = if nat_lt p place then place - 1 else place

-- where a key stands after the command. The primary id is refused, and so deletes none.
abbrev pub place_after : Keyset → ℕ → Operation → ℕ
place_after ks place (Add _) = place
place_after ks place (Rotate _) = place
place_after ks place (Enable _) = place
place_after ks place (Disable _) = place
place_after ks place (Destroy _) = place
place_after ks place (Delete id) =
    if nat_eq ks.primary_key_id id then place else place_without (place_of id ks.key) place
place_after ks place (SetPrimary _) = place

module _ (makes : Maker) where
  -- each command leaves the key where it then stands
  abbrev pub AllLeavePlace : Managed → ℕ → List Operation → Type 0
  AllLeavePlace m place [] = ⊤
  AllLeavePlace m place (c ∷ cs) =
      LeavesPlace m.keyset place c × AllLeavePlace (after makes m c) (place_after m.keyset place c) cs

  -- where a key stands after all of them
  abbrev pub place_after_all : Managed → ℕ → List Operation → ℕ
  place_after_all m place [] = place
  place_after_all m place (c ∷ cs) = place_after_all (after makes m c) (place_after m.keyset place c) cs

-- ---- what the laws say

-- the bytes of the keyset that commands make load as that keyset, where it fits the wire format
abbrev pub EditedLoads : Type 0
EditedLoads =
    (rows : List LoadingRow) (makes : Maker) (m : Managed) (commands : List Operation)
    → IsTrue (keyset.fits (after_all makes m commands).keyset)
    → load_by rows (encoded keyset.write (after_all makes m commands).keyset)
    ≡ load_keyset rows (after_all makes m commands).keyset

-- of a keyset that loads, the key that is chosen for a stream is the one that is chosen at a place
abbrev pub HasItsPlace : Type 0
HasItsPlace =
    (rows : List LoadingRow) (ks : Keyset) (l : Loaded) (aad S : List ℕ) (k : OpeningKey) → load_keyset rows ks ≡ Ok l
    → IsChosen (opening_keys aad l) S (Some k)
    ↔ ((place id : ℕ) × (key : StreamKey) × IsChosenAt rows aad S ks.key place id key × (k ≡ opening_key aad key))

-- the keyset of one key, which is its primary one
abbrev pub alone : Key → Keyset
alone k = record { primary_key_id = k.key_id; key = k ∷ [] }

-- of a keyset that loads, the key that is chosen for a stream is by itself a keyset that loads, as this key alone
abbrev pub LoadsAlone : Type 0
LoadsAlone =
    (rows : List LoadingRow) (ks : Keyset) (l : Loaded) (aad S : List ℕ) (place id : ℕ) (key : StreamKey) (k : Key)
    → load_keyset rows ks ≡ Ok l → IsChosenAt rows aad S ks.key place id key → slice_get ks.key place ≡ Some k
    → (m : Loaded) × (load_keyset rows (alone k) ≡ Ok m) × (opening_keys aad m ≡ opening_key aad key ∷ [])

-- after commands that only add keys or choose the primary one, each stream opens to the text that it opened to
abbrev pub StreamsStay : Type 0
StreamsStay =
    (rows : List LoadingRow) (makes : Maker) (m : Managed) (commands : List Operation) (l later : Loaded)
    (aad S text : List ℕ) → All LeavesKeys commands
    → load_keyset rows m.keyset ≡ Ok l → load_keyset rows (after_all makes m commands).keyset ≡ Ok later
    → OpensTo l aad S text → OpensTo later aad S text

-- the key that is chosen for a stream stays so where a command leaves its place
abbrev pub StaysChosen : Type 0
StaysChosen =
    (rows : List LoadingRow) (makes : Maker) (m : Managed) (command : Operation) (aad S : List ℕ)
    (place id : ℕ) (key : StreamKey)
    → IsChosenAt rows aad S m.keyset.key place id key → LeavesPlace m.keyset place command
    → IsChosenAt rows aad S (after makes m command).keyset.key (place_after m.keyset place command) id key

-- and the stream opens to the texts that it opened to, and to no others
abbrev pub OpeningStays : Type 0
OpeningStays =
    (rows : List LoadingRow) (makes : Maker) (m : Managed) (command : Operation) (l later : Loaded)
    (aad S : List ℕ) (place id : ℕ) (key : StreamKey)
    → IsChosenAt rows aad S m.keyset.key place id key → LeavesPlace m.keyset place command
    → load_keyset rows m.keyset ≡ Ok l → load_keyset rows (after makes m command).keyset ≡ Ok later
    → (text : List ℕ) → OpensTo l aad S text ↔ OpensTo later aad S text

-- the same of a list of commands, whether the keyset loads in between or not
abbrev pub StaysChosenByAll : Type 0
StaysChosenByAll =
    (rows : List LoadingRow) (makes : Maker) (m : Managed) (commands : List Operation) (aad S : List ℕ)
    (place id : ℕ) (key : StreamKey)
    → IsChosenAt rows aad S m.keyset.key place id key → AllLeavePlace makes m place commands
    → IsChosenAt rows aad S (after_all makes m commands).keyset.key (place_after_all makes m place commands) id key

abbrev pub StreamsOutlive : Type 0
StreamsOutlive =
    (rows : List LoadingRow) (makes : Maker) (m : Managed) (commands : List Operation) (l later : Loaded)
    (aad S : List ℕ) (place id : ℕ) (key : StreamKey)
    → IsChosenAt rows aad S m.keyset.key place id key → AllLeavePlace makes m place commands
    → load_keyset rows m.keyset ≡ Ok l → load_keyset rows (after_all makes m commands).keyset ≡ Ok later
    → (text : List ℕ) → OpensTo l aad S text ↔ OpensTo later aad S text

-- and so it is where each of them enables none, and disables, destroys or deletes no key of the id
abbrev pub StreamsOutliveById : Type 0
StreamsOutliveById =
    (rows : List LoadingRow) (makes : Maker) (m : Managed) (commands : List Operation) (l later : Loaded)
    (aad S : List ℕ) (place id : ℕ) (key : StreamKey)
    → IsChosenAt rows aad S m.keyset.key place id key → All (λ c. Spares id c × EnablesNone c) commands
    → load_keyset rows m.keyset ≡ Ok l → load_keyset rows (after_all makes m commands).keyset ≡ Ok later
    → (text : List ℕ) → OpensTo l aad S text ↔ OpensTo later aad S text
