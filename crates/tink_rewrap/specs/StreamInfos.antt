-- What is told of a sealed stream without its text.
use Rattle.std.specs.Prelude.{◌≡◌, ◌⊎◌, ◌≤◌, ℕ, ◌+◌, List, Vec, All, Contains, length, map, Some, IfSome, Result, Ok, Err}
use Rattle.std.specs.BTreeMap.{BTreeMap}
use Rattle.std.specs.declared.option.Option.{Option}
use Rattle.tink_io.specs.Faults.{Rose}
use Rattle.tink_io.specs.declared.error.Kind.{Kind}
use Rattle.tink_io.specs.declared.error.Kind.TheVariants.{BadKeyset, BadSegment, InvalidKey, InvalidKeyset, NoMatchingKey, NoPrimary, OutOfMemory, ReadFault, TooManySegments, Truncated, UnsupportedKeyType, WrongPrimitive}
use Rattle.tink_io.specs.declared.error.TinkError.{TinkError}
use Rattle.stream_model.specs.Agree.{joined}
use Rattle.stream_model.specs.Opening.{IsChosen, IsStream, OpeningKey, opening_key}
use Rattle.loading_model.specs.Loading.{Loaded, LoadedKey, opening_keys}
use Rattle.tink_sets.specs.Entries.{typed_prefix_of}
use Rattle.tink_sets.specs.Groups.{AreGroupsOf}
use Rattle.tink_sets.specs.declared.entry.TypedEntry.{TypedEntry}
use Rattle.tink_streaming_keys.specs.StreamKinds.{key_in_set}
use Rattle.tink_streaming_keys.specs.declared.stream_kind.StreamKind.{StreamKind}
use Rattle.tink_streaming_aead.specs.Wrapped.{all_entries}
use Rattle.tink_range.specs.Giving.{Cutting}
use Rattle.tink_range.specs.KeyRanges.{IsCutUnder}
use Rattle.tink_range.specs.StreamSizes.{IsIdOfChosen, Measures, SizesRefused}
use Rattle.tink_run.specs.AllKeys.{load}
use Rattle.tink_run.specs.Run.{CanOpen, IsEarly}
use Rattle.tink_rewrap.specs.declared.info.of_set.StreamInfo.{StreamInfo}

-- the key of an entry, as opening sees it under associated data
abbrev pub entry_key : List ℕ → TypedEntry StreamKind → OpeningKey
entry_key aad e = opening_key aad (key_in_set e)

-- the id is that of the first of the entries under whose key the stream begins
abbrev pub IsIdInSet : List ℕ → List (TypedEntry StreamKind) → List ℕ → ℕ → Type 0
IsIdInSet aad entries S id = IsIdOfChosen (entry_key aad) (λ e. e.key_id) entries S id

-- the id is that of a key of the list, and this key is the one that is chosen for the stream
pub record IsIdOfKey (aad : List ℕ) (keys : List LoadedKey) (S : List ℕ) (id : ℕ) : Type 0 where
  pub key : LoadedKey
  pub there : Contains keys key
  pub id_is : id ≡ key.id
  pub chosen : IsChosen (map (λ k. opening_key aad k.key) keys) S (Some (opening_key aad key.key))

-- whichever entries a set has, each of its entries is one of them
abbrev pub KeepsEntries : {G : Type 0} → BTreeMap (Vec ℕ G) (List (TypedEntry StreamKind)) → Type 0
KeepsEntries groups = (entries : List (TypedEntry StreamKind)) → AreGroupsOf typed_prefix_of entries groups → All (Contains entries) (all_entries groups)

-- the id is that of the chosen key, a whole segment has so many bytes, the last segment is one, and so many segments and
-- bytes of text there are
pub record Tells (IsId : List ℕ → ℕ → Type 0) (all : Option (List ℕ)) (i : StreamInfo) (c : Cutting) (behind : ℕ) : Type 0 where
  pub measures : Measures c behind all i.segments i.plaintext_len
  pub key : IfSome all (λ S. IsId S i.key_id)
  pub segment : i.segment_len ≡ c.size

-- each refusal
abbrev pub InfoRefused : List OpeningKey → Option (List ℕ) → ℕ → ℕ → ℕ → Kind → Type 0
InfoRefused keys all whole before after OutOfMemory = after ≡ before
InfoRefused keys all whole before after kind = SizesRefused keys all whole before after kind

-- what is told of an object of so many bytes under keys, by its count of faults before and after
abbrev pub InfoMeans : List OpeningKey → (List ℕ → ℕ → Type 0) → Option (List ℕ) → ℕ → ℕ → ℕ → Result StreamInfo TinkError → Type 0
InfoMeans keys IsId all whole before after (Ok i) = IsCutUnder keys all whole (Tells IsId all i)
InfoMeans keys IsId all whole before after (Err e) = InfoRefused keys all whole before after e.kind

-- a refusal that comes before anything is read leaves the object itself as it was
abbrev pub LeavesEarly : {A T : Type 0} → Result T TinkError → A → A → Type 0
LeavesEarly (Ok v) object object_after = Unit {0}
LeavesEarly (Err e) object object_after = IsEarly e.kind → object_after ≡ object

-- ---- under a keyset

module _ {A : Type 0} (keyset aad : List ℕ) (all : Option (List ℕ)) (whole before after : ℕ) (object object_after : A) where
  -- keys were loaded, and this is told under them
  pub record InfoLoaded (answer : Result StreamInfo TinkError) : Type 0 where
    pub loaded : Loaded
    pub loads : load keyset ≡ Ok loaded
    pub means : InfoMeans (opening_keys aad loaded) (IsIdOfKey aad loaded.keys) all whole before after answer

  -- the keyset is refused, and nothing was read
  pub record RefusesUnread (kind : Kind) : Type 0 where
    pub cause : load keyset ≡ Err kind
    pub unread : object_after ≡ object

  -- each refusal has its cause, and says what stands after it. No other refusal is given.
  abbrev pub KeysetInfoRefused : TinkError → Kind → Type 0
  KeysetInfoRefused error OutOfMemory = object_after ≡ object
  KeysetInfoRefused error BadKeyset = RefusesUnread BadKeyset
  KeysetInfoRefused error InvalidKeyset = RefusesUnread InvalidKeyset
  KeysetInfoRefused error UnsupportedKeyType = RefusesUnread UnsupportedKeyType
  KeysetInfoRefused error InvalidKey = RefusesUnread InvalidKey
  KeysetInfoRefused error NoPrimary = RefusesUnread NoPrimary
  KeysetInfoRefused error WrongPrimitive = RefusesUnread WrongPrimitive
  KeysetInfoRefused error NoMatchingKey = InfoLoaded (Err error)
  KeysetInfoRefused error ReadFault = InfoLoaded (Err error)
  KeysetInfoRefused error TooManySegments = InfoLoaded (Err error)
  KeysetInfoRefused error (Truncated n) = InfoLoaded (Err error)
  KeysetInfoRefused error (BadSegment n) = InfoLoaded (Err error)
  KeysetInfoRefused error _ = ⊥

abbrev pub KeysetInfoMeans : {A : Type 0} → List ℕ → List ℕ → Option (List ℕ) → ℕ → ℕ → ℕ → A → A → Result StreamInfo TinkError → Type 0
KeysetInfoMeans keyset aad all whole before after object object_after (Ok i) = InfoLoaded keyset aad all whole before after object object_after (Ok i)
KeysetInfoMeans keyset aad all whole before after object object_after (Err error) = KeysetInfoRefused keyset aad all whole before after object object_after error error.kind

-- no step where the keyset does not load, else at most one for each key and one more
abbrev pub TakesInfoSteps : List ℕ → ℕ → ℕ → Type 0
TakesInfoSteps keyset before now = (now ≡ before) ⊎ ((l : Loaded) × (load keyset ≡ Ok l) × (now ≤ before + length l.keys + 1))

-- Known bytes: where the object is a stream of the chosen key, of these texts, they are as many as is told, and have so
-- many bytes.
abbrev pub TellsStream : List ℕ → List ℕ → Option (List ℕ) → Result StreamInfo TinkError → Type 0
TellsStream keyset aad all (Ok i) =
    (S : List ℕ) (l : Loaded) (key : OpeningKey) (texts : List (List ℕ))
    → all ≡ Some S → load keyset ≡ Ok l → IsChosen (opening_keys aad l) S (Some key) → IsStream key S texts
    → (i.segments ≡ length texts) × (i.plaintext_len ≡ length (joined texts)) × (i.segment_len ≡ key.size)
TellsStream keyset aad all (Err e) = Unit {0}

-- it is told, or there is no memory
abbrev pub IsToldOrWants : Result StreamInfo TinkError → Type 0
IsToldOrWants (Ok i) = Unit {0}
IsToldOrWants (Err e) = e.kind ≡ OutOfMemory

-- Known bytes: where the count did not rise, the keyset loads and the object is a stream of the chosen key, it is told, or
-- there is no memory.
abbrev pub IsInfoComplete : List ℕ → List ℕ → Option (List ℕ) → ℕ → ℕ → Result StreamInfo TinkError → Type 0
IsInfoComplete keyset aad all before after answer = (S : List ℕ) → all ≡ Some S → (Rose before after → ⊥) → CanOpen keyset aad S → IsToldOrWants answer
