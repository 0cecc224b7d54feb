-- What a keyset's bytes load as, by rows: one for each type of keys that is known.
use Rattle.std.specs.Prelude.{ℕ, List, [], ◌∷◌, map, ℤ, Bool, if◌then◌else◌, nat_eq, length, find, unwrap_or, Option, Some, None, Result, Ok, Err}
use Rattle.std.specs.List.{list_any}
use Rattle.std.specs.Str.{bytes_eq}
use Rattle.tink_io.specs.declared.error.Kind.{Kind}
use Rattle.tink_io.specs.declared.error.Kind.TheVariants.{BadKeyset, InvalidKeyset, UnsupportedKeyType, InvalidKey, NoPrimary, WrongPrimitive}
use Rattle.tink_proto.specs.declared.messages.keys.Key.{Key}
use Rattle.tink_proto.specs.declared.messages.keys.KeyData.{KeyData}
use Rattle.tink_proto.specs.declared.messages.keys.Keyset.{Keyset}
use Rattle.tink_proto.specs.Messages.{keyset}
use Rattle.wire_format.specs.Message.{decoded}
use Rattle.keyset_model.specs.Entries.{prefix_of}
use Rattle.keyset_model.specs.Keys.{enabled}
use Rattle.keyset_model.specs.Validity.{is_valid}
use Rattle.stream_model.specs.Key.{StreamKey, fronted}
use Rattle.stream_model.specs.Opening.{OpeningKey, opening_key}
use Rattle.stream_model.specs.Order.{IsOfKeyset}

-- what a key builds: a key of streams, or a primitive of another sort
pub data BuiltKey : Type 0 where
  Streaming : StreamKey → BuiltKey
  Other : BuiltKey

-- a type of keys: its URL, and what a key's value builds
pub record LoadingRow : Type 0 where
  pub url : List ℕ
  pub built : List ℕ → Result BuiltKey Kind

-- an enabled key that was built, with its id and the number of its output prefix type
pub record EnabledKey : Type 0 where
  pub id : ℕ
  pub prefix_type : ℤ
  pub built : BuiltKey

-- the same of a key of streams, which has its output prefix
pub record LoadedKey : Type 0 where
  pub id : ℕ
  pub prefix_type : ℤ
  pub key : StreamKey

pub record Loaded : Type 0 where
  pub keys : List LoadedKey
  pub primary : StreamKey

-- what stands before the header of a key's streams: its output prefix, by the type and the id
abbrev pub out_of : ℤ → ℕ → List ℕ
out_of prefix_type id = unwrap_or (prefix_of prefix_type id) []

-- the keys in order, as opening sees them
abbrev pub opening_keys : List ℕ → Loaded → List OpeningKey
opening_keys aad l = map (λ k. opening_key aad k.key) l.keys

-- each key keeps to what a key of the product keeps to
abbrev pub AreUsable : List LoadedKey → Type 0
AreUsable [] = Unit {0}
AreUsable (k ∷ ks) = IsOfKeyset k.key × AreUsable ks

infixl 10 ◌then◌
abbrev pub ◌then◌ : {A B : Type 0} → Result A Kind → (A → Result B Kind) → Result B Kind
(Ok a) then f = f a
(Err kind) then f = Err kind

-- what a value builds by the row of its URL
abbrev pub built_by : List ℕ → Option LoadingRow → Result BuiltKey Kind
built_by value None = Err UnsupportedKeyType
built_by value (Some row) = row.built value

-- the key of streams that an enabled key built
abbrev pub streaming_part : EnabledKey → BuiltKey → Result LoadedKey Kind
streaming_part k (Streaming key) =
    Ok (record { id = k.id; prefix_type = k.prefix_type; key = fronted (out_of k.prefix_type k.id) key })
streaming_part k Other = Err WrongPrimitive

abbrev pub streaming_key : EnabledKey → Result LoadedKey Kind
streaming_key k = streaming_part k k.built

-- all of the keys as keys of streams, or the refusal of the first that is of another sort
abbrev pub streaming_keys : List EnabledKey → Result (List LoadedKey) Kind
streaming_keys [] = Ok []
streaming_keys (k ∷ ks) = streaming_key k then λ one. streaming_keys ks then λ rest. Ok (one ∷ rest)

-- the first key of an id
abbrev pub key_of_id : ℕ → List LoadedKey → Option StreamKey
key_of_id id [] = None
key_of_id id (k ∷ ks) = if nat_eq k.id id then Some k.key else key_of_id id ks

abbrev pub with_primary : List LoadedKey → Option StreamKey → Result Loaded Kind
with_primary keys None = Err NoPrimary
with_primary keys (Some key) = Ok (record { keys = keys; primary = key })

-- the keys in order, and the one of the primary id; that there is one is looked at before the sorts
abbrev pub load_built : ℕ → List EnabledKey → Result Loaded Kind
load_built id built =
    if list_any (λ k. nat_eq k.id id) built
    then (streaming_keys built then λ keys. with_primary keys (key_of_id id keys))
    else Err NoPrimary

module _ (rows : List LoadingRow) where
  -- An empty value is refused before the URL is looked at.
  abbrev pub build : KeyData → Result BuiltKey Kind
  build d = if nat_eq (length d.value) 0 then Err InvalidKey else built_by d.value (find (λ r. bytes_eq r.url d.type_url) rows)

  -- An enabled key of a valid keyset has data.
  abbrev pub build_data : Option KeyData → Result BuiltKey Kind
  build_data None = Err InvalidKeyset
  build_data (Some d) = build d

  abbrev pub build_key : Key → Result EnabledKey Kind
  build_key k = build_data k.key_data then λ built. Ok (record { id = k.key_id; prefix_type = k.output_prefix_type; built = built })

  -- what all of the keys build, or the refusal of the first that doesn't build
  abbrev pub build_keys : List Key → Result (List EnabledKey) Kind
  build_keys [] = Ok []
  build_keys (k ∷ ks) = build_key k then λ one. build_keys ks then λ rest. Ok (one ∷ rest)

  abbrev pub load_keys : Keyset → Result Loaded Kind
  load_keys ks = build_keys (enabled ks) then λ built. load_built ks.primary_key_id built

  abbrev pub load_keyset : Keyset → Result Loaded Kind
  load_keyset ks = if is_valid ks then load_keys ks else Err InvalidKeyset

  abbrev pub load_decoded : Option Keyset → Result Loaded Kind
  load_decoded None = Err BadKeyset
  load_decoded (Some ks) = load_keyset ks

  -- the keys of streams that bytes load as, or the first refusal
  abbrev pub load_by : List ℕ → Result Loaded Kind
  load_by bytes = load_decoded (decoded keyset.read bytes)
