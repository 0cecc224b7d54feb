-- By which kinds the MACs of a keyset are refused.
use Rattle.std.proofs.Common.{◌≡◌, ℕ, List, [], ◌∷◌, Bool, true, false, cond, sym, subst, Some, None}
use Rattle.std.specs.declared.option.Option.{Option}
use Rattle.std.specs.Prelude.{Result, Ok, Err, find, is_some, nat_eq, length}
use Rattle.std.specs.Str.{bytes_eq}
use Rattle.wire_format.specs.Message.{decoded}
use Rattle.tink_io.specs.Answering.{made_of, or_refused}
use Rattle.tink_io.specs.declared.error.Kind.{Kind}
use Rattle.tink_io.specs.declared.error.Kind.TheVariants.{BadKeyset, InvalidKey, InvalidKeyset, NoPrimary}
use Rattle.tink_proto.specs.Messages.{keyset}
use Rattle.tink_proto.specs.declared.messages.keys.Key.{Key}
use Rattle.tink_proto.specs.declared.messages.keys.KeyData.{KeyData}
use Rattle.tink_proto.specs.declared.messages.keys.Keyset.{Keyset}
use Rattle.tink_primitives.specs.Sorts.{as_mac}
use Rattle.tink_primitives.specs.declared.primitive.Primitive.TheVariants.{Mac}
use Rattle.tink_registry.specs.Listed.{builds_by, manager_of}
use Rattle.tink_sets.specs.Converting.{converted}
use Rattle.tink_sets.specs.Converting as converting
use Rattle.tink_sets.specs.Entries.{entry_of, typed_by, with_primitive}
use Rattle.tink_sets.specs.declared.entry.Entry.{Entry}
use Rattle.tink_set_builder.specs.Given.{before, given_each}
use Rattle.tink_keysets.specs.Built.{built_data, built_entries, built_entry}
use Rattle.tink_keysets.specs.Encrypted.{chained}
use Rattle.tink_keysets.specs.Valid.{valid_keyset, valid_or_refused}
use Rattle.tink_keysets.specs.Typing.{typed_entries}
use Rattle.keyset_model.specs.Keys.{enabled}
use Rattle.keyset_model.specs.Validity.{is_valid, is_validated}
use Rattle.tink_mac.specs.Rotation.{mac_entries}
use Rattle.tink_primitives.specs.declared.kinds.Never.{Never}
use Rattle.tink_mac.specs.declared.mac_kind.MacKind.{MacKind}
use Rattle.tink_streaming_keys.specs.declared.stream_kind.StreamKind.{StreamKind}
use Rattle.tink.specs.declared.managers.TinkKinds.{TinkKinds}
use Rattle.loading_model.proofs.UsableKeys.{AreSound, IsOfLoading, IsSound}
use Rattle.tink.specs.Managers.{AeadKind, Built, PrfKind, row_of}
use Rattle.tink.specs.Registered.{with_everything}
use Rattle.tink.specs.declared.managers.Managers.{Managers}
use Rattle.tink.specs.LoadingRows.{built_key}
use Rattle.tink.proofs.RowFacts.{managers_sound, rows_of}
use Rattle.tink_tokens.specs.Tokens.{macs_in, macs_of, supports_own}

-- a result refuses by a kind of loading
abbrev Refuses : {A : Type 0} → Result A Kind → Type 0
Refuses (Ok a) = Unit {0}
Refuses (Err kind) = IsOfLoading kind

made_refuses : {A B : Type 0} (f : A → B) (r : Result A Kind) → Refuses r → Refuses (made_of f r)
made_refuses f (Ok a) h = tt
made_refuses f (Err kind) h = h

if_refuses : {A : Type 0} (b : Bool) (r s : Result A Kind) → Refuses r → Refuses s → Refuses (cond b r s)
if_refuses true r s p q = p
if_refuses false r s p q = q

sound_refuses : (r : Result Built Kind) → IsSound (made_of built_key r) → Refuses r
sound_refuses (Ok p) sound = tt
sound_refuses (Err kind) sound = subst IsOfLoading (sym sound) tt

abbrev url : Managers → List ℕ
url m = (row_of m).url

abbrev builds : Managers → List ℕ → Result Built Kind
builds m value = (row_of m).built value

-- what the manager of a URL builds
found_refuses : (wanted value : List ℕ) (ms : List Managers) → AreSound (rows_of ms) → Refuses (builds_by builds value (manager_of url wanted ms))
found_refuses wanted value [] sound = tt
found_refuses wanted value (m ∷ ms) sound = here (bytes_eq (url m) wanted) (found_refuses wanted value ms sound.1)
  where
    here : (b : Bool) → Refuses (builds_by builds value (manager_of url wanted ms)) → Refuses (builds_by builds value (cond b (Some m) (manager_of url wanted ms)))
    here true later = sound_refuses (builds m value) (sound.0 value)
    here false later = later

abbrev managers : List Managers
managers = with_everything.managers

abbrev One : Type 0
One = Entry TinkKinds AeadKind (List ℕ) Never Never MacKind PrfKind Never StreamKind Never

data_refuses : (o : Option KeyData) → Refuses (built_data url supports_own builds managers None o)
data_refuses None = tt
data_refuses (Some d) =
    if_refuses (nat_eq (length d.value) 0) (Err InvalidKey) (builds_by builds d.value (manager_of url d.type_url managers)) tt
    (found_refuses d.type_url d.value managers managers_sound)

before_refuses : {A : Type 0} (r : Result A Kind) (rest : Result (List A) Kind) → Refuses r → Refuses rest → Refuses (before r rest)
before_refuses (Ok v) (Ok vs) p q = tt
before_refuses (Ok v) (Err kind) p q = q
before_refuses (Err kind) rest p q = p

each_refuses : {A : Type 0} (give : Key → Result A Kind) → ((k : Key) → Refuses (give k)) → (ks : List Key) → Refuses (given_each give ks)
each_refuses give one [] = tt
each_refuses give one (k ∷ ks) = before_refuses (give k) (given_each give ks) (one k) (each_refuses give one ks)

sort_refuses : (p : Built) → Refuses (as_mac p)
sort_refuses (Mac m) = tt
sort_refuses _ = tt

converted_before : {A : Type 0} (r : Result A Kind) (rest : Result (List A) Kind) → Refuses r → Refuses rest → Refuses (converting.before r rest)
converted_before (Ok v) rest p q = made_refuses (λ vs. v ∷ vs) rest q
converted_before (Err kind) rest p q = p

all_refuse : {A B : Type 0} (f : A → Result B Kind) → ((a : A) → Refuses (f a)) → (xs : List A) → Refuses (converted f xs)
all_refuse f one [] = tt
all_refuse f one (x ∷ xs) = converted_before (f x) (converted f xs) (one x) (all_refuse f one xs)

typed_refuses : (id : ℕ) (r : Result (List One) Kind) → Refuses r → Refuses (typed_entries as_mac id r)
typed_refuses id (Err kind) h = h
typed_refuses id (Ok es) h =
    if_refuses (is_some (find (λ e. nat_eq e.key_id id) es)) (converted (typed_by as_mac) es) (Err NoPrimary)
    (all_refuse (typed_by as_mac) (λ e. made_refuses (with_primitive e) (as_mac e.primitive) (sort_refuses e.primitive)) es) tt

in_refuses : (ks : Keyset) → Refuses (macs_in ks)
in_refuses ks =
    made_refuses _ (mac_entries url supports_own builds managers ks)
    (typed_refuses ks.primary_key_id (built_entries url supports_own builds entry_of managers None ks)
    (if_refuses (is_validated ks) (given_each (built_entry url supports_own builds entry_of managers None) (enabled ks)) (Err InvalidKeyset)
    (each_refuses _ (λ k. made_refuses _ (built_data url supports_own builds managers None k.key_data) (data_refuses k.key_data)) (enabled ks)) tt))

chained_refuses : {A B : Type 0} (f : A → Result B Kind) (r : Result A Kind) → ((a : A) → Refuses (f a)) → Refuses r → Refuses (chained f r)
chained_refuses f (Ok a) one h = one a
chained_refuses f (Err kind) one h = h

decoded_refuses : (o : Option Keyset) → Refuses (chained valid_or_refused (or_refused BadKeyset o))
decoded_refuses None = tt
decoded_refuses (Some ks) = if_refuses (is_valid ks) (Ok ks) (Err InvalidKeyset) tt tt

-- the kinds by which the MACs of bytes are refused
pub macs_refuse : (bytes : List ℕ) (kind : Kind) → macs_of bytes ≡ Err kind → IsOfLoading kind
unfolding macs_of
macs_refuse bytes kind is = subst Refuses is (chained_refuses macs_in (valid_keyset bytes) in_refuses (decoded_refuses (decoded keyset.read bytes)))
