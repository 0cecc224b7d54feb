-- From what is told under the keys of a list to those of a set, and to those that were loaded.
use Rattle.std.proofs.Common.{◌≡◌, ◌∙◌, inl, inr, ◌≤◌, ◌+◌, ℕ, List, [], ◌∷◌, length, map, filter, get_or, All, Contains, refl, sym, ap, subst, arith, bytes_eq, Some, None, IfSome, suc, unwrap_or}
use Rattle.std.proofs.lemmas.List.{length-map}
use Rattle.std.proofs.lemmas.List.Elements.{All-append, All-cons, All-contains, All-contains_itself, All-filter, All-head, All-nil, All-tail, All-weaker}
use Rattle.std.proofs.lemmas.Simd.{map-map}
use Rattle.std.specs.Prelude.{Result, Ok, Err, Vec}
use Rattle.std.specs.BTreeMap.{BTreeMap}
use Rattle.std.specs.Map.{values_of}
use Rattle.std.specs.declared.option.Option.{Option}
use Rattle.tink_io.specs.declared.error.Kind.{Kind}
use Rattle.tink_io.specs.declared.error.Kind.TheVariants.{BadSegment, NoMatchingKey, OutOfMemory, ReadFault, TooManySegments, Truncated}
use Rattle.tink_io.specs.declared.error.TinkError.{TinkError}
use Rattle.stream_model.specs.Key.{StreamKey}
use Rattle.stream_model.specs.Opening.{Begins, IsChosen, OpeningKey, opening_key}
use Rattle.loading_model.specs.Loading.{AreUsable, Loaded, LoadedKey, opening_keys}
use Rattle.tink_sets.specs.Entries.{typed_prefix_of}
use Rattle.tink_sets.specs.Groups.{AreGroupsOf, group_at}
use Rattle.tink_sets.specs.declared.entry.TypedEntry.{TypedEntry}
use Rattle.tink_sets.specs.declared.typed_set.TypedPrimitiveSet.{TypedPrimitiveSet}
use Rattle.tink_streaming_keys.specs.StreamKinds.{key_in_set}
use Rattle.tink_streaming_keys.specs.declared.stream_kind.StreamKind.{StreamKind}
use Rattle.tink_streaming_aead.specs.Wrapped.{KeepsOrder, all_entries, joined_lists, keys_in}
use Rattle.tink_range.specs.Giving.{Cutting}
use Rattle.tink_range.specs.KeyRanges.{IsCutUnder}
use Rattle.tink_range.specs.StreamSizes.{IsIdOfChosen, MeasuresUnder, SizesMean, SizesRefused}
use Rattle.tink_range.specs.declared.stream_sizes.StreamSizes.{StreamSizes}
use Rattle.tink_range.proofs.KeyRangeSteps.{cut_by_others}
use Rattle.tink_range.proofs.PlacedFacts.{id_of_place}
use Rattle.tink_run.proofs.RunSteps.{ordered_keys}
use Rattle.tink_run.specs.HeldKeys.{HoldsLoaded}
use Rattle.tink_run.specs.Run.{IsEarly}
use Rattle.tink_rewrap.proofs.CountFacts.{same_count}
use Rattle.tink_rewrap.proofs.SetSteps.{chosen_of_loaded}
use Rattle.tink_rewrap.specs.StreamInfos.{InfoMeans, InfoRefused, IsIdOfKey, IsIdInSet, KeepsEntries, LeavesEarly, Tells, entry_key}
use Rattle.tink_rewrap.specs.declared.info.of_set.StreamInfo.{StreamInfo}

told_further : (all : Option (List ℕ)) (P Q : List ℕ → Type 0) → ((S : List ℕ) → P S → Q S) → IfSome all P → IfSome all Q
told_further None P Q further h = tt
told_further (Some S) P Q further h = further S h

abbrev One : Type 0
One = TypedEntry StreamKind

-- ---- from keys that are lent

module _ {B : Type 0} (now : B → One) (aad : List ℕ) where
  lent_id : (bs : List B) (S : List ℕ) (id : ℕ) → IsIdOfChosen (λ b. entry_key aad (now b)) (λ b. (now b).key_id) bs S id → IsIdOfChosen (entry_key aad) (λ e. e.key_id) (map now bs) S id
  lent_id [] S id h = h
  lent_id (b ∷ bs) S id (inl h) = inl h
  lent_id (b ∷ bs) S id (inr h) = inr (h.0, lent_id bs S id h.1)

  same_keys : (bs : List B) (es : List One) → map now bs ≡ es → map (λ b. entry_key aad (now b)) bs ≡ map (entry_key aad) es
  same_keys bs es same = sym (map-map (entry_key aad) now bs) ∙ ap (map (entry_key aad)) same

  -- the key in the place of the chosen one is told
  pub told_of_sizes : (bs : List B) (es : List One) (all : Option (List ℕ)) (whole before after : ℕ) (s : StreamSizes) (key : B) (segment : ℕ) → map now bs ≡ es
      → SizesMean (λ b. entry_key aad (now b)) bs all whole before after (Ok s) → key ≡ get_or bs s.place key → segment ≡ (entry_key aad (now key)).size
      → InfoMeans (map (entry_key aad) es) (IsIdInSet aad es) all whole before after (Ok (record { key_id = (now key).key_id; segments = s.segments; plaintext_len = s.text_len; segment_len = segment }))
  told_of_sizes bs es all whole before after s key segment same m at size =
      cut_by_others (map (λ b. entry_key aad (now b)) bs) (map (entry_key aad) es) all whole (MeasuresUnder (λ b. entry_key aad (now b)) bs all s)
      (Tells (IsIdInSet aad es) all (record { key_id = (now key).key_id; segments = s.segments; plaintext_len = s.text_len; segment_len = segment }))
      (λ S chosen h. subst (λ (js : List OpeningKey). IsChosen js S chosen) (same_keys bs es same) h)
      (λ c behind x. record {
        measures = x.measures;
        key = told_further all _ (λ S. IsIdInSet aad es S (now key).key_id)
            (λ S h. subst (λ (js : List One). IsIdInSet aad js S (now key).key_id) same (lent_id bs S (now key).key_id (id_of_place (λ b. entry_key aad (now b)) (λ b. (now b).key_id) bs S s.place key at h)))
            x.placed.first;
        segment = size ∙ sym (x.placed.size_is key at);
      })
      m

  pub refused_of_sizes : (bs : List B) (es : List One) (all : Option (List ℕ)) (whole before after : ℕ) (e : TinkError) → map now bs ≡ es
      → SizesMean (λ b. entry_key aad (now b)) bs all whole before after (Err e) → InfoMeans (map (entry_key aad) es) (IsIdInSet aad es) all whole before after (Err e)
  refused_of_sizes bs es all whole before after e same m =
      go e.kind (subst (λ (js : List OpeningKey). SizesRefused js all whole before after e.kind) (same_keys bs es same) m)
    where
      go : (kind : Kind) → SizesRefused (map (entry_key aad) es) all whole before after kind → InfoRefused (map (entry_key aad) es) all whole before after kind
      go OutOfMemory r = absurd r
      go NoMatchingKey r = r
      go ReadFault r = r
      go TooManySegments r = r
      go (Truncated n) r = r
      go (BadSegment n) r = r
      go _ r = absurd r

-- a refusal of the sizes is no early one
pub sizes_not_early : {A : Type 0} (keys : List OpeningKey) (all : Option (List ℕ)) (whole before after : ℕ) (e : TinkError) (object object_after : A) → SizesRefused keys all whole before after e.kind → IsEarly e.kind → object_after ≡ object
sizes_not_early keys all whole before after e object object_after r early = go e.kind r early
  where
    go : (kind : Kind) → SizesRefused keys all whole before after kind → IsEarly kind → object_after ≡ object
    go NoMatchingKey r early = absurd early
    go ReadFault r early = absurd early
    go TooManySegments r early = absurd early
    go (Truncated n) r early = absurd early
    go (BadSegment n) r early = absurd early
    go _ r early = absurd r

pub early_same : {A T : Type 0} (answer : Result T TinkError) (object : A) → LeavesEarly answer object object
early_same (Ok v) object = tt
early_same (Err e) object = λ early. refl

-- ---- the entries of a set are of those that it has

module _ {G : Type 0} where
  abbrev IsFound : BTreeMap (Vec ℕ G) (List One) → Vec ℕ G × List One → Type 0
  IsFound m e = group_at m e.0.items ≡ Some e.1

  joined_have : (P : One → Type 0) (es : List (Vec ℕ G × List One)) → All (λ e. All P e.1) es → All P (joined_lists (values_of es))
  joined_have P [] all = All-nil P
  joined_have P (e ∷ es) all = All-append P e.1 (joined_lists (values_of es)) (All-head (λ x. All P x.1) e es all) (joined_have P es (All-tail (λ x. All P x.1) e es all))

  pub keeps_entries : (m : BTreeMap (Vec ℕ G) (List One)) → All (IsFound m) m.entries → KeepsEntries m
  keeps_entries m found entries groups =
      joined_have (Contains entries) m.entries (All-weaker (IsFound m) (λ e. All (Contains entries) e.1) each m.entries found)
    where
      each : (e : Vec ℕ G × List One) → IsFound m e → All (Contains entries) e.1
      each e there =
          subst (All (Contains entries)) (sym (groups e.0.items) ∙ ap (λ o. unwrap_or o []) there)
          (All-filter (λ x. bytes_eq x.prefix e.0.items) (Contains entries) entries (All-contains_itself entries))

-- ---- to the keys that were loaded

-- a key of the list that has the key and the id of the entry
record IsAmong (ls : List LoadedKey) (e : One) : Type 0 where
  key : LoadedKey
  there : Contains ls key
  key_is : key_in_set e ≡ key.key
  id_is : e.key_id ≡ key.id

-- entries that have the keys and the ids that were loaded, one for one
all_among : (es : List One) (ls : List LoadedKey) → keys_in es ≡ map (λ k. k.key) ls → map (λ e. e.key_id) es ≡ map (λ k. k.id) ls → All (IsAmong ls) es
all_among [] ls keys ids = All-nil (IsAmong ls)
all_among (e ∷ es) [] keys ids = absurd (omega (arith, ap length keys))
all_among (e ∷ es) (l ∷ ls) keys ids =
    let key : key_in_set e ≡ l.key = cc in
    let rest : keys_in es ≡ map (λ k. k.key) ls = cc in
    let own : e.key_id ≡ l.id = cc in
    let others : map (λ k. k.key_id) es ≡ map (λ k. k.id) ls = cc in
    All-cons (IsAmong (l ∷ ls)) e es (record { key = l; there = (0, omega arith, refl); key_is = key; id_is = own })
    (All-weaker (IsAmong ls) (IsAmong (l ∷ ls)) (λ x h. record { key = h.key; there = (suc h.there.0, omega (arith, h.there.1), h.there.2); key_is = h.key_is; id_is = h.id_is }) es (all_among es ls rest others))

-- the entry whose key is chosen
record IsFirst (P : One → Type 0) (aad : List ℕ) (es : List One) (S : List ℕ) (id : ℕ) : Type 0 where
  entry : One
  has : P entry
  id_is : id ≡ entry.key_id
  chosen : IsChosen (map (entry_key aad) es) S (Some (entry_key aad entry))

first_of : (P : One → Type 0) (aad : List ℕ) (es : List One) (S : List ℕ) (id : ℕ) → All P es → IsIdInSet aad es S id → IsFirst P aad es S id
first_of P aad [] S id all h = absurd h
first_of P aad (e ∷ es) S id all (inl h) = record { entry = e; has = All-head P e es all; id_is = h.1; chosen = inl (h.0, refl) }
first_of P aad (e ∷ es) S id all (inr h) =
    let later = first_of P aad es S id (All-tail P e es all) h.1 in
    record { entry = later.entry; has = later.has; id_is = later.id_is; chosen = inr (h.0, later.chosen) }

module _ (aad : List ℕ) (set : TypedPrimitiveSet StreamKind) (order : KeepsOrder set.entries) (entries : KeepsEntries set.entries) (l : Loaded) (usable : AreUsable l.keys) (holds : HoldsLoaded l set) where
  abbrev given : List One
  given = all_entries set.entries

  same_list : map (opening_key aad) (keys_in given) ≡ map (entry_key aad) given
  same_list = map-map (opening_key aad) key_in_set given

  same : (S : List ℕ) (chosen : Option OpeningKey) → IsChosen (map (entry_key aad) given) S chosen → IsChosen (opening_keys aad l) S chosen
  same S chosen h = chosen_of_loaded aad l set usable holds order S chosen (subst (λ (ks : List OpeningKey). IsChosen ks S chosen) (sym same_list) h)

  among : All (IsAmong l.keys) given
  among =
      All-weaker (Contains holds.entries) (IsAmong l.keys)
      (λ e there. All-contains (IsAmong l.keys) holds.entries e (all_among holds.entries l.keys holds.keys holds.ids) there)
      given (entries holds.entries holds.groups)

  id_of : (S : List ℕ) (id : ℕ) → IsIdInSet aad given S id → IsIdOfKey aad l.keys S id
  id_of S id h =
      let first = first_of (IsAmong l.keys) aad given S id among h in
      let one = first.has in
      record {
        key = one.key;
        there = one.there;
        id_is = first.id_is ∙ one.id_is;
        chosen = subst (λ (k : StreamKey). IsChosen (opening_keys aad l) S (Some (opening_key aad k))) one.key_is (same S (Some (entry_key aad first.entry)) first.chosen);
      }

  cut : (P Q : Cutting → ℕ → Type 0) (all : Option (List ℕ)) (whole : ℕ) → ((c : Cutting) (behind : ℕ) → P c behind → Q c behind) → IsCutUnder (map (entry_key aad) given) all whole P → IsCutUnder (opening_keys aad l) all whole Q
  cut P Q all whole further = cut_by_others (map (entry_key aad) given) (opening_keys aad l) all whole P Q same further

  -- what is told under the keys of the set is told under those that were loaded
  pub info_of_loaded : (all : Option (List ℕ)) (whole before after : ℕ) (answer : Result StreamInfo TinkError)
      → InfoMeans (map (entry_key aad) given) (IsIdInSet aad given) all whole before after answer → InfoMeans (opening_keys aad l) (IsIdOfKey aad l.keys) all whole before after answer
  info_of_loaded all whole before after (Ok i) r =
      cut _ _ all whole (λ c behind x. record { measures = x.measures; key = told_further all _ _ (λ S h. id_of S i.key_id h) x.key; segment = x.segment }) r
  info_of_loaded all whole before after (Err e) r = go e.kind r
    where
      go : (kind : Kind) → InfoRefused (map (entry_key aad) given) all whole before after kind → InfoRefused (opening_keys aad l) all whole before after kind
      go OutOfMemory r = r
      go NoMatchingKey r = told_further all _ _ (λ S h. same S None h) r
      go ReadFault r = r
      go TooManySegments r = cut _ _ all whole (λ c behind x. x) r
      go (Truncated n) r = cut _ _ all whole (λ c behind x. x) r
      go (BadSegment n) r = cut _ _ all whole (λ c behind x. x) r
      go _ r = absurd r

  -- and there are as many of these
  pub as_many_loaded : length given ≡ length l.keys
  as_many_loaded =
      let ordered = ordered_keys l set holds order in
      sym (length-map given key_in_set) ∙ same_count (keys_in given) (map (λ k. k.key) l.keys) ordered ∙ length-map l.keys (λ k. k.key)
