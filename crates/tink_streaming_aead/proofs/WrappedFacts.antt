-- What a set of entries has, by its entries.
use Rattle.std.proofs.Common.{◌≡◌, ◌∙◌, ◌++◌, ℕ, List, [], ◌∷◌, Bool, true, false, cond, filter, map, All, Some, None, refl, sym, ap, subst, bytes_eq, ⊎_elim, unwrap_or, Option}
use Rattle.std.specs.Prelude.{Vec}
use Rattle.std.specs.declared.cmp.Ordering.{Ordering}
use Rattle.std.specs.declared.cmp.Ordering.TheVariants.{Less}
use Rattle.std.specs.BTreeMap.{BTreeMap, IsOrdered, is_at}
use Rattle.std.specs.Cmp.Lexicographic.{slice_cmp, bytes_decides, nat_list_eq_equiv}
use Rattle.std.specs.List.Sorted.{IsStrictlySortedBy}
use Rattle.std.specs.Map.{keys_of, lookup, values_of}
use Rattle.std.specs.Ordering.{is_eq, nat_cmp}
use Rattle.std.proofs.lemmas.Bool.{cases_Bool, cond-true, cond-false}
use Rattle.std.proofs.lemmas.List.{append-nil}
use Rattle.std.proofs.lemmas.List.Elements.{All-append, All-cons, All-filter, All-head, All-map, All-nil, All-tail, All-weaker, filter-append, filter_passes}
use Rattle.std.proofs.lemmas.Map.Keys.{sorted_tail}
use Rattle.std.proofs.lemmas.Map.Views.{All-after_first}
use Rattle.std.proofs.lemmas.Map.Text.{is_eq-slice_cmp}
use Rattle.stream_model.specs.Key.{StreamKey, IsUsable}
use Rattle.stream_model.specs.Order.{HaveSameOrder, IsOfKeyset, with_prefix}
use Rattle.stream_model.proofs.OrderFacts.{choose_the_same}
use Rattle.tink_keysets.specs.Built.{HasEntries}
use Rattle.tink_sets.specs.Entries.{typed_prefix_of}
use Rattle.tink_sets.specs.Groups.{AreGroupsOf, group_at, group_of}
use Rattle.tink_sets.specs.declared.entry.TypedEntry.{TypedEntry}
use Rattle.tink_streaming_keys.specs.StreamKinds.{key_in_set}
use Rattle.tink_streaming_keys.specs.declared.stream_kind.StreamKind.{StreamKind}
use Rattle.tink_streaming_aead.specs.Wrapped.{AreKeysOf, ArePure, ChoosesInOrder, HasOutputPrefix, HaveSameEntries, entries_with, IsPure, KeepsOrder, KeepsPrefixes, all_entries, joined_lists, key_in, keys_in, set_keys}

abbrev One : Type 0
One = TypedEntry StreamKind

-- whether an entry has the prefix
abbrev has : List ℕ → One → Bool
has prefix e = bytes_eq e.prefix prefix

abbrev EntryHasPrefix : One → Type 0
EntryHasPrefix e = HasOutputPrefix (key_in_set e)

-- the keys of a prefix are those of its entries
filtered_keys : (prefix : List ℕ) (es : List One) → with_prefix prefix (keys_in es) ≡ keys_in (filter (has prefix) es)
filtered_keys prefix [] = refl
filtered_keys prefix (e ∷ es) = by (has prefix e) (filtered_keys prefix es)
  where
    by : (b : Bool) → with_prefix prefix (keys_in es) ≡ keys_in (filter (has prefix) es)
        → cond b (key_in_set e ∷ with_prefix prefix (keys_in es)) (with_prefix prefix (keys_in es)) ≡ keys_in (cond b (e ∷ filter (has prefix) es) (filter (has prefix) es))
    by true later = ap (λ ks. key_in_set e ∷ ks) later
    by false later = later

-- so lists that have the same entries under each prefix have the same keys under each
pub same_keys : (es others : List One) → HaveSameEntries es others → HaveSameOrder (keys_in es) (keys_in others)
same_keys es others same prefix = filtered_keys prefix es ∙ ap keys_in (same prefix) ∙ sym (filtered_keys prefix others)

-- the keys of entries that are lent
pub lent_keys : {B : Type 0} (now : B → One) (es : List B) → map (λ e. key_in_set (now e)) es ≡ keys_in (map now es)
lent_keys now [] = refl
lent_keys now (e ∷ es) = ap (λ ks. key_in_set (now e) ∷ ks) (lent_keys now es)

-- a list whose elements pass is kept whole
kept_whole : (test : One → Bool) (es : List One) → All (λ e. test e ≡ true) es → filter test es ≡ es
kept_whole test [] all = refl
kept_whole test (e ∷ es) all =
    cond-true (test e) (e ∷ filter test es) (filter test es) (All-head (λ x. test x ≡ true) e es all)
    ∙ ap (λ xs. e ∷ xs) (kept_whole test es (All-tail (λ x. test x ≡ true) e es all))

-- and one of which none passes is dropped
dropped_whole : (test : One → Bool) (es : List One) → All (λ e. test e ≡ false) es → filter test es ≡ []
dropped_whole test [] all = refl
dropped_whole test (e ∷ es) all =
    cond-false (test e) (e ∷ filter test es) (filter test es) (All-head (λ x. test x ≡ false) e es all)
    ∙ dropped_whole test es (All-tail (λ x. test x ≡ false) e es all)

module _ {A : Type 0} where
  abbrev cmp : Vec ℕ A → Vec ℕ A → Ordering
  cmp a b = slice_cmp nat_cmp a.items b.items

  abbrev left_at : List (Vec ℕ A × List One) → List ℕ → Option (List One)
  left_at es prefix = lookup (is_at (λ k. slice_cmp nat_cmp prefix k.items)) es

  abbrev IsBelow : Vec ℕ A → Vec ℕ A → Type 0
  IsBelow k q = cmp k q ≡ Less

  -- a key that stands before others is none of them
  not_later : (k : Vec ℕ A) (prefix : List ℕ) (es : List (Vec ℕ A × List One)) → bytes_eq k.items prefix ≡ true → All (IsBelow k) (keys_of es) → left_at es prefix ≡ None
  not_later k prefix [] same all = refl
  not_later k prefix (e ∷ es) same all =
      let here : is_eq (slice_cmp nat_cmp k.items e.0.items) ≡ false = ap is_eq (All-head (IsBelow k) e.0 (keys_of es) all) in
      let there : is_eq (slice_cmp nat_cmp prefix e.0.items) ≡ false = subst (λ l. is_eq (slice_cmp nat_cmp l e.0.items) ≡ false) ((bytes_decides k.items prefix).0 same) here in
      cond-false (is_eq (slice_cmp nat_cmp prefix e.0.items)) (Some e.1) (left_at es prefix) there
      ∙ not_later k prefix es same (All-tail (IsBelow k) e.0 (keys_of es) all)

  tested : (prefix : List ℕ) (k : Vec ℕ A) (b : Bool) → bytes_eq k.items prefix ≡ b → is_eq (slice_cmp nat_cmp prefix k.items) ≡ b
  tested prefix k b e = is_eq-slice_cmp prefix k.items ∙ nat_list_eq_equiv.symm prefix k.items ∙ e

  -- of all entries those of a prefix are its list
  joined_has : (es : List (Vec ℕ A × List One)) → IsStrictlySortedBy cmp (keys_of es) → All IsPure es → (prefix : List ℕ) → filter (has prefix) (joined_lists (values_of es)) ≡ unwrap_or (left_at es prefix) []
  joined_has [] sorted pure prefix = refl
  joined_has (e ∷ es) sorted pure prefix =
      let rest : List One = joined_lists (values_of es) in
      let later : filter (has prefix) rest ≡ unwrap_or (left_at es prefix) [] = joined_has es (sorted_tail cmp e.0 (keys_of es) sorted) (All-tail IsPure e es pure) prefix in
      let own : All (λ x. x.prefix ≡ e.0.items) e.1 = All-head IsPure e es pure in
      let goal : List One = unwrap_or (cond (is_eq (slice_cmp nat_cmp prefix e.0.items)) (Some e.1) (left_at es prefix)) [] in
      let split : filter (has prefix) (e.1 ++ rest) ≡ filter (has prefix) e.1 ++ filter (has prefix) rest = filter-append (has prefix) e.1 rest in
      let here : (bytes_eq e.0.items prefix ≡ true) → filter (has prefix) e.1 ++ filter (has prefix) rest ≡ goal =
      λ y.
      let none : filter (has prefix) rest ≡ [] = later ∙ ap (λ o. unwrap_or o []) (not_later e.0 prefix es y (All-after_first cmp e.0 (keys_of es) sorted)) in
      let mine : filter (has prefix) e.1 ≡ e.1 = kept_whole (has prefix) e.1 (All-weaker (λ x. x.prefix ≡ e.0.items) (λ x. has prefix x ≡ true) (λ x same. subst (λ l. bytes_eq l prefix ≡ true) (sym same) y) e.1 own) in
      ap (λ xs. xs ++ filter (has prefix) rest) mine ∙ ap (λ xs. e.1 ++ xs) none ∙ append-nil e.1
      ∙ sym (ap (λ o. unwrap_or o []) (cond-true (is_eq (slice_cmp nat_cmp prefix e.0.items)) (Some e.1) (left_at es prefix) (tested prefix e.0 true y)))
      in
      let there : (bytes_eq e.0.items prefix ≡ false) → filter (has prefix) e.1 ++ filter (has prefix) rest ≡ goal =
      λ n.
      let none : filter (has prefix) e.1 ≡ [] = dropped_whole (has prefix) e.1 (All-weaker (λ x. x.prefix ≡ e.0.items) (λ x. has prefix x ≡ false) (λ x same. subst (λ l. bytes_eq l prefix ≡ false) (sym same) n) e.1 own) in
      ap (λ xs. xs ++ filter (has prefix) rest) none ∙ later
      ∙ sym (ap (λ o. unwrap_or o []) (cond-false (is_eq (slice_cmp nat_cmp prefix e.0.items)) (Some e.1) (left_at es prefix) (tested prefix e.0 false n)))
      in
      split ∙ ⊎_elim here there (cases_Bool (bytes_eq e.0.items prefix))

  abbrev IsFound : BTreeMap (Vec ℕ A) (List One) → Vec ℕ A × List One → Type 0
  IsFound m e = group_at m e.0.items ≡ Some e.1

  list_is : (entries : List One) (m : BTreeMap (Vec ℕ A) (List One)) → AreGroupsOf typed_prefix_of entries m → (e : Vec ℕ A × List One) → IsFound m e
      → filter (has e.0.items) entries ≡ e.1
  list_is entries m groups e found = sym (groups e.0.items) ∙ ap (λ o. unwrap_or o []) found

  pure_of : (entries : List One) (m : BTreeMap (Vec ℕ A) (List One)) → AreGroupsOf typed_prefix_of entries m → (e : Vec ℕ A × List One) → IsFound m e → IsPure e
  pure_of entries m groups e found =
      subst (All (λ x. x.prefix ≡ e.0.items)) (list_is entries m groups e found)
      (All-weaker (λ x. has e.0.items x ≡ true) (λ x. x.prefix ≡ e.0.items) (λ x p. (bytes_decides x.prefix e.0.items).0 p) (filter (has e.0.items) entries) (filter_passes (has e.0.items) entries))

  -- the lists of a set that has some entries are of one prefix each
  pub pure_groups : (m : BTreeMap (Vec ℕ A) (List One)) → All (IsFound m) m.entries → (entries : List One) → AreGroupsOf typed_prefix_of entries m → ArePure m
  pure_groups m found entries groups = All-weaker (IsFound m) IsPure (pure_of entries m groups) m.entries found

  -- and each has all entries of its prefix
  pub group_entries : (m : BTreeMap (Vec ℕ A) (List One)) → IsOrdered cmp m → ArePure m → (prefix : List ℕ) → group_of m prefix ≡ entries_with prefix (all_entries m)
  group_entries m ordered pure prefix = sym (joined_has m.entries ordered pure prefix)

  -- and so all keys of it
  pub group_keys : (m : BTreeMap (Vec ℕ A) (List One)) → IsOrdered cmp m → ArePure m → (prefix : List ℕ) → keys_in (group_of m prefix) ≡ with_prefix prefix (keys_in (all_entries m))
  group_keys m ordered pure prefix = ap keys_in (group_entries m ordered pure prefix) ∙ sym (filtered_keys prefix (all_entries m))

  -- all entries of a set are those that it has, those of one prefix in their order
  pub keeps_order : (m : BTreeMap (Vec ℕ A) (List One)) → IsOrdered cmp m → All (IsFound m) m.entries → KeepsOrder m
  keeps_order m ordered found entries groups prefix =
      joined_has m.entries ordered (All-weaker (IsFound m) IsPure (pure_of entries m groups) m.entries found) prefix ∙ groups prefix

  abbrev AllHavePrefix : Vec ℕ A × List One → Type 0
  AllHavePrefix e = All EntryHasPrefix e.1

  joined_have : (es : List (Vec ℕ A × List One)) → All AllHavePrefix es → All EntryHasPrefix (joined_lists (values_of es))
  joined_have [] all = All-nil EntryHasPrefix
  joined_have (e ∷ es) all =
      All-append EntryHasPrefix e.1 (joined_lists (values_of es)) (All-head AllHavePrefix e es all) (joined_have es (All-tail AllHavePrefix e es all))

  -- and their prefixes are those of the entries
  pub keeps_prefixes : (m : BTreeMap (Vec ℕ A) (List One)) → All (IsFound m) m.entries → KeepsPrefixes m
  keeps_prefixes m found entries groups all =
      let each : (e : Vec ℕ A × List One) → IsFound m e → AllHavePrefix e =
      λ e there. subst (All EntryHasPrefix) (list_is entries m groups e there) (All-filter (has e.0.items) EntryHasPrefix entries all)
      in
      All-map HasOutputPrefix key_in_set (all_entries m) (joined_have m.entries (All-weaker (IsFound m) AllHavePrefix each m.entries found))

  -- the keys of a set of entries are those of the entries
  pub keys_kept : (id : ℕ) (entries : List One) (primary : Option One) (groups : BTreeMap (Vec ℕ A) (List One)) → KeepsOrder groups
      → HasEntries typed_prefix_of (λ e. e.key_id) id entries primary groups → AreKeysOf id entries (set_keys primary groups)
  keys_kept id entries primary groups order h =
      let same = order entries h.by_prefix in
      record { primary = ap key_in h.by_id; order = same_keys (all_entries groups) entries same; primary_entry = h.by_id; has_entries = same }

are_of_keyset : (keys : List StreamKey) → All HasOutputPrefix keys → All IsUsable keys → All IsOfKeyset keys
are_of_keyset [] prefixes usable = All-nil IsOfKeyset
are_of_keyset (k ∷ keys) prefixes usable =
    All-cons IsOfKeyset k keys (record { usable = All-head IsUsable k keys usable; out = All-head HasOutputPrefix k keys prefixes })
    (are_of_keyset keys (All-tail HasOutputPrefix k keys prefixes) (All-tail IsUsable k keys usable))

pub chooses_in_order : ChoosesInOrder
chooses_in_order id entries w aad X chosen are prefixes usable =
    let same = choose_the_same aad X (keys_in entries) w.keys chosen (are_of_keyset w.keys prefixes usable) (λ prefix. sym (are.order prefix)) in
    (same.1, same.0)
