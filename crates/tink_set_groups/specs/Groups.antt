-- Lists of entries by their prefixes.
use Rattle.std.specs.Prelude.{◌≡◌, ◌++◌, ◌∷◌, ℕ, List, [], Vec, Option, Some, Result, Ok, Err, filter, cond, unwrap_or}
use Rattle.std.specs.Str.{bytes_eq}
use Rattle.std.specs.Ordering.{nat_cmp}
use Rattle.std.specs.Cmp.Lexicographic.{slice_cmp}
use Rattle.std.specs.BTreeMap.{BTreeMap, get_by}

-- the list that a map has under a prefix
abbrev pub group_at : {E A : Type 0} → BTreeMap (Vec ℕ A) (List E) → List ℕ → Option (List E)
group_at m prefix = get_by (λ k. slice_cmp nat_cmp prefix k.items) m

-- the entries of a prefix, none where the map has no list
abbrev pub group_of : {E A : Type 0} → BTreeMap (Vec ℕ A) (List E) → List ℕ → List E
group_of m prefix = unwrap_or (group_at m prefix) []

-- one list stands under its prefix, and the other lists are as before
abbrev pub PutsGroup : {E A : Type 0} → List ℕ → List E → BTreeMap (Vec ℕ A) (List E) → BTreeMap (Vec ℕ A) (List E) → Type 0
PutsGroup own group old new = (prefix : List ℕ) → group_at new prefix ≡ cond (bytes_eq own prefix) (Some group) (group_at old prefix)

-- one entry stands behind those of its prefix, and the other lists are as before
abbrev pub Adds : {E A : Type 0} → List ℕ → E → BTreeMap (Vec ℕ A) (List E) → BTreeMap (Vec ℕ A) (List E) → Type 0
Adds own entry old new = PutsGroup own (group_of old own ++ entry ∷ []) old new

-- the entries of a prefix are those before, and this one behind them
abbrev pub EndsBy : {E A : Type 0} → List ℕ → E → BTreeMap (Vec ℕ A) (List E) → BTreeMap (Vec ℕ A) (List E) → Type 0
EndsBy own entry old new = group_of new own ≡ group_of old own ++ entry ∷ []

-- the two maps have the same lists
abbrev pub HaveSameGroups : {E A : Type 0} → BTreeMap (Vec ℕ A) (List E) → BTreeMap (Vec ℕ A) (List E) → Type 0
HaveSameGroups old new = (prefix : List ℕ) → group_at new prefix ≡ group_at old prefix

-- the map has these entries: under each prefix those that have it, in their order
abbrev pub AreGroupsOf : {E A : Type 0} → (E → List ℕ) → List E → BTreeMap (Vec ℕ A) (List E) → Type 0
AreGroupsOf prefix_of entries m = (prefix : List ℕ) → group_of m prefix ≡ filter (λ e. bytes_eq (prefix_of e) prefix) entries

-- one entry more is behind the entries of a map
abbrev pub AddsLast : {E A : Type 0} → (E → List ℕ) → E → BTreeMap (Vec ℕ A) (List E) → BTreeMap (Vec ℕ A) (List E) → Type 0
AddsLast {E} prefix_of entry old new = (entries : List E) → AreGroupsOf prefix_of entries old → AreGroupsOf prefix_of (entries ++ entry ∷ []) new

-- the lists after an entry was to be added: it stands behind those of its prefix and behind all others, or it was refused and they are as before
abbrev pub AfterAdding : {E A T F : Type 0} → (E → List ℕ) → E → Result T F → BTreeMap (Vec ℕ A) (List E) → BTreeMap (Vec ℕ A) (List E) → Type 0
AfterAdding prefix_of entry (Ok _) old new = Adds (prefix_of entry) entry old new × AddsLast prefix_of entry old new
AfterAdding prefix_of entry (Err _) old new = HaveSameGroups old new
