-- The first entry that accepts, read off the list of all entries.
use Rattle.std.proofs.Common.{◌≡◌, ◌∙◌, ◌+◌, ◌<◌, ◌≤◌, ℕ, List, [], ◌∷◌, Result, Ok, Some, get_or, ap, sym, refl, take, drop}
use Rattle.std.specs.Prelude.{Vec, Option, None, cond, nat_lt, length, Err}
use Rattle.std.specs.BTreeMap.{BTreeMap}
use Rattle.std.proofs.lemmas.Bool.{lt-ltb}
use Rattle.std.proofs.lemmas.List.{at_drop_more, drop_all}
use Rattle.tink_io.specs.declared.error.Kind.{Kind}
use Rattle.tink_sets.specs.Entries.{typed_prefix_of}
use Rattle.tink_set_groups.specs.Groups.{AreGroupsOf, group_of}
use Rattle.tink_sets.specs.declared.entry.TypedEntry.{TypedEntry}
use Rattle.tink_sets.specs.Accepting.{accepted, accepted_behind_prefix, entries_of, first_value, or_else, prefixed_value, raw_value, value_or}

module _ {Q A G : Type 0} (answer : TypedEntry Q → List ℕ → Result A Kind) (es : List (TypedEntry Q)) (m : BTreeMap (Vec ℕ G) (List (TypedEntry Q))) (groups : AreGroupsOf typed_prefix_of es m) (none : Kind) (input : List ℕ) where
  pub accepted-of_list : accepted answer (group_of m) none input ≡ accepted answer (entries_of es) none input
  accepted-of_list =
      ap (λ xs. value_or none (or_else (cond (nat_lt 5 (length input)) (first_value (λ e. answer e (drop 5 input)) xs) None) (first_value (λ e. answer e input) (group_of m [])))) (groups (take 5 input))
      ∙ ap (λ xs. value_or none (or_else (cond (nat_lt 5 (length input)) (first_value (λ e. answer e (drop 5 input)) (entries_of es (take 5 input))) None) (first_value (λ e. answer e input) xs))) (groups [])

  pub accepted_behind_prefix-of_list : accepted_behind_prefix answer (group_of m) none input ≡ accepted_behind_prefix answer (entries_of es) none input
  accepted_behind_prefix-of_list = ap (λ r. cond (nat_lt 5 (length input)) r (Err none)) accepted-of_list

module _ {Q A : Type 0} (answer : TypedEntry Q → List ℕ → Result A Kind) (group : List ℕ → List (TypedEntry Q)) (input : List ℕ) where
  -- what the entries of the prefix give, where there is a rest
  pub prefixed-long : (xs : List (TypedEntry Q)) (rest : List ℕ) (v : Option A) → 5 < length input → xs ≡ group (take 5 input) → rest ≡ drop 5 input → v ≡ first_value (λ e. answer e rest) xs → v ≡ prefixed_value answer group input
  prefixed-long xs rest v long entries after is =
      is
      ∙ ap (λ l. first_value (λ e. answer e l) xs) after
      ∙ ap (first_value (λ e. answer e (drop 5 input))) entries
      ∙ sym (ap (λ b. cond b (first_value (λ e. answer e (drop 5 input)) (group (take 5 input))) None) (lt-ltb 5 (length input) long))

  -- the answer of those of the prefix, where one accepts
  pub accepted-prefixed : (none : Kind) (o : Option A) (v : A) → o ≡ prefixed_value answer group input → o ≡ Some v → accepted answer group none input ≡ Ok v
  accepted-prefixed none o v is there = ap (λ p. value_or none (or_else p (raw_value answer group input))) (sym is ∙ there)

  -- none of the prefix accepts
  pub not_prefixed : (o : Option A) → ((v : A) → o ≡ Some v → ⊥) → o ≡ prefixed_value answer group input → None ≡ prefixed_value answer group input
  not_prefixed None other is = is
  not_prefixed (Some v) other is = absurd (other v refl)

  -- the answer of those without a prefix, where no other accepts
  pub accepted-raw : (none : Kind) (xs : List (TypedEntry Q)) (v : Option A) → None ≡ prefixed_value answer group input → xs ≡ group [] → v ≡ first_value (λ e. answer e input) xs → accepted answer group none input ≡ value_or none v
  accepted-raw none xs v before entries is =
      ap (λ o. value_or none (or_else o (raw_value answer group input))) (sym before)
      ∙ ap (value_or none) (sym (is ∙ ap (first_value (λ e. answer e input)) entries))

-- What the entry at a place gives, where those before it did not accept.
module _ {E A : Type 0} (answer : E → List ℕ → Result A Kind) (input : List ℕ) where
  module _ (xs : List E) (i : ℕ) (x : E) (before : first_value (λ e. answer e input) xs ≡ first_value (λ e. answer e input) (drop i xs)) (within : i < length xs) (is : x ≡ get_or xs i x) where
    here : first_value (λ e. answer e input) xs ≡ first_value (λ e. answer e input) (x ∷ drop (i + 1) xs)
    here = before ∙ at_drop_more (first_value (λ e. answer e input)) xs i x within ∙ ap (λ y. first_value (λ e. answer e input) (y ∷ drop (i + 1) xs)) (sym is)

    pub first_accepts : (v : A) → answer x input ≡ Ok v → Some v ≡ first_value (λ e. answer e input) xs
    first_accepts v told = sym (here ∙ ap (λ (r : Result A Kind). elim r as (λ _. Option A) [ Ok w ↦ Some w | Err _ ↦ first_value (λ e. answer e input) (drop (i + 1) xs) ]) told)

    pub first_refuses : (k : Kind) → answer x input ≡ Err k → first_value (λ e. answer e input) xs ≡ first_value (λ e. answer e input) (drop (i + 1) xs)
    first_refuses k told = here ∙ ap (λ (r : Result A Kind). elim r as (λ _. Option A) [ Ok w ↦ Some w | Err _ ↦ first_value (λ e. answer e input) (drop (i + 1) xs) ]) told

  -- none of a list accepts
  pub first_of_none : (xs : List E) (i : ℕ) → first_value (λ e. answer e input) xs ≡ first_value (λ e. answer e input) (drop i xs) → length xs ≤ i → None ≡ first_value (λ e. answer e input) xs
  first_of_none xs i before over = sym (before ∙ ap (first_value (λ e. answer e input)) (drop_all i xs over))
