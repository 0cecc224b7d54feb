-- What an entry made is accepted by each list that has the entry, and under its keyset after commands that spare its key.
use Rattle.std.proofs.Common.{◌≡◌, ◌∙◌, ◌<◌, ◌++◌, ℕ, List, [], ◌∷◌, Bool, true, false, cond, Option, Some, None, Result, Ok, Err, length, take, drop, refl, sym, ap, subst, ⊎_elim}
use Rattle.std.specs.Prelude.{filter}
use Rattle.std.specs.List.{All, Contains}
use Rattle.std.specs.Str.{bytes_eq}
use Rattle.std.proofs.lemmas.Bool.{lt-ltb}
use Rattle.std.proofs.lemmas.List.{drop_at, take_at}
use Rattle.std.proofs.lemmas.List.Elements.{All-cons, All-contains, All-head, All-nil, All-tail, All-weaker}
use Rattle.std.proofs.lemmas.Slice.Eq.{bytes_eq-Decides}
use Rattle.tink_io.specs.declared.error.Kind.{Kind}
use Rattle.tink_proto.specs.declared.messages.keys.Key.{Key}
use Rattle.tink_proto.specs.declared.messages.keys.Keyset.{Keyset}
use Rattle.tink_primitives.specs.declared.primitive.Primitive.{Primitive}
use Rattle.tink_sets.specs.Entries.{entry_of_id}
use Rattle.tink_sets.specs.declared.entry.TypedEntry.{TypedEntry}
use Rattle.keyset_model.specs.Operations.{Operation, Maker, Managed, after_all}
use Rattle.keyset_model.specs.Keys.{enabled}
use Rattle.keyset_model.specs.Spared.{Spares}
use Rattle.keyset_model.proofs.EnabledLaw.{keeps_enabled}
use Rattle.tink_sets.specs.Accepting.{AcceptsNoOther, accepted, entries_of, first_value, or_else, value_or}
use Rattle.tink_keysets.specs.Typing.{key_entry, keyset_entries}
use Rattle.tink_keysets.proofs.KeyEntries.{IsOwnPrefix, of_enabled, of_own_prefix, primary_key}

-- ---- the first of a list that accepts, where all that accept give one value

module _ {E A : Type 0} (f : E → Result A Kind) (t : E → Bool) (v : A) where
  abbrev IsAlike : E → Type 0
  IsAlike x = t x ≡ true → (w : A) → f x ≡ Ok w → w ≡ v

  abbrev Refuses : E → Type 0
  Refuses x = t x ≡ true → (w : A) → f x ≡ Ok w → ⊥

  head_ok : (x : E) (rest : List E) (w : A) → f x ≡ Ok w → first_value f (x ∷ rest) ≡ Some w
  head_ok x rest w is = rw (is, first_value) refl

  head_err : (x : E) (rest : List E) (k : Kind) → f x ≡ Err k → first_value f (x ∷ rest) ≡ first_value f rest
  head_err x rest k is = rw (is, first_value) refl

  -- a value that is found is that one
  found_head : (x : E) (r : Result A Kind) (rest : List E) (w : A) → f x ≡ r → ((u : A) → f x ≡ Ok u → u ≡ v) → (first_value f rest ≡ Some w → w ≡ v) → first_value f (x ∷ rest) ≡ Some w → w ≡ v
  found_head x (Ok u) rest w is alike more found = let same : u ≡ w = let e = sym (head_ok x rest u is) ∙ found in cc in sym same ∙ alike u is
  found_head x (Err k) rest w is alike more found = more (sym (head_err x rest k is) ∙ found)

  found_filtered : (x : E) (b : Bool) (rest : List E) (w : A) → t x ≡ b → IsAlike x → (first_value f rest ≡ Some w → w ≡ v) → first_value f (cond b (x ∷ rest) rest) ≡ Some w → w ≡ v
  found_filtered x true rest w is alike more found = found_head x (f x) rest w refl (alike is) more found
  found_filtered x false rest w is alike more found = more found

  found_is : (xs : List E) (w : A) → All IsAlike xs → first_value f (filter t xs) ≡ Some w → w ≡ v
  found_is [] w all found = absurd (cc)
  found_is (x ∷ xs) w all found = found_filtered x (t x) (filter t xs) w refl (All-head IsAlike x xs all) (found_is xs w (All-tail IsAlike x xs all)) found

  -- where none is found, all refuse
  none_head : (x : E) (r : Result A Kind) (rest : List E) → f x ≡ r → first_value f (x ∷ rest) ≡ None → ((w : A) → f x ≡ Ok w → ⊥) × (first_value f rest ≡ None)
  none_head x (Ok u) rest is none = let e = sym (head_ok x rest u is) ∙ none in absurd (cc)
  none_head x (Err k) rest is none = (λ w accepts. absurd (cc), sym (head_err x rest k is) ∙ none)

  none_filtered : (x : E) (b : Bool) (rest : List E) → t x ≡ b → first_value f (cond b (x ∷ rest) rest) ≡ None → Refuses x × (first_value f rest ≡ None)
  none_filtered x true rest is none = let both = none_head x (f x) rest refl none in (λ _. both.0, both.1)
  none_filtered x false rest is none = (λ passes. absurd (cc), none)

  none_refuse : (xs : List E) → first_value f (filter t xs) ≡ None → All Refuses xs
  none_refuse [] none = All-nil Refuses
  none_refuse (x ∷ xs) none = let both = none_filtered x (t x) (filter t xs) refl none in All-cons Refuses x xs both.0 (none_refuse xs both.1)

  one_of : (xs : List E) (x : E) (o : Option A) → first_value f (filter t xs) ≡ o → Contains xs x → t x ≡ true → f x ≡ Ok v → All IsAlike xs → o ≡ Some v
  one_of xs x (Some w) found there passes accepts all = ap Some (found_is xs w all found)
  one_of xs x None found there passes accepts all = absurd (All-contains Refuses xs x (none_refuse xs found) there passes v accepts)

  -- the value is found, where one of the list gives it
  finds : (xs : List E) (x : E) → Contains xs x → t x ≡ true → f x ≡ Ok v → All IsAlike xs → first_value f (filter t xs) ≡ Some v
  finds xs x there passes accepts all = one_of xs x (first_value f (filter t xs)) refl there passes accepts all

-- ---- what an entry made

-- An input of more than five bytes is an entry's prefix, and behind it what the entry accepts as this value.
pub record IsAcceptedBy {Q A : Type 0} (answer : TypedEntry Q → List ℕ → Result A Kind) (e : TypedEntry Q) (value : A) (input : List ℕ) : Type 0 where
  pub rest : List ℕ
  pub is : e.prefix ++ rest ≡ input
  pub accepted : answer e rest ≡ Ok value
  pub long : 5 < length input

module _ {Q A : Type 0} (answer : TypedEntry Q → List ℕ → Result A Kind) (none : Kind) (es : List (TypedEntry Q)) (e : TypedEntry Q) (value : A) (input : List ℕ)
    (known : IsOwnPrefix e.prefix) (there : Contains es e) (by : IsAcceptedBy answer e value input) (all : All (AcceptsNoOther answer value input) es) where
  abbrev with_prefix : List ℕ → TypedEntry Q → Bool
  with_prefix prefix x = bytes_eq x.prefix prefix

  alike_behind : All (IsAlike (λ x. answer x (drop 5 input)) (with_prefix (take 5 input)) value) es
  alike_behind = All-weaker (AcceptsNoOther answer value input) (IsAlike (λ x. answer x (drop 5 input)) (with_prefix (take 5 input)) value) (λ x alone passes. alone.behind ((bytes_eq-Decides x.prefix (take 5 input)).0 passes)) es all

  alike_whole : All (IsAlike (λ x. answer x input) (with_prefix []) value) es
  alike_whole = All-weaker (AcceptsNoOther answer value input) (IsAlike (λ x. answer x input) (with_prefix []) value) (λ x alone passes. alone.whole ((bytes_eq-Decides x.prefix []).0 passes)) es all

  abbrev behind : Option A
  behind = first_value (λ x. answer x (drop 5 input)) (entries_of es (take 5 input))

  abbrev whole : Option A
  whole = first_value (λ x. answer x input) (entries_of es [])

  answer_is : accepted answer (entries_of es) none input ≡ value_or none (or_else behind whole)
  answer_is = ap (λ (b : Bool). value_or none (or_else (cond b behind None) whole)) (lt-ltb 5 (length input) by.long)

  by_prefix : length e.prefix ≡ 5 → behind ≡ Some value
  by_prefix five =
      let front : take 5 input ≡ e.prefix = ap (take 5) (sym by.is) ∙ take_at e.prefix by.rest 5 five in
      let rest : drop 5 input ≡ by.rest = ap (drop 5) (sym by.is) ∙ drop_at e.prefix by.rest 5 five in
      finds (λ x. answer x (drop 5 input)) (with_prefix (take 5 input)) value es e there ((bytes_eq-Decides e.prefix (take 5 input)).1 (sym front)) (ap (answer e) rest ∙ by.accepted) alike_behind

  without_prefix : e.prefix ≡ [] → whole ≡ Some value
  without_prefix empty =
      let same : input ≡ by.rest = sym by.is ∙ ap (λ p. p ++ by.rest) empty in
      finds (λ x. answer x input) (with_prefix []) value es e there ((bytes_eq-Decides e.prefix []).1 empty) (ap (answer e) same ∙ by.accepted) alike_whole

  first : (o q : Option A) → o ≡ Some value → value_or none (or_else o q) ≡ Ok value
  first o q is = ap (λ x. value_or none (or_else x q)) is

  later : (o q : Option A) → ((w : A) → o ≡ Some w → w ≡ value) → q ≡ Some value → value_or none (or_else o q) ≡ Ok value
  later None q same is = ap (value_or none) is
  later (Some w) q same is = ap Ok (same w refl)

  pub accepted_by_list : accepted answer (entries_of es) none input ≡ Ok value
  accepted_by_list =
      answer_is
      ∙ ⊎_elim (λ five. first behind whole (by_prefix five))
      (λ empty. later behind whole (λ w found. found_is (λ x. answer x (drop 5 input)) (with_prefix (take 5 input)) value es w alike_behind found) (without_prefix empty)) known

-- ---- under a keyset

module _ {R K A D HD HE M P S St V Q T : Type 0} (pick : Primitive K A D HD HE M P S St V → Result Q Kind)
    (url : R → List ℕ) (supports : R → List ℕ → Bool) (builds : R → List ℕ → Result (Primitive K A D HD HE M P S St V) Kind) (managers : List R)
    (answer : TypedEntry Q → List ℕ → Result T Kind) (none : Kind) where
  -- what an enabled key's entry made
  pub accepted_by_key : (ks : Keyset) (k : Key) (e : TypedEntry Q) (es : List (TypedEntry Q)) (value : T) (input : List ℕ)
      → key_entry pick url supports builds managers k ≡ Ok e → Contains (enabled ks) k → keyset_entries pick url supports builds managers ks ≡ Ok es
      → IsAcceptedBy answer e value input → All (AcceptsNoOther answer value input) es → accepted answer (entries_of es) none input ≡ Ok value
  accepted_by_key ks k e es value input is there all by alone =
      accepted_by_list answer none es e value input (of_own_prefix pick url supports builds managers k e is) (of_enabled pick url supports builds managers ks k e es is there all) by alone

  -- what the primary entry made, after commands that spare its key
  pub accepted_after : (makes : Maker) (m : Managed) (commands : List Operation) (es later : List (TypedEntry Q)) (e : TypedEntry Q) (value : T) (input : List ℕ)
      → All (Spares m.keyset.primary_key_id) commands → keyset_entries pick url supports builds managers m.keyset ≡ Ok es → entry_of_id m.keyset.primary_key_id es ≡ Some e
      → keyset_entries pick url supports builds managers (after_all makes m commands).keyset ≡ Ok later
      → IsAcceptedBy answer e value input → All (AcceptsNoOther answer value input) later → accepted answer (entries_of later) none input ≡ Ok value
  accepted_after makes m commands es later e value input spared all primary after by alone =
      let k = primary_key pick url supports builds managers m.keyset es e all primary in
      let stays = keeps_enabled makes m commands k.0 k.1 (subst (λ n. All (Spares n) commands) k.3 spared) in
      accepted_by_key (after_all makes m commands).keyset k.0 e later value input k.2 stays after by alone
