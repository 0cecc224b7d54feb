-- Whether the entries of a set are all raw, as its map tells.
use Rattle.std.proofs.Common.{◌≡◌, ◌∙◌, ◌&&◌, ◌==◌, ℕ, length, List, [], ◌∷◌, Bool, true, false, cond, Some, None, Option, All, is_some, T, eqb→eq, refl, sym, ap, subst, ⊎_elim, arith}
use Rattle.std.specs.Prelude.{Vec, filter, unwrap_or}
use Rattle.std.specs.List.{list_all}
use Rattle.std.specs.Str.{bytes_eq}
use Rattle.std.specs.Ordering.{nat_cmp, is_eq}
use Rattle.std.specs.Cmp.Lexicographic.{slice_cmp, bytes_decides, nat_list_eq_equiv}
use Rattle.std.specs.BTreeMap.{BTreeMap}
use Rattle.std.proofs.lemmas.Map.Text.{is_eq-slice_cmp}
use Rattle.std.proofs.lemmas.Bool.{cases_Bool, cond-false, false≢true}
use Rattle.std.proofs.lemmas.List.Elements.{All-head, All-tail}
use Rattle.tink_sets.specs.Groups.{group_at, group_of, AreGroupsOf}
use Rattle.tink_set_groups.proofs.ConvertingFacts.{Pairs, left_at}
use Rattle.tink_prf.specs.Sets.{IsFilled}

-- ---- lists

pub nothing_in : {T : Type 0} (xs : List T) (empty : Bool) → empty ≡ (length xs == 0) → empty ≡ true → IsFilled xs → ⊥
nothing_in [] empty is h filled = filled
nothing_in (x ∷ xs) empty is h filled = let none = eqb→eq (length (x ∷ xs)) 0 (subst T (sym h ∙ is) tt) in absurd (omega (arith, none))

pub something_in : {T : Type 0} (xs : List T) (empty : Bool) → empty ≡ (length xs == 0) → empty ≡ false → IsFilled xs
something_in [] empty is h = absurd (cc)
something_in (x ∷ xs) empty is h = tt

none_left : {E : Type 0} (xs : List E) → (IsFilled xs → ⊥) → xs ≡ []
none_left [] none = refl
none_left (x ∷ xs) none = absurd (none tt)

filter_all_by : {E : Type 0} (e : E) (es kept : List E) (b others : Bool) → (others ≡ true → kept ≡ es) → (b && others) ≡ true → cond b (e ∷ kept) kept ≡ e ∷ es
filter_all_by e es kept true others same h = ap (λ xs. e ∷ xs) (same h)
filter_all_by e es kept false others same h = absurd (false≢true h)

-- a test that all pass leaves none out
pub filter_all : {E : Type 0} (test : E → Bool) (es : List E) → list_all test es ≡ true → filter test es ≡ es
filter_all test [] h = refl
filter_all test (e ∷ es) h = filter_all_by e es (filter test es) (test e) (list_all test es) (filter_all test es) h

tail_none : {E : Type 0} (b : Bool) (e : E) (kept : List E) → cond b (e ∷ kept) kept ≡ [] → kept ≡ []
tail_none true e kept h = absurd (cc)
tail_none false e kept h = h

-- what has a prefix is not raw
not_raw : (p : List ℕ) → IsFilled p → bytes_eq p [] ≡ false
not_raw [] filled = absurd filled
not_raw (x ∷ p) filled = refl

module _ {E : Type 0} (prefix_of : E → List ℕ) where
  abbrev pub under : List ℕ → E → Bool
  under p e = bytes_eq (prefix_of e) p

  abbrev pub raw : E → Bool
  raw e = under [] e

  -- there is none of its own prefix, and so it has none
  raw_by : (e : E) (own kept : List ℕ → List E) (p : List ℕ) → prefix_of e ≡ p → (IsFilled p → cond (under p e) (e ∷ kept p) (kept p) ≡ []) → raw e ≡ true
  raw_by e own kept [] is none = (bytes_decides (prefix_of e) []).1 is
  raw_by e own kept (x ∷ p) is none = let here = none tt in let same = (bytes_decides (prefix_of e) (x ∷ p)).1 is in absurd (cc)

  -- where no prefix has entries, all are raw
  pub all_raw : (es : List E) → ((p : List ℕ) → IsFilled p → filter (under p) es ≡ []) → list_all raw es ≡ true
  all_raw [] none = refl
  all_raw (e ∷ es) none =
      let here = raw_by e (λ p. filter (under p) es) (λ p. filter (under p) es) (prefix_of e) refl (none (prefix_of e)) in
      let others = all_raw es (λ p filled. tail_none (under p e) e (filter (under p) es) (none p filled)) in
      rw (here, others) refl

  prefixed_by : (e : E) (es : List E) (p : List ℕ) (b others : Bool) → under p e ≡ b → (b ≡ true → raw e ≡ false) → (b ≡ false → others ≡ false) → (raw e && others) ≡ false
  prefixed_by e es p true others is own rest = rw (own refl) refl
  prefixed_by e es p false others is own rest = rw (rest refl) (and_false (raw e))
    where
      and_false : (b : Bool) → (b && false) ≡ false
      and_false true = refl
      and_false false = refl

  -- where a prefix has entries, not all are raw
  pub not_all_raw : (es : List E) (p : List ℕ) → IsFilled p → IsFilled (filter (under p) es) → list_all raw es ≡ false
  not_all_raw [] p filled some = absurd some
  not_all_raw (e ∷ es) p filled some =
      prefixed_by e es p (under p e) (list_all raw es) refl
      (λ is. ap (λ q. bytes_eq q []) ((bytes_decides (prefix_of e) p).0 is) ∙ not_raw p filled)
      (λ is. not_all_raw es p filled (subst (λ b. IsFilled (cond b (e ∷ filter (under p) es) (filter (under p) es))) is some))

-- ---- maps

filled_some : {E : Type 0} (o : Option (List E)) → IsFilled (unwrap_or o []) → is_some o ≡ true
filled_some None some = absurd some
filled_some (Some xs) some = refl

-- Where `rest` is left of the map m: it has m's lists, and each prefix that has entries stands in it.
pub record HasLeft {E A : Type 0} (m : BTreeMap (Vec ℕ A) (List E)) (rest : Pairs E A) : Type 0 where
  pub found : All (λ e. group_at m e.0.items ≡ Some e.1) rest
  pub covered : (p : List ℕ) → IsFilled p → IsFilled (group_of m p) → is_some (left_at rest p) ≡ true

module _ {E A : Type 0} (m : BTreeMap (Vec ℕ A) (List E)) where
  pub left_begun : All (λ e. group_at m e.0.items ≡ Some e.1) m.entries → HasLeft m m.entries
  left_begun found = record { found = found; covered = λ p filled some. filled_some (group_at m p) some }

  module _ (k : Vec ℕ A) (g : List E) (rest : Pairs E A) (left : HasLeft m ((k, g) ∷ rest)) where
    pub here : group_of m k.items ≡ g
    here = ap (λ o. unwrap_or o []) (All-head (λ e. group_at m e.0.items ≡ Some e.1) (k, g) rest left.found)

    other_way : (p : List ℕ) → bytes_eq k.items p ≡ false → is_eq (slice_cmp nat_cmp p k.items) ≡ false
    other_way p e = is_eq-slice_cmp p k.items ∙ nat_list_eq_equiv.symm p k.items ∙ e

    -- a list without entries or without a prefix
    pub left_less : (IsFilled k.items → IsFilled g → ⊥) → HasLeft m rest
    left_less plain = record { found = All-tail (λ e. group_at m e.0.items ≡ Some e.1) (k, g) rest left.found; covered = covered }
      where
        covered : (p : List ℕ) → IsFilled p → IsFilled (group_of m p) → is_some (left_at rest p) ≡ true
        covered p filled some =
            ⊎_elim
            (λ e.
            let same = (bytes_decides k.items p).0 e in
            absurd (plain (subst IsFilled (sym same) filled) (subst IsFilled (ap (group_of m) (sym same) ∙ here) some)))
            (λ e. sym (ap is_some (cond-false (is_eq (slice_cmp nat_cmp p k.items)) (Some g) (left_at rest p) (other_way p e))) ∙ left.covered p filled some)
            (cases_Bool (bytes_eq k.items p))

  module _ (prefix_of : E → List ℕ) (es : List E) (are : AreGroupsOf prefix_of es m) where
    -- all lists were plain
    pub raw_to_the_end : HasLeft m [] → list_all (raw prefix_of) es ≡ true
    raw_to_the_end left = all_raw prefix_of es (λ p filled. sym (are p) ∙ none_left (group_of m p) (λ some. false≢true (left.covered p filled some)))

    -- a list under a prefix has entries
    pub prefixed_here : (p : List ℕ) (g : List E) → group_of m p ≡ g → IsFilled p → IsFilled g → list_all (raw prefix_of) es ≡ false
    prefixed_here p g is filled some = not_all_raw prefix_of es p filled (subst IsFilled (sym is ∙ are p) some)
