-- Templates in the order of their names: what a template that is put there leaves.
use Rattle.std.proofs.Common.{◌≡◌, ◌∙◌, ℕ, List, [], ◌∷◌, Bool, true, false, cond, Some, None, Option, refl, sym, ap, subst, fold}
use Rattle.std.specs.Option.{option_map}
use Rattle.std.specs.Ordering.{nat_cmp, is_eq, ordering_reverse}
use Rattle.std.specs.Cmp.Lexicographic.{slice_cmp, nat_list_cmp_total, bytes_decides}
use Rattle.std.specs.Str.{bytes_eq}
use Rattle.std.specs.declared.cmp.Ordering.TheVariants.{Less, Equal, Greater}
use Rattle.std.proofs.lemmas.Map.Text.{is_eq-slice_cmp}
use Rattle.tink_proto.specs.declared.messages.keys.KeyTemplate.{KeyTemplate}
use Rattle.tink_registry.specs.Listed.{Named, names_of, IsBefore, AreRising, with_template, with_template_by, template_of}

after_flips : (a b : List ℕ) → slice_cmp nat_cmp a b ≡ Greater → slice_cmp nat_cmp b a ≡ Less
after_flips a b after = nat_list_cmp_total.antisymm b a ∙ ap ordering_reverse after

before_equal : (a b : List ℕ) (ns : List (List ℕ)) → slice_cmp nat_cmp a b ≡ Equal → IsBefore b ns → IsBefore a ns
before_equal a b [] equal before = tt
before_equal a b (n ∷ ns) equal before = nat_list_cmp_total.congr a b n equal ∙ before

before_with : (m name : List ℕ) (kt : KeyTemplate) (ts : List Named) → slice_cmp nat_cmp m name ≡ Less → IsBefore m (names_of ts) → IsBefore m (names_of (with_template ts (name, kt)))
before_with m name kt [] less before = less
before_with m name kt (t ∷ ts) less before =
    elim (slice_cmp nat_cmp name t.0) as (λ o. IsBefore m (names_of (elim o [ Less ↦ (name, kt) ∷ t ∷ ts | Equal ↦ (name, kt) ∷ ts | Greater ↦ t ∷ with_template_by (slice_cmp nat_cmp) name kt ts ]))) [
      | Less ↦ less
      | Equal ↦ less
      | Greater ↦ before
    ]

-- rising names stay rising
pub rising_with : (name : List ℕ) (kt : KeyTemplate) (ts : List Named) → AreRising (names_of ts) → AreRising (names_of (with_template ts (name, kt)))
rising_with name kt [] rising = (tt, tt)
rising_with name kt (t ∷ ts) rising =
    (elim (slice_cmp nat_cmp name t.0) as (λ o. slice_cmp nat_cmp name t.0 ≡ o → AreRising (names_of (elim o [ Less ↦ (name, kt) ∷ t ∷ ts | Equal ↦ (name, kt) ∷ ts | Greater ↦ t ∷ with_template_by (slice_cmp nat_cmp) name kt ts ]))) [
      | Less ↦ λ less. (less, rising)
      | Equal ↦ λ equal. (before_equal name t.0 (names_of ts) equal rising.0, rising.1)
      | Greater ↦ λ after. (before_with t.0 name kt ts (after_flips name t.0 after) rising.0, rising_with name kt ts rising.1)
    ]) refl

pub rising_with_all : (kts ts : List Named) → AreRising (names_of ts) → AreRising (names_of (fold with_template ts kts))
rising_with_all [] ts rising = rising
rising_with_all (k ∷ kts) ts rising = rising_with_all kts (with_template ts k) (rising_with k.0 k.1 ts rising)

map_cond : (b : Bool) (x : Named) (o : Option Named) → option_map (λ t. t.1) (cond b (Some x) o) ≡ cond b (Some x.1) (option_map (λ t. t.1) o)
map_cond true x o = refl
map_cond false x o = refl

same_test : {X : Type 0} (b c : Bool) (x y r : X) → b ≡ c → cond b x r ≡ cond b x (cond c y r)
same_test true c x y r e = refl
same_test false c x y r e = subst (λ d. r ≡ cond d y r) e refl

pub apart_tests : {X : Type 0} (b c : Bool) (x y r : X) → (b ≡ true → c ≡ false) → cond b y (cond c x r) ≡ cond c x (cond b y r)
apart_tests true c x y r apart = subst (λ d. y ≡ cond d x y) (sym (apart refl)) refl
apart_tests false c x y r apart = refl

-- equal names
same_name : (a b : List ℕ) → slice_cmp nat_cmp a b ≡ Equal → a ≡ b
same_name a b equal = (bytes_decides a b).0 (sym (is_eq-slice_cmp a b) ∙ ap is_eq equal)

-- a name that is met first is not one that comes later
not_later : (name m n : List ℕ) → slice_cmp nat_cmp name m ≡ Greater → bytes_eq m n ≡ true → bytes_eq name n ≡ false
not_later name m n after met = subst (λ l. bytes_eq name l ≡ false) ((bytes_decides m n).0 met) (sym (is_eq-slice_cmp name m) ∙ ap is_eq after)

-- the template of each name
pub template_of-with : (name n : List ℕ) (kt : KeyTemplate) (ts : List Named) → template_of n (with_template ts (name, kt)) ≡ cond (bytes_eq name n) (Some kt) (template_of n ts)
template_of-with name n kt [] = map_cond (bytes_eq name n) (name, kt) None
template_of-with name n kt (t ∷ ts) =
    (elim (slice_cmp nat_cmp name t.0) as (λ o. slice_cmp nat_cmp name t.0 ≡ o → template_of n (elim o [ Less ↦ (name, kt) ∷ t ∷ ts | Equal ↦ (name, kt) ∷ ts | Greater ↦ t ∷ with_template_by (slice_cmp nat_cmp) name kt ts ]) ≡ cond (bytes_eq name n) (Some kt) (template_of n (t ∷ ts))) [
      | Less ↦ λ less. map_cond (bytes_eq name n) (name, kt) _
      | Equal ↦ λ equal.
          map_cond (bytes_eq name n) (name, kt) _
          ∙ same_test (bytes_eq name n) (bytes_eq t.0 n) (Some kt) (Some t.1) (template_of n ts) (ap (λ l. bytes_eq l n) (same_name name t.0 equal))
          ∙ ap (cond (bytes_eq name n) (Some kt)) (sym (map_cond (bytes_eq t.0 n) t _))
      | Greater ↦ λ after.
          map_cond (bytes_eq t.0 n) t _
          ∙ ap (cond (bytes_eq t.0 n) (Some t.1)) (template_of-with name n kt ts)
          ∙ apart_tests (bytes_eq t.0 n) (bytes_eq name n) (Some kt) (Some t.1) (template_of n ts) (not_later name t.0 n after)
          ∙ ap (cond (bytes_eq name n) (Some kt)) (sym (map_cond (bytes_eq t.0 n) t _))
    ]) refl
