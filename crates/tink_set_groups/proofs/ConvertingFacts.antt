-- Converting the lists of a map, one by one.
use Rattle.std.proofs.Common.{◌≡◌, ◌∙◌, ◌⊎◌, ℕ, List, [], ◌∷◌, true, false, cond, Some, None, Option, Result, Ok, Err, All, is_some, refl, sym, ap, subst, inl, inr, ⊎_elim}
use Rattle.std.specs.Prelude.{Vec}
use Rattle.std.specs.Str.{bytes_eq}
use Rattle.std.specs.Ordering.{nat_cmp, is_eq}
use Rattle.std.specs.Cmp.Lexicographic.{slice_cmp, bytes_decides, nat_list_eq_equiv}
use Rattle.std.specs.BTreeMap.{BTreeMap, is_at}
use Rattle.std.specs.Map.{lookup}
use Rattle.std.proofs.lemmas.Map.Text.{is_eq-slice_cmp}
use Rattle.std.proofs.lemmas.Bool.{cases_Bool, cond-true, cond-false, false≢true}
use Rattle.std.proofs.lemmas.Option.{none-some}
use Rattle.std.proofs.lemmas.List.Elements.{All-head, All-tail}
use Rattle.tink_io.specs.declared.error.Kind.{Kind}
use Rattle.tink_set_groups.specs.Groups.{group_at}
use Rattle.tink_set_groups.specs.Converting.{converted, IsConverted, AreConverted, HasRefused}

-- the lists of what is left of a map
abbrev pub Pairs : Type 0 → Type 0 → Type 0
Pairs E A = List (Vec ℕ A × List E)

-- the list under a prefix in what is left
abbrev pub left_at : {E A : Type 0} → Pairs E A → List ℕ → Option (List E)
left_at rest prefix = lookup (is_at (λ k. slice_cmp nat_cmp prefix k.items)) rest

-- Where `rest` is left of the map m: it has m's lists, each list of the new map is one of m's converted, and each list
-- of m is left or has its place in the new map.
pub record IsConverting {E F A : Type 0} (f : E → Result F Kind) (m : BTreeMap (Vec ℕ A) (List E)) (rest : Pairs E A) (out : BTreeMap (Vec ℕ A) (List F)) : Type 0 where
  pub found : All (λ e. group_at m e.0.items ≡ Some e.1) rest
  pub right : (p : List ℕ) (ys : List F) → group_at out p ≡ Some ys → (xs : List E) × (group_at m p ≡ Some xs) × (converted f xs ≡ Ok ys)
  pub covered : (p : List ℕ) → is_some (group_at m p) ≡ true → (is_some (left_at rest p) ≡ true) ⊎ (is_some (group_at out p) ≡ true)

whole : {E F : Type 0} (f : E → Result F Kind) (o : Option (List E)) (q : Option (List F)) → ((ys : List F) → q ≡ Some ys → (xs : List E) × (o ≡ Some xs) × (converted f xs ≡ Ok ys)) → (is_some o ≡ true → (false ≡ true) ⊎ (is_some q ≡ true)) → IsConverted f o q
whole f None None right covered = tt
whole f None (Some ys) right covered = let w = right ys refl in absurd (none-some w.0 w.1)
whole f (Some xs) None right covered = ⊎_elim (λ e. absurd (false≢true e)) (λ e. absurd (false≢true e)) (covered refl)
whole f (Some xs) (Some ys) right covered = let w = right ys refl in let same : w.0 ≡ xs = cc in subst (λ l. converted f l ≡ Ok ys) same w.2

other_way : (a b : List ℕ) → bytes_eq a b ≡ false → is_eq (slice_cmp nat_cmp b a) ≡ false
other_way a b e = is_eq-slice_cmp b a ∙ nat_list_eq_equiv.symm b a ∙ e

module _ {E F A : Type 0} (f : E → Result F Kind) (m : BTreeMap (Vec ℕ A) (List E)) where
  pub converting_none : (out : BTreeMap (Vec ℕ A) (List F)) → All (λ e. group_at m e.0.items ≡ Some e.1) m.entries → out.entries ≡ [] → IsConverting f m m.entries out
  converting_none out found empty =
      record {
        found = found;
        right = λ p ys there. absurd (none-some ys (sym (ap (λ es. left_at es p) empty) ∙ there));
        covered = λ p has. inl has;
      }

  module _ (k : Vec ℕ A) (g : List E) (rest : Pairs E A) (out : BTreeMap (Vec ℕ A) (List F)) (c : IsConverting f m ((k, g) ∷ rest) out) where
    here : group_at m k.items ≡ Some g
    here = All-head (λ e. group_at m e.0.items ≡ Some e.1) (k, g) rest c.found

    pub converting_refused : (x : Kind) → converted f g ≡ Err x → HasRefused f m x
    converting_refused x refused = record { prefix = k.items; entries = g; there = here; refused = refused }

    module _ (n : BTreeMap (Vec ℕ A) (List F)) (ys : List F) (one : converted f g ≡ Ok ys) (put : (p : List ℕ) → group_at n p ≡ cond (bytes_eq k.items p) (Some ys) (group_at out p)) where
      at_own : (p : List ℕ) → bytes_eq k.items p ≡ true → group_at n p ≡ Some ys
      at_own p e = put p ∙ cond-true (bytes_eq k.items p) (Some ys) (group_at out p) e

      at_other : (p : List ℕ) → bytes_eq k.items p ≡ false → group_at n p ≡ group_at out p
      at_other p e = put p ∙ cond-false (bytes_eq k.items p) (Some ys) (group_at out p) e

      right_now : (p : List ℕ) (zs : List F) → group_at n p ≡ Some zs → (xs : List E) × (group_at m p ≡ Some xs) × (converted f xs ≡ Ok zs)
      right_now p zs there =
          ⊎_elim
          (λ e.
          let now = at_own p e in
          let same : ys ≡ zs = cc in
          (g, subst (λ l. group_at m l ≡ Some g) ((bytes_decides k.items p).0 e) here, subst (λ l. converted f g ≡ Ok l) same one))
          (λ e. c.right p zs (sym (at_other p e) ∙ there))
          (cases_Bool (bytes_eq k.items p))

      left_now : (p : List ℕ) → bytes_eq k.items p ≡ false → left_at ((k, g) ∷ rest) p ≡ left_at rest p
      left_now p e = cond-false (is_eq (slice_cmp nat_cmp p k.items)) (Some g) (left_at rest p) (other_way k.items p e)

      covered_now : (p : List ℕ) → is_some (group_at m p) ≡ true → (is_some (left_at rest p) ≡ true) ⊎ (is_some (group_at n p) ≡ true)
      covered_now p has =
          ⊎_elim
          (λ e. inr (ap is_some (at_own p e)))
          (λ e. ⊎_elim
          (λ left. inl (sym (ap is_some (left_now p e)) ∙ left))
          (λ placed. inr (ap is_some (at_other p e) ∙ placed))
          (c.covered p has))
          (cases_Bool (bytes_eq k.items p))

      pub converting_more : IsConverting f m rest n
      converting_more = record { found = All-tail (λ e. group_at m e.0.items ≡ Some e.1) (k, g) rest c.found; right = right_now; covered = covered_now }

  pub converting_all : (out : BTreeMap (Vec ℕ A) (List F)) → IsConverting f m [] out → AreConverted f m out
  converting_all out c p = whole f (group_at m p) (group_at out p) (c.right p) (c.covered p)
