-- Steps through a list of managers, and through a list of templates.
use Rattle.std.proofs.Common.{set, ◌∙◌, ◌≡◌, ℕ, ◌+◌, ◌<◌, ◌++◌, ◌&&◌, ◌||◌, ◌∷◌, [], List, true, false, None, Some, not, take, drop, length, is_some, get_or, refl, sym, ap, subst, arith, append_assoc, cond, add-one, drop-cons}
use Rattle.std.proofs.lemmas.Grind.{common_steps}
use Rattle.std.proofs.Math.Seq.{take-suc}
use Rattle.std.proofs.lemmas.List.{take-append-drop, take-set, drop-set}
use Rattle.std.specs.Str.{bytes_eq}
use Rattle.std.specs.Ordering.{nat_cmp}
use Rattle.std.specs.Cmp.Lexicographic.{slice_cmp}
use Rattle.std.specs.declared.cmp.Ordering.TheVariants.{Equal, Greater}
use Rattle.tink_proto.specs.declared.messages.keys.KeyTemplate.{KeyTemplate}
use Rattle.std.specs.Cmp.Lexicographic.{bytes_decides, nat_list_eq_equiv}
use Rattle.std.proofs.lemmas.Option.{none-some}
use Rattle.tink_registry.proofs.Rising.{apart_tests}
use Rattle.tink_registry.specs.Listed.{manager_of, are_all_fresh, Named, with_template, with_template_by}

pub taken_append : {M : Type 0} (url : M → List ℕ) (u : List ℕ) (xs ys : List M) → is_some (manager_of url u (xs ++ ys)) ≡ (is_some (manager_of url u xs) || is_some (manager_of url u ys))
taken_append url u [] ys = refl
taken_append url u (x ∷ xs) ys =
    elim (bytes_eq (url x) u) as (λ b. is_some (cond b (Some x) (manager_of url u (xs ++ ys))) ≡ (is_some (cond b (Some x) (manager_of url u xs)) || is_some (manager_of url u ys))) [
      | true ↦ refl
      | false ↦ taken_append url u xs ys
    ]

pub fresh_step : {M : Type 0} (url : M → List ℕ) (ms ns : List M) (i : ℕ) (m d : M) → i < length ns → m ≡ get_or ns i d → are_all_fresh url (ms ++ take i ns) (drop i ns) ≡ (not (is_some (manager_of url (url m) (ms ++ take i ns))) && are_all_fresh url (ms ++ take (i + 1) ns) (drop (i + 1) ns))
fresh_step url ms ns i m d h e =
    rw (add-one, drop-cons ns i d, take-suc ns i d h, ← e, append_assoc ms (take i ns) (m ∷ [])) refl

-- a template before the name's place stays
pub place_step : (name : List ℕ) (ts : List Named) (i : ℕ) (t d : Named) (kt : KeyTemplate) → i < length ts → t ≡ get_or ts i d → slice_cmp nat_cmp name t.0 ≡ Greater → take i ts ++ with_template (drop i ts) (name, kt) ≡ take (i + 1) ts ++ with_template (drop (i + 1) ts) (name, kt)
place_step name ts i t d kt h e g = grind (arith, common_steps)

-- a write at a place of a list, by its parts
pub set_split : {X : Type 0} (xs : List X) (i : ℕ) (y : X) → i < length xs → take i xs ++ y ∷ drop (i + 1) xs ≡ set xs i y
set_split xs i y h = let e = take-append-drop i (set xs i y) in rw (take-set xs i y, drop-set xs i y h) at e

-- the template of a name is replaced
pub place_equal : (name : List ℕ) (ts : List Named) (i : ℕ) (t d : Named) (kt : KeyTemplate) → i < length ts → t ≡ get_or ts i d → slice_cmp nat_cmp name t.0 ≡ Equal → take i ts ++ with_template (drop i ts) (name, kt) ≡ set ts i (name, kt)
place_equal name ts i t d kt h e g =
    let s = set_split ts i (name, kt) h in
    let same : slice_cmp nat_cmp name (get_or ts i d).0 ≡ Equal = ap (λ x. slice_cmp nat_cmp name x.0) (sym e) ∙ g in
    rw (drop-cons ts i d) (rw (same, with_template_by) (rw (add-one i) at s))

-- the manager of each URL after one was added whose URL was not there
pub manager_of-added : {M : Type 0} (url : M → List ℕ) (u : List ℕ) (m : M) (xs : List M) → manager_of url (url m) xs ≡ None → manager_of url u (xs ++ m ∷ []) ≡ cond (bytes_eq (url m) u) (Some m) (manager_of url u xs)
manager_of-added url u m [] none = refl
manager_of-added url u m (x ∷ xs) none =
    (elim (bytes_eq (url x) (url m)) as (λ b. bytes_eq (url x) (url m) ≡ b → cond b (Some x) (manager_of url (url m) xs) ≡ None → manager_of url u (x ∷ (xs ++ m ∷ [])) ≡ cond (bytes_eq (url m) u) (Some m) (manager_of url u (x ∷ xs))) [
      | true ↦ λ _ found. absurd (none-some x (sym found))
      | false ↦ λ other rest.
          ap (cond (bytes_eq (url x) u) (Some x)) (manager_of-added url u m xs rest)
          ∙ apart_tests (bytes_eq (url x) u) (bytes_eq (url m) u) (Some m) (Some x) (manager_of url u xs) (λ here. subst (λ l. bytes_eq (url m) l ≡ false) ((bytes_decides (url x) u).0 here) (nat_list_eq_equiv.symm (url m) (url x) ∙ other))
    ]) refl none
