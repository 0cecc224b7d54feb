-- What an entry leaves that is put behind those of its prefix.
use Rattle.std.proofs.Common.{◌≡◌, ◌<◌, ◌∙◌, ℕ, List, [], ◌∷◌, ◌++◌, Bool, true, false, cond, Some, Option, refl, sym, ap, filter, length, arith, length-append}
use Rattle.std.specs.Prelude.{Vec, unwrap_or, Result, Ok, Err, OnOk, OnErr}
use Rattle.std.specs.Str.{bytes_eq}
use Rattle.std.specs.Cmp.Lexicographic.{bytes_decides}
use Rattle.std.specs.BTreeMap.{BTreeMap}
use Rattle.std.proofs.lemmas.List.{append-nil}
use Rattle.std.proofs.lemmas.List.Elements.{filter-append}
use Rattle.tink_set_groups.specs.Groups.{group_at, group_of, Adds, AddsLast, AfterAdding, EndsBy, HaveSameGroups}

-- the entries of its own prefix
pub group_of-own : {E A : Type 0} (own : List ℕ) (entry : E) (old new : BTreeMap (Vec ℕ A) (List E)) → Adds own entry old new → EndsBy own entry old new
group_of-own own entry old new adds = ap (λ o. unwrap_or o []) (adds own ∙ ap (λ b. cond b (Some (group_of old own ++ entry ∷ [])) (group_at old own)) ((bytes_decides own own).1 refl))

-- what is read under a prefix ends by the entry that the list under it ends by
pub read_ends : {E A : Type 0} (m : BTreeMap (Vec ℕ A) (List E)) (prefix own : List ℕ) (read before : List E) (entry : E) → read ≡ group_of m prefix → prefix ≡ own → group_of m own ≡ before ++ entry ∷ [] → read ≡ before ++ entry ∷ []
read_ends m prefix own read before entry is same ends = is ∙ ap (group_of m) same ∙ ends

-- what ends by an entry is not empty
pub some_behind : {E : Type 0} (all before : List E) (entry : E) → all ≡ before ++ entry ∷ [] → 0 < length all
some_behind all before entry is = omega (arith, ap length is, length-append before (entry ∷ []))

more : {E : Type 0} (b : Bool) (entry : E) (at_own at_other kept : List E) (o : Option (List E)) → unwrap_or o [] ≡ kept → (b ≡ true → at_own ≡ kept) → unwrap_or (cond b (Some (at_own ++ entry ∷ [])) o) [] ≡ kept ++ cond b (entry ∷ []) []
more true entry at_own at_other kept o is same = ap (λ xs. xs ++ entry ∷ []) (same refl)
more false entry at_own at_other kept o is same = is ∙ sym (append-nil kept)

-- it stands behind all others
pub adds_last : {E A : Type 0} (prefix_of : E → List ℕ) (entry : E) (old new : BTreeMap (Vec ℕ A) (List E)) → Adds (prefix_of entry) entry old new → AddsLast prefix_of entry old new
adds_last {E} prefix_of entry old new adds es are p =
    let test : E → Bool = λ e. bytes_eq (prefix_of e) p in
    ap (λ o. unwrap_or o []) (adds p)
    ∙ more (bytes_eq (prefix_of entry) p) entry (group_of old (prefix_of entry)) [] (filter test es) (group_at old p) (are p) (λ e. ap (group_of old) ((bytes_decides (prefix_of entry) p).0 e) ∙ are p)
    ∙ sym (filter-append test es (entry ∷ []))

-- the lists after it was added or refused
pub after_adding : {E A T F : Type 0} (prefix_of : E → List ℕ) (entry : E) (r : Result T F) (old new : BTreeMap (Vec ℕ A) (List E)) → OnOk r (Adds (prefix_of entry) entry old new) → OnErr r (HaveSameGroups old new) → AfterAdding prefix_of entry r old new
after_adding prefix_of entry (Ok _) old new adds same = (adds, adds_last prefix_of entry old new adds)
after_adding prefix_of entry (Err _) old new adds same = same
