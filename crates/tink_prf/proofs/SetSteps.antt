-- From the entries of a set to its functions.
use Rattle.std.proofs.Common.{◌≡◌, ◌∙◌, ℕ, List, [], ◌∷◌, Bool, true, false, cond, Some, Option, Ok, Err, Result, T, eqb→eq, refl, sym, ap, subst}
use Rattle.std.specs.Prelude.{Vec, find, nat_eq, is_ok}
use Rattle.std.specs.List.{list_all}
use Rattle.std.specs.BTreeMap.{BTreeMap}
use Rattle.tink_io.specs.declared.error.Kind.{Kind}
use Rattle.tink_primitives.specs.Sorts.{as_prf}
use Rattle.tink_sets.specs.Converting.{converted}
use Rattle.tink_sets.specs.Entries.{prefix_of}
use Rattle.tink_sets.specs.Groups.{group_of}
use Rattle.tink_sets.specs.declared.entry.Entry.{Entry}
use Rattle.tink_keysets.specs.Built.{HasEntries}
use Rattle.tink_io.specs.Answering.{and_then}
use Rattle.tink_prf.specs.Sets.{is_raw, primary_prf, prf_of, prfs_of, raw_prfs}
use Rattle.tink_prf.proofs.RawEntries.{filter_all}

found_by : {E : Type 0} (test : E → Bool) (x e : E) (rest : Option E) (b : Bool) → test x ≡ b → Some e ≡ cond b (Some x) rest → (Some e ≡ rest → test e ≡ true) → test e ≡ true
found_by test x e rest true is h later = let same : e ≡ x = cc in ap test same ∙ is
found_by test x e rest false is h later = later h

-- what is found passes the test
found : {E : Type 0} (test : E → Bool) (es : List E) (e : E) → Some e ≡ find test es → test e ≡ true
found test [] e h = absurd (cc)
found test (x ∷ es) e h = found_by test x e (find test es) (test x) refl h (found test es e)

past_ok : {S U : Type 0} (r : Result S Kind) (told : Result U Kind) → is_ok r ≡ true → and_then r (λ _. told) ≡ told
past_ok (Ok v) told h = refl
past_ok (Err k) told h = absurd (cc)

module _ {K A D HD HE M P S St V G : Type 0} (id : ℕ) (es : List (Entry K A D HD HE M P S St V)) (e : Entry K A D HD HE M P S St V) (primary : Option (Entry K A D HD HE M P S St V)) (groups : BTreeMap (Vec ℕ G) (List (Entry K A D HD HE M P S St V))) (has : HasEntries prefix_of (λ x. x.key_id) id es primary groups) (there : primary ≡ Some e) where
  -- the primary entry has the primary id
  pub of_the_id : e.key_id ≡ id
  of_the_id = eqb→eq e.key_id id (subst T (sym (found (λ x. nat_eq x.key_id id) es e (sym there ∙ has.by_id))) tt)

  -- where it is of this sort and all are raw, the raw entries are all
  pub prfs_of_raw : (group : List (Entry K A D HD HE M P S St V)) → is_ok (as_prf e.primitive) ≡ true → list_all is_raw es ≡ true → group ≡ group_of groups [] → prfs_of id es ≡ converted prf_of group
  prfs_of_raw group sort raw raw_group =
      let all : group ≡ es = raw_group ∙ has.by_prefix [] ∙ filter_all is_raw es raw in
      ap (λ o. and_then (primary_prf o) (λ _. raw_prfs es)) (sym has.by_id ∙ there)
      ∙ past_ok (as_prf e.primitive) (raw_prfs es) sort
      ∙ rw raw (ap (converted prf_of) (sym all))
