use Rattle.std.proofs.Common.{rules, ◌≡◌, Some, true, sym, subst}
use Rattle.std.specs.Prelude.{is_ok}
use Rattle.std.specs.List.{list_all}
use Rattle.tink_primitives.specs.Sorts.{as_prf}
use Rattle.tink_keysets.specs.Built.{GivesSet}
use Rattle.tink_prf.specs.Sets.{is_raw, prfs_of, HasPrfs}
use Rattle.tink_prf.proofs.SetSteps.{of_the_id, prfs_of_raw}
use Rattle.tink_prf.proofs.set_factory.prf_set.Goals as goal

pub returns : goal.returns
returns g c = λ id es has.
    let e = c.in-Some.primary in
    let set = c.args.set.now in
    let result = c.set_of_raw.result in
    let there : set.primary ≡ Some e = search rules in
    let sort : is_ok (as_prf e.primitive) ≡ true = search rules in
    let told : c.are_raw.result ≡ list_all is_raw es = c.are_raw.ensures es has.by_prefix in
    let passed : c.are_raw.result ≡ true = search rules in
    let raw : list_all is_raw es ≡ true = cc in
    let same = prfs_of_raw id es e set.primary set.entries has there c.raw_entries.result.now sort raw c.raw_entries.ensures.value in
    subst (λ i. GivesSet (HasPrfs i) result (prfs_of id es)) (of_the_id id es e set.primary set.entries has there)
    (subst (GivesSet (HasPrfs e.key_id) result) (sym same) c.set_of_raw.ensures)
