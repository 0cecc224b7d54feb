use Rattle.std.proofs.Common.{◌≡◌, Some, rules, subst, sym}
use Rattle.std.specs.Prelude.{OnErr, OnOk}
use Rattle.std.specs.BTreeMap.{get_by}
use Rattle.std.specs.Ordering.{nat_cmp}
use Rattle.std.specs.Cmp.Lexicographic.{slice_cmp}
use Rattle.std.proofs.lemmas.Result.{err_from_is_err_and}
use Rattle.tink_set_groups.specs.Groups.{Adds, HaveSameGroups}
use Rattle.tink_set_groups.proofs.VecKeys.{groups_pushed, groups_same}
use Rattle.tink_set_groups.proofs.groups.put_in_group.Goals as goal

pub returns-in_ok-push-in-Some-clause-ok : goal.returns-in_ok-push-in-Some-clause-ok
returns-in_ok-push-in-Some-clause-ok g c =
    let found : get_by (λ k. slice_cmp nat_cmp c.args.prefix.now k.items) c.args.groups.now ≡ Some c.in-Some.group.now = sym c.in-Some.ensures.value in
    let written = (c.get_mut.follows.holds c.push.new.self).3 (search rules) in
    groups_pushed c.args.prefix.now c.args.groups.now (c.get_mut.follows.lender c.push.new.self) c.in-Some.group.now c.push.new.self c.args.entry found c.in_ok-push-in-Some.ensures.ok written

pub returns-in_err-push-in-Some-clause-err : goal.returns-in_err-push-in-Some-clause-err
returns-in_err-push-in-Some-clause-err g c =
    let p = err_from_is_err_and c.from_residual.result c.from_residual.ensures.1 in
    let found : get_by (λ k. slice_cmp nat_cmp c.args.prefix.now k.items) c.args.groups.now ≡ Some c.in-Some.group.now = sym c.in-Some.ensures.value in
    let written = (c.get_mut.follows.holds c.push.new.self).3 (search rules) in
    rw p.1 (groups_same c.args.prefix.now c.args.groups.now (c.get_mut.follows.lender c.push.new.self) c.in-Some.group.now c.push.new.self found c.in_err-push-in-Some.ensures.err written)

pub returns-in-None : goal.returns-in-None
returns-in-None g c =
    let was = c.get_mut.follows.holds-at-none in
    record {
      ok = subst (λ m. OnOk c.begin_group.result (Adds c.args.prefix.now c.args.entry m c.begin_group.new.groups)) was c.begin_group.ensures.ok;
      err = subst (λ m. OnErr c.begin_group.result (HaveSameGroups m c.begin_group.new.groups)) was c.begin_group.ensures.err;
      cause = c.begin_group.ensures.cause;
    }
