use Rattle.std.proofs.Common.{◌≡◌, Result, subst, sym}
use Rattle.std.specs.Prelude.{OnErr, OnOk}
use Rattle.tink_io.specs.Answering.{Answers}
use Rattle.tink_io.specs.declared.error.TinkError.{TinkError}
use Rattle.tink_sets.specs.Entries.{entry_of, may_stand, own_prefix, prefix_of}
use Rattle.tink_set_groups.specs.Groups.{Adds, AddsLast, HaveSameGroups}
use Rattle.tink_sets.proofs.primitive_set.PrimitiveSet.put.Goals.{in-Ok, in-Err}
use Rattle.tink_sets.proofs.primitive_set.PrimitiveSet.put.Goals as goal

pub returns : goal.returns
returns g c =
    let key = c.args.key.now in
    let old = c.args.self.now in
    let new = c.put_entry.new.self in
    let entry = entry_of c.args.p key in
    let Said = λ (r : Result (Unit {0}) TinkError). record {
      answer : Answers r (may_stand key);
      ok : OnOk r (Adds (own_prefix key) entry old.entries new.entries);
      entries : OnOk r (AddsLast prefix_of entry old.entries new.entries);
      err : OnErr r (HaveSameGroups old.entries new.entries);
      primary : new.primary ≡ old.primary;
    } in
    elim c.match-put_entry.branch [
      | in-Ok w ↦ subst Said (sym w.result-is) (record {
        answer = w.in-Ok.ensures.stands;
        ok = w.in-Ok.ensures.after.1.0;
        entries = w.in-Ok.ensures.after.1.1;
        err = tt;
        primary = w.in-Ok.ensures.after.0;
      })
      | in-Err w ↦ subst Said (sym w.result-is) (record {
        answer = w.in-Err.ensures.cause;
        ok = tt;
        entries = tt;
        err = w.in-Err.ensures.after.1;
        primary = w.in-Err.ensures.after.0;
      })
    ]
