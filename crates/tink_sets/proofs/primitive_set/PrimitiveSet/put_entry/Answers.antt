use Rattle.std.proofs.Common.{refl, subst}
use Rattle.std.specs.Prelude.{OnOk}
use Rattle.std.proofs.lemmas.Result.{on_ok_weaker}
use Rattle.tink_sets.specs.Entries.{entry_of, own_prefix, prefix_of}
use Rattle.tink_set_groups.specs.Groups.{Adds}
use Rattle.tink_set_groups.proofs.AddingFacts.{after_adding, group_of-own}
use Rattle.tink_sets.proofs.primitive_set.PrimitiveSet.put_entry.Goals as goal

pub returns-in-Ok : goal.returns-in-Ok
returns-in-Ok g c =
    let old = c.args.self.now.entries in
    let new = c.put_by_key.new.groups in
    let own = own_prefix c.args.key.now in
    let of_key = entry_of c.args.p c.args.key.now in
    let adds = subst (λ e. OnOk c.put_by_key.result (Adds own e old new)) c.in-Ok.ensures.value c.put_by_key.ensures.ok in
    record {
      value = c.put_by_key.ensures.value;
      stands = c.put_by_key.ensures.stands;
      cause = c.put_by_key.ensures.cause;
      after = (refl, after_adding prefix_of of_key c.put_by_key.result old new adds c.put_by_key.ensures.err);
      newest = on_ok_weaker c.put_by_key.result (group_of-own own of_key old new) adds;
    }

pub returns-in-Err : goal.returns-in-Err
returns-in-Err g c = record { value = tt; stands = tt; cause = c.in-Err.ensures.cause; after = (refl, λ _. refl); newest = tt }
