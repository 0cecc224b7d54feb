use Rattle.std.proofs.Common.{◌∙◌, refl}
use Rattle.tink_sets.specs.Entries.{entry_of, own_prefix}
use Rattle.tink_set_groups.specs.Groups.{group_of}
use Rattle.tink_set_groups.proofs.AddingFacts.{read_ends, some_behind}
use Rattle.tink_sets.proofs.primitive_set.PrimitiveSet.add.Goals as goal

pub newest-requires : goal.newest-requires
newest-requires g c =
    let own = own_prefix c.args.key.now in
    let before = group_of c.args.self.now.entries own in
    let entry = entry_of c.args.p c.args.key.now in
    let read = c.entries_for_prefix.result.now in
    record {
      some = some_behind read before entry
          (read_ends c.put_entry.new.self.entries c.as_slice.result.now own read before entry c.entries_for_prefix.ensures.value (c.as_slice.ensures ∙ c.in-Ok.ensures.value) c.in-Ok.ensures.newest);
    }

pub returns-in-Ok : goal.returns-in-Ok
returns-in-Ok g c =
    let own = own_prefix c.args.key.now in
    let before = group_of c.args.self.now.entries own in
    let entry = entry_of c.args.p c.args.key.now in (
      (refl, (λ _. tt), c.in-Ok.ensures.after),
      record {
        entry = c.newest.ensures.value before entry
            (read_ends c.put_entry.new.self.entries c.as_slice.result.now own c.entries_for_prefix.result.now before entry c.entries_for_prefix.ensures.value (c.as_slice.ensures ∙ c.in-Ok.ensures.value) c.in-Ok.ensures.newest);
        stands = c.in-Ok.ensures.stands;
        cause = tt;
        after = tt;
      },
    )

pub returns-in-Err : goal.returns-in-Err
returns-in-Err g c = ((refl, (λ _. tt), c.in-Err.ensures.after), record { entry = tt; stands = tt; cause = c.in-Err.ensures.cause; after = tt })
