use Rattle.tink_set_groups.proofs.VecKeys.{groups_written}
use Rattle.tink_set_groups.proofs.groups.put_list.Goals as goal

pub returns-clause-ok : goal.returns-clause-ok
returns-clause-ok g c =
    groups_written c.args.prefix.now c.in_ok-key.key.items c.args.groups.now c.insert.new.self c.args.list (c.in_ok-key.ensures.items_if_clones_equal (λ x y e. e)) c.in_ok-insert.ensures.updates
