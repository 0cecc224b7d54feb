use Rattle.std.proofs.Common.{refl, ◌/◌, length}
use Rattle.aes_block.proofs.RoundKeys.{schedule_of_new, view_of_new}
use Rattle.aes_block.proofs.schedule.Schedule.new.Goals as goal

pub invariant_of-result : goal.invariant_of-result
invariant_of-result c =
    record {
      schedule = schedule_of_new c.round_keys-round_keys.result c.expand-words.result c.args.key.now (length c.args.key.now / 4) c.requires refl c.round_keys-round_keys.ensures c.expand-words.ensures;
      of_keys = c.round_key_planes-planes.ensures;
    }

pub returns : goal.returns
returns c = view_of_new c.round_keys-round_keys.result c.expand-words.result c.args.key.now (length c.args.key.now / 4) c.requires refl c.round_keys-round_keys.ensures c.expand-words.ensures
