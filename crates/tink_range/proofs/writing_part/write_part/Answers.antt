use Rattle.std.proofs.Common.{◌-◌, length, ap, sym, subst, ◌∙◌}
use Rattle.std.specs.Io.KnownBytes.{Appends}
use Rattle.tink_io.specs.Written.{AppendsPrefix}
use Rattle.tink_range.proofs.SliceFacts.{part_is, part_length}
use Rattle.tink_range.proofs.writing_part.write_part.Goals as goal

pub returns-in-Ok-clause-written : goal.returns-in-Ok-clause-written
returns-in-Ok-clause-written g c =
    let part = part_is c.args.lo c.args.hi c.args.at _ _ c.args.text.now c.saturating_sub-from.ensures c.min-to.ensures c.requires.range c.requires.touched in
    subst (Appends (g.K.Sink.got c.args.sink.now) (g.K.Sink.got c.write_all.new.sink)) part c.in-Ok.ensures.written

pub returns-in-Err-clause-prefix : goal.returns-in-Err-clause-prefix
returns-in-Err-clause-prefix g c =
    let part = part_is c.args.lo c.args.hi c.args.at _ _ c.args.text.now c.saturating_sub-from.ensures c.min-to.ensures c.requires.range c.requires.touched in
    subst (AppendsPrefix (g.K.Sink.got c.args.sink.now) (g.K.Sink.got c.write_all.new.sink)) part c.in-Err.ensures.prefix

pub returns-in-Ok-clause-count : goal.returns-in-Ok-clause-count
returns-in-Ok-clause-count g c =
    let part = part_is c.args.lo c.args.hi c.args.at _ _ c.args.text.now c.saturating_sub-from.ensures c.min-to.ensures c.requires.range c.requires.touched in
    sym (part_length _ _ (c.args.hi - c.args.at) c.args.text.now c.min-to.ensures) ∙ ap length part
