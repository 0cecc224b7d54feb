use Rattle.std.proofs.Common.{ap, sym, ◌∙◌}
use Rattle.gcm.specs.Orders.{counted}
use Rattle.gcm.proofs.Counting.{last_counted}
use Rattle.gcm.proofs.order.counter_after.Goals as goal

pub returns-in-BigEndian : goal.returns-in-BigEndian
returns-in-BigEndian c =
    last_counted c.args.block.now c.copy_from_slice.new.self c.copy_from_slice-in-BigEndian.new.self c.from_be_bytes.result c.args.i c.told-block c.copy_from_slice.ensures.after c.from_be_bytes.ensures
    (c.copy_from_slice-in-BigEndian.ensures.after ∙ c.to_be_bytes.ensures) ∙ ap (λ order. counted order c.args.block.now c.args.i) (sym c.in-BigEndian.is)
