use Rattle.std.proofs.Common.{◌≡◌, ◌∙◌, ap, get_or, sym, arith}
use Rattle.gcm.specs.Multiples.{multiple}
use Rattle.gcm.proofs.FourBits.{once}
use Rattle.gcm.proofs.multiples.Multiples.new.Goals as goal

pub invariant_of-result : goal.invariant_of-result
invariant_of-result c =
    let t = c.make_table.result in
    let y = c.args.y in
    let own : get_or t 8 0 ≡ y = c.make_table.ensures 8 (omega arith) ∙ once y in
    λ n h. c.make_table.ensures n h ∙ ap (λ v. multiple v n) (sym own)
