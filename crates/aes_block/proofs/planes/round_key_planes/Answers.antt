use Rattle.std.proofs.Common.{◌∙◌, arith, refl}
use Rattle.std.proofs.lemmas.List.{length-set}
use Rattle.aes_block.proofs.RoundKeyPlanes.{one_key_more}
use Rattle.aes_block.proofs.planes.round_key_planes.Goals as goal

pub each-init : goal.each-init
each-init c = record { size = refl; done = λ n l. absurd (omega arith) }

pub each-preserved : goal.each-preserved
each-preserved c = record {
  size = length-set c.each.planes c.each.r c.key_planes.result ∙ c.each.invariant.size;
  done = one_key_more c.args.keys.now c.each.planes c.key_planes.result c.each.r (omega (arith, c.each.invariant.size)) c.each.invariant.done c.key_planes.ensures;
}

pub returns : goal.returns
returns c n l = c.each.invariant.done n (omega arith)
