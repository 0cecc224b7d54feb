use Rattle.std.proofs.Common.{sym, ◌∙◌, arith}
use Rattle.standards.proofs.ListFacts.{map_by_index}
use Rattle.hash_keys.proofs.hmac.xor_byte.Goals as goal

pub returns : goal.returns
returns c = map_by_index _ _ _ (c.loop-i.invariant.size ∙ sym c.told-block) (λ k h. c.loop-i.invariant.done k (omega arith))
