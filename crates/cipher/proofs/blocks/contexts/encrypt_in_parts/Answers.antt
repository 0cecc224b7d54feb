use Rattle.std.proofs.Common.{arith}
use Rattle.cipher.proofs.Parts.{map_next, map_last}
use Rattle.cipher.proofs.blocks.contexts.encrypt_in_parts.Goals as goal

pub loop-at-preserved : goal.loop-at-preserved
loop-at-preserved g c =
    record {
      within = omega arith;
      so_far = map_next (g.K.BlockCipherEncBackend.encrypts c.args.backend.now) c.args.input.now c.args.output.now _ _ _ c.loop-at.at c.width-width.result (omega arith)
          c.loop-at.invariant.so_far c.part_of.ensures.value c.encrypt_par.ensures.value;
    }

pub returns : goal.returns
returns g c =
    record {
      value = map_last (g.K.BlockCipherEncBackend.encrypts c.args.backend.now) c.args.input.now c.args.output.now _ _ _ c.loop-at.at c.loop-at.invariant.within c.loop-at.auto.output
          c.loop-at.invariant.so_far c.part_of-2.ensures.value c.encrypt_tail.ensures.value;
    }
