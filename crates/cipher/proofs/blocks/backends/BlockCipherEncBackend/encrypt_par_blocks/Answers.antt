use Rattle.cipher.proofs.Parts.{map_done, map_place, map_within}
use Rattle.cipher.proofs.blocks.backends.BlockCipherEncBackend.encrypt_par_blocks.Goals as goal

pub loop-i-preserved : goal.loop-i-preserved
loop-i-preserved g c =
    let so_far = c.loop-i.invariant in
    let f = g.Self.BlockCipherEncBackend.encrypts c.args.self.now in
    let place =
    map_place f c.args.blocks.now.input c.loop-i.blocks.input c.args.blocks.now.output.now c.loop-i.blocks.output.now _ _ _ c.loop-i.i c.loop-i-test.true so_far.input so_far.so_far c.part_of-input.ensures.value c.encrypt_block.ensures.value in
    record { kept = so_far.kept; input = so_far.input; so_far = place }

pub bounds-blocks-i : goal.bounds-blocks-i
bounds-blocks-i g c =
    map_within (g.Self.BlockCipherEncBackend.encrypts c.args.self.now) c.args.blocks.now.input.now c.args.blocks.now.output.now c.loop-i.blocks.output.now c.loop-i.i c.loop-i-test.true c.loop-i.invariant.so_far

pub returns : goal.returns
returns g c =
    let so_far = c.loop-i.invariant in
    record {
      kept = so_far.kept;
      reads = so_far.input;
      value = map_done (g.Self.BlockCipherEncBackend.encrypts c.args.self.now) c.args.blocks.now.input.now c.args.blocks.now.output.now c.loop-i.blocks.output.now c.loop-i.i c.loop-i-test.false so_far.so_far;
    }
