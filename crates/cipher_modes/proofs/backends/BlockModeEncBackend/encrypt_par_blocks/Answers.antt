use Rattle.cipher_modes.proofs.RunLemmas.{place-within, place-next, outputs-all, state-all}
use Rattle.cipher_modes.proofs.backends.BlockModeEncBackend.encrypt_par_blocks.Goals as goal

pub bounds-blocks-i : goal.bounds-blocks-i
bounds-blocks-i g c = place-within g.Self.BlockModeEncBackend.step c.args.self.now c.args.blocks.now.input.now c.args.blocks.now.output.now c.loop-i.blocks.output.now c.loop-i.i c.loop-i-test.true c.loop-i.invariant.so_far

pub loop-i-preserved : goal.loop-i-preserved
loop-i-preserved g c =
    let s = c.loop-i.invariant in
    let next = place-next g.Self.BlockModeEncBackend.step c.args.self.now c.loop-i.self _ c.args.blocks.now.input c.loop-i.blocks.input c.args.blocks.now.output.now c.loop-i.blocks.output.now _ _ _ c.loop-i.i c.loop-i-test.true s.input s.so_far s.state c.part_of-input.ensures.value c.encrypt_block.ensures.value c.encrypt_block.ensures.stepped in
    record { kept = s.kept; input = s.input; so_far = next.0; state = next.1 }

pub returns-clause-value : goal.returns-clause-value
returns-clause-value g c = outputs-all g.Self.BlockModeEncBackend.step c.args.self.now c.args.blocks.now.input.now c.args.blocks.now.output.now c.loop-i.blocks.output.now c.loop-i.i c.loop-i-test.false c.loop-i.invariant.so_far

pub returns-clause-stepped : goal.returns-clause-stepped
returns-clause-stepped g c = state-all g.Self.BlockModeEncBackend.step c.args.self.now c.loop-i.self c.args.blocks.now.input.now c.args.blocks.now.output.now c.loop-i.i c.loop-i-test.false c.loop-i.invariant.state
