use Rattle.std.proofs.Common.{arith}
use Rattle.cipher.proofs.Parts.{read_again}
use Rattle.cipher_modes.proofs.SinglyLemmas.{singly-output, singly-state, singly-all, singly-all_state}
use Rattle.cipher_modes.proofs.dev.block_mode.run_singly.Goals as goal

pub loop-i-preserved : goal.loop-i-preserved
loop-i-preserved g c =
    let step = g.M.Runs.step in
    let start = c.args.mode.now in
    let i = c.loop-i.i in
    let old = c.args.blocks.now in
    let cur = c.loop-i.blocks in
    let so_far = c.loop-i.invariant in
    record {
      so_far = singly-output step start c.loop-i.mode old cur _ _ i c.loop-i-test.true so_far.so_far so_far.state (read_again cur i _ (omega arith)) c.run_block.ensures.value;
      state = singly-state step start c.loop-i.mode _ old cur _ i c.loop-i-test.true so_far.so_far so_far.state (read_again cur i _ (omega arith)) c.run_block.ensures.stepped;
    }

pub returns-clause-value : goal.returns-clause-value
returns-clause-value g c = singly-all g.M.Runs.step c.args.mode.now c.args.blocks.now c.loop-i.blocks c.loop-i.i c.loop-i-test.false c.loop-i.invariant.so_far

pub returns-clause-stepped : goal.returns-clause-stepped
returns-clause-stepped g c = singly-all_state g.M.Runs.step c.args.mode.now c.loop-i.mode c.args.blocks.now c.loop-i.i c.loop-i-test.false c.loop-i.invariant.state
