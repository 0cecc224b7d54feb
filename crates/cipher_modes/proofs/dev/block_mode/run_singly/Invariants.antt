use Rattle.std.proofs.Common.{◌≡◌, ◌++◌, take, drop}
use Rattle.cipher_modes.specs.Steps.{run_of, state_after}
use Rattle.cipher_modes.proofs.dev.block_mode.run_singly.Given as goal

abbrev pub invariant-loop-i : goal.invariant-loop-i
invariant-loop-i g l = record {
  so_far : l.blocks ≡ run_of g.M.Runs.step l.initial.mode (take l.i l.initial.blocks) ++ drop l.i l.initial.blocks;
  state : l.mode ≡ state_after g.M.Runs.step l.initial.mode (take l.i l.initial.blocks);
}
