use Rattle.std.proofs.Common.{◌≡◌, ◌++◌, length, take, drop, ◌≤◌, ◌-◌}
use Rattle.cipher.specs.Buffers.{pick}
use Rattle.cipher_modes.specs.Steps.{run_of, state_after}
use Rattle.cipher_modes.proofs.contexts.run_in_parts.Given as goal

abbrev pub invariant-loop-at : goal.invariant-loop-at
invariant-loop-at g l = record {
  within : l.at ≤ length l.initial.output;
  so_far : l.output ≡ run_of g.K.RunsLanes.step l.initial.backend (take l.at (pick l.input l.initial.output)) ++ drop l.at l.initial.output;
  state : l.backend ≡ state_after g.K.RunsLanes.step l.initial.backend (take l.at (pick l.input l.initial.output));
  same_width : g.K.RunsLanes.lanes l.backend ≡ l.width;
}

abbrev pub decreases-loop-at : goal.decreases-loop-at
decreases-loop-at g l = length l.initial.output - l.at
