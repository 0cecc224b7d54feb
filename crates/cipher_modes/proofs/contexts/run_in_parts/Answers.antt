use Rattle.std.proofs.Common.{◌+◌, ◌-◌, length, take, drop, sym, refl, arith}
use Rattle.std.proofs.lemmas.List.{take_rest}
use Rattle.cipher.specs.Buffers.{pick}
use Rattle.cipher_modes.proofs.RunLemmas.{outputs-next, state-next, outputs-last, state-last, width-next, nearer, none_before}
use Rattle.cipher_modes.proofs.contexts.run_in_parts.Goals as goal

pub loop-at-preserved : goal.loop-at-preserved
loop-at-preserved g c =
    record {
      within = omega arith;
      so_far = outputs-next g.K.RunsLanes.step c.args.backend.now c.loop-at.backend c.args.input.now c.args.output.now _ _ _ c.loop-at.at c.args.width _ (omega arith) (omega arith)
          c.loop-at.invariant.so_far c.loop-at.invariant.state c.part_of.ensures.value c.run_lanes.ensures.value;
      state = state-next g.K.RunsLanes.step c.args.backend.now c.loop-at.backend _ c.args.input.now c.args.output.now c.loop-at.output _ c.loop-at.at c.args.width (c.loop-at.at + c.args.width - c.loop-at.at) (omega arith) (omega arith)
          c.loop-at.invariant.so_far c.loop-at.invariant.state c.part_of.ensures.value c.run_lanes.ensures.stepped;
      same_width = width-next g.K.RunsLanes.step g.K.RunsLanes.lanes g.met.K.RunsLanes.same_width c.loop-at.backend _ (pick c.part_of.result.now (take (c.loop-at.at + c.args.width - c.loop-at.at) (drop c.loop-at.at c.loop-at.output))) _ c.run_lanes.ensures.stepped c.loop-at.invariant.same_width;
    }

pub returns-clause-value : goal.returns-clause-value
returns-clause-value g c =
    outputs-last g.K.RunsLanes.step c.args.backend.now c.loop-at.backend c.args.input.now c.args.output.now _ _ _ _ _ c.loop-at.invariant.within c.loop-at.auto.output
    c.loop-at.invariant.so_far c.loop-at.invariant.state c.part_of-2.ensures.value (take_rest c.loop-at.output c.loop-at.at) c.run_tail.ensures.value

pub returns-clause-stepped : goal.returns-clause-stepped
returns-clause-stepped g c =
    state-last g.K.RunsLanes.step c.args.backend.now c.loop-at.backend _ c.args.input.now c.args.output.now c.loop-at.output _ _ c.loop-at.at c.loop-at.invariant.within c.loop-at.auto.output
    c.loop-at.invariant.so_far c.loop-at.invariant.state c.part_of-2.ensures.value (take_rest c.loop-at.output c.loop-at.at) c.run_tail.ensures.stepped

pub loop-at-init : goal.loop-at-init
loop-at-init g c = record { within = none_before c.args.output.now; so_far = refl; state = refl; same_width = sym c.requires.at_a_time }

pub loop-at-smaller : goal.loop-at-smaller
loop-at-smaller g c = nearer (length c.args.output.now) c.loop-at.at c.args.width c.requires.some c.loop-at-test.true
