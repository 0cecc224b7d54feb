use Rattle.std.proofs.Common.{rules, arith, ap, subst, sym}
use Rattle.tink_io.specs.Gathering.{OnlyGrows}
use Rattle.tink_streaming_keys.specs.StreamKinds.{key_in_set}
use Rattle.tink_run.specs.SealSteps.{SealsUnder}
use Rattle.tink_io.specs.Outside.{Outside, outside_of}
use Rattle.tink_run.proofs.EndingSteps.{begins_as, early_ends, ends_as, seals_ended, leaves_ended}
use Rattle.tink_run.specs.Run.{LeavesEnds}
use Rattle.tink_run.proofs.together.seal_together.Goals as goal

pub returns : goal.returns
returns g c = record {
  answer = (let got = g.K.Sink.got in
      let faults = g.K.Sink.faults in
      let left = g.S.Source.left in
      let reads = g.S.Source.faults in
      let first = c.new-gathered.result in
      let then = c.seal-answer.new.sink in
      let last = c.end_call.new.sink in
      let old : Outside = outside_of left reads got faults c.args.source.now c.args.sink.now in
      let same = c.seal-answer.ensures.sink in
      let grows : OnlyGrows old.got (got then.sink.now) = subst (λ k. OnlyGrows (got k) (got then.sink.now)) c.new-gathered.ensures.sink same.3 in
      let early = early_ends got faults (λ s. s.sink.now) (λ s. s.waiting.now.items) c.seal-answer.result c.end_call.result c.args.source.now c.seal-answer.new.source first then last.sink.now c.new-gathered.ensures.empty c.seal-answer.ensures.early c.end_call.ensures.still in
      subst (λ k. SealsUnder (key_in_set c.args.key.now) c.args.aad.now c.args.draws.now c.seal-answer.new.draws old (outside_of left reads got faults c.seal-answer.new.source k) c.end_call.result) (search rules)
      (seals_ended (key_in_set c.args.key.now) c.args.aad.now c.args.draws.now c.seal-answer.new.draws old (outside_of left reads got faults c.seal-answer.new.source last.sink.now) c.end_call.result
      (ends_as (SealsUnder (key_in_set c.args.key.now) c.args.aad.now c.args.draws.now c.seal-answer.new.draws) _ old (left c.seal-answer.new.source) (reads c.seal-answer.new.source) (got then.sink.now) _ (got last.sink.now) (faults then.sink.now) (faults last.sink.now) c.seal-answer.result c.end_call.result
      (begins_as got faults (left c.args.source.now) (reads c.args.source.now) first.sink.now c.args.sink.now first.waiting.now.items c.new-gathered.ensures.sink c.new-gathered.ensures.empty)
      c.seal-answer.ensures.answer c.end_call.ensures.ends grows c.end_call.ensures.grows (omega (arith, ap faults c.new-gathered.ensures.sink, c.seal-answer.ensures.later.writes)) c.end_call.ensures.later early)));
  early = (subst (λ k. LeavesEnds c.end_call.result c.args.source.now c.seal-answer.new.source c.args.sink.now k) (search rules)
      (leaves_ended (λ s. s.sink.now) (λ s. s.waiting.now.items) _ _ _ _ c.seal-answer.result c.end_call.result c.args.source.now c.seal-answer.new.source c.new-gathered.result c.seal-answer.new.sink c.args.sink.now c.end_call.new.sink.sink.now
      (sym c.new-gathered.ensures.sink) c.new-gathered.ensures.empty c.seal-answer.ensures.early c.end_call.ensures.still c.end_call.ensures.ends));
  later = search rules;
  source = c.seal-answer.ensures.source;
  sink = (subst (λ k. g.K.Sink.same c.args.sink.now k) (search rules)
      (g.met.K.Sink.same_trans _ _ _ (subst (λ k. g.K.Sink.same k c.seal-answer.new.sink.sink.now) c.new-gathered.ensures.sink c.seal-answer.ensures.sink.2) c.end_call.ensures.same));
}
