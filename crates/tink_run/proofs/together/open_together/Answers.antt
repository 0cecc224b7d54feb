use Rattle.std.proofs.Common.{rules, arith, ap, subst, map, sym}
use Rattle.tink_io.specs.Gathering.{OnlyGrows}
use Rattle.stream_model.specs.Opening.{opening_key}
use Rattle.tink_streaming_aead.specs.Wrapped.{all_entries, keys_in}
use Rattle.tink_run.specs.OpenReads.{OpensReading}
use Rattle.tink_run.specs.Endings.{EndsAs}
use Rattle.tink_io.specs.Outside.{Outside, outside_of}
use Rattle.tink_run.proofs.EndingSteps.{begins_as, early_ends, ends_as, leaves_ended, leaves_sink_ended}
use Rattle.tink_run.specs.Run.{LeavesEnds, LeavesSinkItself}
use Rattle.tink_run.proofs.together.open_together.Goals as goal

pub returns : goal.returns
returns g c = record {
  answer = (let got = g.K.Sink.got in
      let faults = g.K.Sink.faults in
      let left = g.S.Source.left in
      let reads = g.S.Source.faults in
      let first = c.new-gathered.result in
      let then = c.open-answer.new.sink in
      let last = c.end_call.new.sink in
      let old : Outside = outside_of left reads got faults c.args.source.now c.args.sink.now in
      let same = c.open-answer.ensures.sink in
      let grows : OnlyGrows old.got (got then.sink.now) = subst (λ k. OnlyGrows (got k) (got then.sink.now)) c.new-gathered.ensures.sink same.3 in
      let early = early_ends got faults (λ s. s.sink.now) (λ s. s.waiting.now.items) c.open-answer.result c.end_call.result c.args.source.now c.open-answer.new.source first then last.sink.now c.new-gathered.ensures.empty c.open-answer.ensures.early c.end_call.ensures.still in
      subst (λ k. EndsAs (OpensReading (map (opening_key c.args.aad.now) (keys_in (all_entries c.args.set.now.entries))) old) old (outside_of left reads got faults c.open-answer.new.source k) c.end_call.result) (search rules)
      (ends_as (OpensReading (map (opening_key c.args.aad.now) (keys_in (all_entries c.args.set.now.entries)))) _ old (left c.open-answer.new.source) (reads c.open-answer.new.source) (got then.sink.now) _ (got last.sink.now) (faults then.sink.now) (faults last.sink.now) c.open-answer.result c.end_call.result
      (begins_as got faults (left c.args.source.now) (reads c.args.source.now) first.sink.now c.args.sink.now first.waiting.now.items c.new-gathered.ensures.sink c.new-gathered.ensures.empty)
      (c.open-answer.ensures.answer, c.open-answer.ensures.read) c.end_call.ensures.ends grows c.end_call.ensures.grows (omega (arith, ap faults c.new-gathered.ensures.sink, c.open-answer.ensures.later.writes)) c.end_call.ensures.later early));
  order = c.open-answer.ensures.order;
  early = (subst (λ k. LeavesEnds c.end_call.result c.args.source.now c.open-answer.new.source c.args.sink.now k) (search rules)
      (leaves_ended (λ s. s.sink.now) (λ s. s.waiting.now.items) _ _ _ _ c.open-answer.result c.end_call.result c.args.source.now c.open-answer.new.source c.new-gathered.result c.open-answer.new.sink c.args.sink.now c.end_call.new.sink.sink.now
      (sym c.new-gathered.ensures.sink) c.new-gathered.ensures.empty c.open-answer.ensures.early c.end_call.ensures.still c.end_call.ensures.ends));
  unwritten = (subst (λ k. LeavesSinkItself c.end_call.result c.args.sink.now k) (search rules)
      (leaves_sink_ended (λ s. s.sink.now) (λ s. s.waiting.now.items) _ _ _ _ c.open-answer.result c.end_call.result c.new-gathered.result c.open-answer.new.sink c.args.sink.now c.end_call.new.sink.sink.now (sym c.new-gathered.ensures.sink)
      c.new-gathered.ensures.empty c.open-answer.ensures.unwritten c.end_call.ensures.still c.end_call.ensures.ends));
  later = search rules;
  source = c.open-answer.ensures.source;
  sink = (subst (λ k. g.K.Sink.same c.args.sink.now k) (search rules)
      (g.met.K.Sink.same_trans _ _ _ (subst (λ k. g.K.Sink.same k c.open-answer.new.sink.sink.now) c.new-gathered.ensures.sink c.open-answer.ensures.sink.2) c.end_call.ensures.same));
}
