use Rattle.std.proofs.Common.{refl, rules, arith, ap, subst, map, sym}
use Rattle.std.specs.Io.KnownBytes.{append_known}
use Rattle.stream_model.specs.Opening.{opening_key}
use Rattle.tink_streaming_keys.specs.StreamKinds.{key_in_set}
use Rattle.tink_streaming_aead.specs.Wrapped.{all_entries, keys_in}
use Rattle.tink_io.specs.Gathering.{OnlyGrows}
use Rattle.tink_io.specs.Outside.{Outside, outside_of}
use Rattle.tink_run.proofs.EndingSteps.{begins_as, early_ends, leaves_ended, leaves_sink_ended}
use Rattle.tink_rewrap.specs.Rewrapping.{LeavesOrBegins, RewrapEnds}
use Rattle.tink_rewrap.proofs.PassEndings.{begun_behind, begun_ends, rewrap_ends_as}
use Rattle.tink_run.specs.Run.{LeavesEnds, LeavesSinkItself}
use Rattle.tink_rewrap.proofs.rewrap.together.rewrap_together.Goals as goal

pub returns : goal.returns
returns g c = record {
  answer = (let got = g.K.Sink.got in
      let faults = g.K.Sink.faults in
      let left = g.S.Source.left in
      let reads = g.S.Source.faults in
      let first = c.new-gathered.result in
      let call = c.rewrap_between-answer in
      let then = call.new.sink in
      let last = c.end_call.new.sink in
      let keys = map (opening_key c.args.from_aad.now) (keys_in (all_entries c.args.from.now.entries)) in
      let old : Outside = outside_of left reads got faults c.args.source.now c.args.sink.now in
      let grows : OnlyGrows old.got (got then.sink.now) = subst (λ k. OnlyGrows (got k) (got then.sink.now)) c.new-gathered.ensures.sink call.ensures.sink.3 in
      let early = early_ends got faults (λ s. s.sink.now) (λ s. s.waiting.now.items) call.result c.end_call.result c.args.source.now call.new.source first then last.sink.now c.new-gathered.ensures.empty call.ensures.early c.end_call.ensures.still in
      subst (λ k. RewrapEnds keys (key_in_set c.args.to.now) c.args.to_aad.now c.args.draws.now call.new.draws old (outside_of left reads got faults call.new.source k) c.end_call.result) (search rules)
      (rewrap_ends_as keys (key_in_set c.args.to.now) c.args.to_aad.now c.args.draws.now call.new.draws (outside_of left reads (λ s. append_known (got s.sink.now) s.waiting.now.items) (λ s. faults s.sink.now) c.args.source.now first) old (left call.new.source) (reads call.new.source) (got then.sink.now) (append_known (got then.sink.now) then.waiting.now.items) (got last.sink.now) (faults then.sink.now) (faults last.sink.now) call.result c.end_call.result
      (begins_as got faults (left c.args.source.now) (reads c.args.source.now) first.sink.now c.args.sink.now first.waiting.now.items c.new-gathered.ensures.sink c.new-gathered.ensures.empty)
      call.ensures.answer c.end_call.ensures.ends grows c.end_call.ensures.grows (omega (arith, ap faults c.new-gathered.ensures.sink, call.ensures.later.writes)) c.end_call.ensures.later early
      (begun_ends got faults (λ s. s.sink.now) (λ s. s.waiting.now.items) keys (outside_of left reads (λ s. append_known (got s.sink.now) s.waiting.now.items) (λ s. faults s.sink.now) c.args.source.now first) old call.result c.end_call.result first then last.sink.now refl c.new-gathered.ensures.empty call.ensures.begun c.end_call.ensures.still)));
  order = c.rewrap_between-answer.ensures.order;
  early = (subst (λ k. LeavesEnds c.end_call.result c.args.source.now c.rewrap_between-answer.new.source c.args.sink.now k) (search rules)
      (leaves_ended (λ s. s.sink.now) (λ s. s.waiting.now.items) _ _ _ _ c.rewrap_between-answer.result c.end_call.result c.args.source.now c.rewrap_between-answer.new.source c.new-gathered.result c.rewrap_between-answer.new.sink c.args.sink.now c.end_call.new.sink.sink.now
      (sym c.new-gathered.ensures.sink) c.new-gathered.ensures.empty c.rewrap_between-answer.ensures.early c.end_call.ensures.still c.end_call.ensures.ends));
  unwritten = (subst (λ k. LeavesSinkItself c.end_call.result c.args.sink.now k) (search rules)
      (leaves_sink_ended (λ s. s.sink.now) (λ s. s.waiting.now.items) _ _ _ _ c.rewrap_between-answer.result c.end_call.result c.new-gathered.result c.rewrap_between-answer.new.sink c.args.sink.now c.end_call.new.sink.sink.now (sym c.new-gathered.ensures.sink)
      c.new-gathered.ensures.empty c.rewrap_between-answer.ensures.unwritten c.end_call.ensures.still c.end_call.ensures.ends));
  begun = (let got = g.K.Sink.got in
      let faults = g.K.Sink.faults in
      let left = g.S.Source.left in
      let reads = g.S.Source.faults in
      let first = c.new-gathered.result in
      let call = c.rewrap_between-answer in
      let keys = map (opening_key c.args.from_aad.now) (keys_in (all_entries c.args.from.now.entries)) in
      let old : Outside = outside_of left reads (λ s. append_known (got s.sink.now) s.waiting.now.items) (λ s. faults s.sink.now) c.args.source.now first in
      let mid : Outside = outside_of left reads (λ s. append_known (got s.sink.now) s.waiting.now.items) (λ s. faults s.sink.now) call.new.source call.new.sink in
      subst (λ k. LeavesOrBegins keys (outside_of left reads got faults c.args.source.now c.args.sink.now) c.end_call.result c.args.sink.now k) (search rules)
      (begun_behind (λ s. s.sink.now) (λ s. s.waiting.now.items) keys (key_in_set c.args.to.now) c.args.to_aad.now c.args.draws.now call.new.draws old mid call.result c.end_call.result first call.new.sink c.args.sink.now c.end_call.new.sink.sink.now
      (sym c.new-gathered.ensures.sink) c.new-gathered.ensures.empty call.ensures.begun call.ensures.answer c.end_call.ensures.still));
  later = search rules;
  source = c.rewrap_between-answer.ensures.source;
  sink = (subst (λ k. g.K.Sink.same c.args.sink.now k) (search rules)
      (g.met.K.Sink.same_trans _ _ _ (subst (λ k. g.K.Sink.same k c.rewrap_between-answer.new.sink.sink.now) c.new-gathered.ensures.sink c.rewrap_between-answer.ensures.sink.2) c.end_call.ensures.same));
}
