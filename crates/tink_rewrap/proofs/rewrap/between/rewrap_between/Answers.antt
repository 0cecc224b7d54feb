use Rattle.std.proofs.Common.{rules, ◌≡◌, ◌+◌, Err, List, map, ap, sym, ◌∙◌, subst, vec_len, le_refl}
use Rattle.std.proofs.lemmas.Simd.{map-map}
use Rattle.stream_model.specs.Opening.{OpeningKey, opening_key}
use Rattle.tink_streaming_keys.specs.StreamKinds.{key_in_set}
use Rattle.tink_streaming_aead.specs.Wrapped.{all_entries, keys_in}
use Rattle.tink_streaming_aead.specs.DecryptReaders.{largest}
use Rattle.tink_run.specs.OpenReads.{room_under}
use Rattle.tink_io.specs.Outside.{Outside, outside_of}
use Rattle.tink_run.proofs.ReadsSteps.{same_largest}
use Rattle.tink_run.proofs.RunSteps.{leaves_same, leaves_sink_same}
use Rattle.tink_rewrap.specs.Rewrapping.{LeavesOrBegins, RewrapsUnder}
use Rattle.tink_rewrap.proofs.KeySteps.{leaves_or_begins_same, pass_leaves}
use Rattle.tink_rewrap.proofs.RewrapSteps.{not_prepared, passes_prepared}
use Rattle.tink_run.proofs.RoomFacts.{has_room, trial_takes}
use Rattle.tink_rewrap.proofs.rewrap.between.rewrap_between.Goals as goal

pub returns-in-Ok : goal.returns-in-Ok
returns-in-Ok g c = record {
  answer = (let aad = c.args.from_aad.now in
      let all = all_entries c.args.from.now.entries in
      let same : map (λ k. opening_key aad (key_in_set k.now)) c.deref-in-Ok.result.now ≡ map (opening_key aad) (keys_in all) =
      ap (map (λ k. opening_key aad (key_in_set k.now))) c.deref-in-Ok.ensures.value ∙ sym (map-map (λ e. opening_key aad (key_in_set e)) (λ k. k.now) c.in_ok-keys.keys.items)
      ∙ ap (map (λ e. opening_key aad (key_in_set e))) c.in_ok-keys.ensures.value ∙ sym (map-map (opening_key aad) key_in_set all)
      in
      let keys_are : map (λ k. key_in_set k.now) c.deref.result.now ≡ keys_in all =
      ap (map (λ k. key_in_set k.now)) c.deref.ensures.value ∙ sym (map-map key_in_set (λ k. k.now) c.in_ok-keys.keys.items) ∙ ap (map key_in_set) c.in_ok-keys.ensures.value
      in
      let room : vec_len c.in_ok-trial.trial.kept.buffer ≡ room_under (map (opening_key aad) (keys_in all)) =
      c.in_ok-trial.ensures.buffer ∙ c.room_of.ensures.value ∙ ap (λ ks. largest ks + 1) keys_are ∙ ap (λ n. n + 1) (same_largest aad (keys_in all))
      in
      let before : Outside = record { left = g.S.Source.left c.args.source.now; read_faults = g.S.Source.faults c.args.source.now; got = g.K.Sink.got c.args.sink.now; write_faults = g.K.Sink.faults c.args.sink.now } in
      let after : Outside = record { left = g.S.Source.left c.pass_under.new.source; read_faults = g.S.Source.faults c.pass_under.new.source; got = g.K.Sink.got c.pass_under.new.sink; write_faults = g.K.Sink.faults c.pass_under.new.sink } in
      subst (λ (ks : List OpeningKey). RewrapsUnder ks (key_in_set c.args.to.now) c.args.to_aad.now c.args.draws.now c.prepare_stream.new.draws before after c.pass_under.result) same
      (passes_prepared (key_in_set c.args.to.now) c.args.to_aad.now c.args.draws.now c.prepare_stream.new.draws _ _ _ _ _ _ _ c.in-Ok.ensures.answer _ _ before after c.pass_under.result
      (room ∙ ap room_under (sym same)) c.pass_under.ensures.answer));
  order = c.in_ok-keys.ensures.order;
  early = pass_leaves _ _ _ _ _ _ c.pass_under.result _ _ _ _ c.pass_under.ensures.answer;
  unwritten = c.pass_under.ensures.unwritten;
  begun = (let aad = c.args.from_aad.now in
      let all = all_entries c.args.from.now.entries in
      let same : map (λ k. opening_key aad (key_in_set k.now)) c.deref-in-Ok.result.now ≡ map (opening_key aad) (keys_in all) =
      ap (map (λ k. opening_key aad (key_in_set k.now))) c.deref-in-Ok.ensures.value ∙ sym (map-map (λ e. opening_key aad (key_in_set e)) (λ k. k.now) c.in_ok-keys.keys.items)
      ∙ ap (map (λ e. opening_key aad (key_in_set e))) c.in_ok-keys.ensures.value ∙ sym (map-map (opening_key aad) key_in_set all)
      in
      let before : Outside = record { left = g.S.Source.left c.args.source.now; read_faults = g.S.Source.faults c.args.source.now; got = g.K.Sink.got c.args.sink.now; write_faults = g.K.Sink.faults c.args.sink.now } in
      subst (λ (ks : List OpeningKey). LeavesOrBegins ks before c.pass_under.result c.args.sink.now c.pass_under.new.sink) same c.pass_under.ensures.begun);
  later = c.pass_under.ensures.later;
  source = c.pass_under.ensures.source;
  sink = c.pass_under.ensures.sink;
}

pub returns : goal.returns
returns g c = record {
  answer = not_prepared _ (key_in_set c.args.to.now) c.args.to_aad.now c.args.draws.now c.prepare_stream.new.draws _ c.in-Err.error.kind c.not_begun.result c.not_begun.ensures c.in-Err.ensures.answer;
  order = c.in_ok-keys.ensures.order;
  early = leaves_same (Err c.not_begun.result) c.args.source.now c.args.sink.now;
  unwritten = leaves_sink_same (Err c.not_begun.result) c.args.sink.now;
  begun = leaves_or_begins_same _ (outside_of g.S.Source.left g.S.Source.faults g.K.Sink.got g.K.Sink.faults c.args.source.now c.args.sink.now) (Err c.not_begun.result) c.args.sink.now;
  later = record { reads = le_refl _; writes = le_refl _ };
  source = g.met.S.Source.same_refl _;
  sink = g.met.K.Sink.same_refl _;
}

pub returns-in_err-keys : goal.returns-in_err-keys
returns-in_err-keys g c = record {
  answer = search rules;
  order = c.in_err-keys.ensures.order;
  early = leaves_same c.from_residual.result c.args.source.now c.args.sink.now;
  unwritten = leaves_sink_same c.from_residual.result c.args.sink.now;
  begun = leaves_or_begins_same _ (outside_of g.S.Source.left g.S.Source.faults g.K.Sink.got g.K.Sink.faults c.args.source.now c.args.sink.now) c.from_residual.result c.args.sink.now;
  later = record { reads = le_refl _; writes = le_refl _ };
  source = g.met.S.Source.same_refl _;
  sink = g.met.K.Sink.same_refl _;
}

pub returns-in_err-trial : goal.returns-in_err-trial
returns-in_err-trial g c = record {
  answer = search rules;
  order = c.in_ok-keys.ensures.order;
  early = leaves_same c.from_residual-in_err-trial.result c.args.source.now c.args.sink.now;
  unwritten = leaves_sink_same c.from_residual-in_err-trial.result c.args.sink.now;
  begun = leaves_or_begins_same _ (outside_of g.S.Source.left g.S.Source.faults g.K.Sink.got g.K.Sink.faults c.args.source.now c.args.sink.now) c.from_residual-in_err-trial.result c.args.sink.now;
  later = record { reads = le_refl _; writes = le_refl _ };
  source = g.met.S.Source.same_refl _;
  sink = g.met.K.Sink.same_refl _;
}

pub pass_under-requires-clause-trial : goal.pass_under-requires-clause-trial
pass_under-requires-clause-trial g c = (
  c.in_ok-trial.ensures.filled,
  has_room (λ k. key_in_set k.now) _ _ _ _ _ _ _ (c.deref.ensures.value ∙ sym c.deref-in-Ok.ensures.value) c.room_of.ensures.most
      c.in_ok-trial.ensures.buffer c.in_ok-trial.ensures.opened c.in_ok-trial.ensures.nonce c.in_ok-trial.ensures.prefix,
)

pub pass_under-requires-clause-stream : goal.pass_under-requires-clause-stream
pass_under-requires-clause-stream g c = (c.in-Ok.ensures.answer.is_open, c.in-Ok.ensures.answer.none_written, c.in-Ok.ensures.answer.none_held)

pub pass_under-requires-clause-memory : goal.pass_under-requires-clause-memory
pass_under-requires-clause-memory g c =
    trial_takes (λ k. key_in_set k.now) c.args.from_aad.now c.deref.result.now c.deref-in-Ok.result.now c.room_of.result _ (c.deref.ensures.value ∙ sym c.deref-in-Ok.ensures.value) c.room_of.ensures.value c.in_ok-trial.ensures.memory
