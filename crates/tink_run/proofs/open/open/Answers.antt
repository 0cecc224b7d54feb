use Rattle.std.proofs.Common.{rules, ◌≡◌, ◌+◌, ℕ, List, map, ap, sym, ◌∙◌, subst, vec_len, arith}
use Rattle.std.proofs.lemmas.Simd.{map-map}
use Rattle.stream_model.specs.Opening.{OpeningKey, opening_key}
use Rattle.tink_streaming_keys.specs.StreamKinds.{key_in_set}
use Rattle.tink_streaming_aead.specs.Wrapped.{all_entries, keys_in}
use Rattle.tink_streaming_aead.specs.DecryptReaders.{largest}
use Rattle.tink_run.specs.OpenReads.{ReadsWithin, room_under}
use Rattle.tink_run.specs.OpenSteps.{OpensUnder}
use Rattle.tink_io.specs.Outside.{Outside}
use Rattle.tink_run.proofs.OpenSteps.{leaves_under, opens_under}
use Rattle.tink_run.proofs.ReadsSteps.{same_largest}
use Rattle.tink_run.proofs.RunSteps.{leaves_same, leaves_sink_same}
use Rattle.tink_run.proofs.RoomFacts.{has_room, trial_takes}
use Rattle.tink_run.proofs.open.open.Goals as goal

pub returns : goal.returns
returns g c = record {
  answer = (let aad = c.args.aad.now in
      let all = all_entries c.args.set.now.entries in
      let same : map (λ k. opening_key aad (key_in_set k.now)) c.deref-2.result.now ≡ map (opening_key aad) (keys_in all) =
      ap (map (λ k. opening_key aad (key_in_set k.now))) c.deref-2.ensures.value ∙ sym (map-map (λ e. opening_key aad (key_in_set e)) (λ k. k.now) c.in_ok-keys.keys.items)
      ∙ ap (map (λ e. opening_key aad (key_in_set e))) c.in_ok-keys.ensures.value ∙ sym (map-map (opening_key aad) key_in_set all)
      in
      let before : Outside = record { left = g.S.Source.left c.args.source.now; read_faults = g.S.Source.faults c.args.source.now; got = g.K.Sink.got c.args.sink.now; write_faults = g.K.Sink.faults c.args.sink.now } in
      let after : Outside = record { left = g.S.Source.left c.open_under.new.source; read_faults = g.S.Source.faults c.open_under.new.source; got = g.K.Sink.got c.open_under.new.sink; write_faults = g.K.Sink.faults c.open_under.new.sink } in
      subst (λ (ks : List OpeningKey). OpensUnder ks before after c.open_under.result) same (opens_under _ before after c.open_under.result c.open_under.ensures.answer.0));
  read = (let aad = c.args.aad.now in
      let all = all_entries c.args.set.now.entries in
      let same : map (λ k. opening_key aad (key_in_set k.now)) c.deref-2.result.now ≡ map (opening_key aad) (keys_in all) =
      ap (map (λ k. opening_key aad (key_in_set k.now))) c.deref-2.ensures.value ∙ sym (map-map (λ e. opening_key aad (key_in_set e)) (λ k. k.now) c.in_ok-keys.keys.items)
      ∙ ap (map (λ e. opening_key aad (key_in_set e))) c.in_ok-keys.ensures.value ∙ sym (map-map (opening_key aad) key_in_set all)
      in
      let keys_are : map (λ k. key_in_set k.now) c.deref.result.now ≡ keys_in all =
      ap (map (λ k. key_in_set k.now)) c.deref.ensures.value ∙ sym (map-map key_in_set (λ k. k.now) c.in_ok-keys.keys.items) ∙ ap (map key_in_set) c.in_ok-keys.ensures.value
      in
      let room : vec_len c.in_ok-trial.trial.kept.buffer ≡ room_under (map (opening_key aad) (keys_in all)) =
      c.in_ok-trial.ensures.buffer ∙ c.room_of.ensures.value ∙ ap (λ ks. largest ks + 1) keys_are ∙ ap (λ n. n + 1) (same_largest aad (keys_in all))
      in
      let before : Outside = record { left = g.S.Source.left c.args.source.now; read_faults = g.S.Source.faults c.args.source.now; got = g.K.Sink.got c.args.sink.now; write_faults = g.K.Sink.faults c.args.sink.now } in
      let after : Outside = record { left = g.S.Source.left c.open_under.new.source; read_faults = g.S.Source.faults c.open_under.new.source; got = g.K.Sink.got c.open_under.new.sink; write_faults = g.K.Sink.faults c.open_under.new.sink } in
      subst (λ (n : ℕ). ReadsWithin n (map (opening_key aad) (keys_in all)) before after c.open_under.result) room
      (subst (λ (ks : List OpeningKey). ReadsWithin (vec_len c.in_ok-trial.trial.kept.buffer) ks before after c.open_under.result) same c.open_under.ensures.answer.1));
  order = c.in_ok-keys.ensures.order;
  early = leaves_under _ _ _ c.open_under.result _ _ _ _ c.open_under.ensures.answer.0;
  unwritten = c.open_under.ensures.unwritten;
  later = c.open_under.ensures.later;
  source = c.open_under.ensures.source;
  sink = c.open_under.ensures.sink;
}

pub returns-in_err-keys : goal.returns-in_err-keys
returns-in_err-keys g c = record {
  answer = search rules;
  read = search rules;
  order = c.in_err-keys.ensures.order;
  early = leaves_same c.from_residual.result c.args.source.now c.args.sink.now;
  unwritten = leaves_sink_same c.from_residual.result c.args.sink.now;
  later = record { reads = omega arith; writes = omega arith };
  source = g.met.S.Source.same_refl _;
  sink = g.met.K.Sink.same_refl _;
}

pub returns-in_err-trial : goal.returns-in_err-trial
returns-in_err-trial g c = record {
  answer = search rules;
  read = search rules;
  order = c.in_ok-keys.ensures.order;
  early = leaves_same c.from_residual-in_err-trial.result c.args.source.now c.args.sink.now;
  unwritten = leaves_sink_same c.from_residual-in_err-trial.result c.args.sink.now;
  later = record { reads = omega arith; writes = omega arith };
  source = g.met.S.Source.same_refl _;
  sink = g.met.K.Sink.same_refl _;
}

pub open_under-requires-clause-filled : goal.open_under-requires-clause-filled
open_under-requires-clause-filled g c = c.in_ok-trial.ensures.filled

pub open_under-requires-clause-room : goal.open_under-requires-clause-room
open_under-requires-clause-room g c =
    has_room (λ k. key_in_set k.now) _ _ _ _ _ _ _ (c.deref.ensures.value ∙ sym c.deref-2.ensures.value) c.room_of.ensures.most c.in_ok-trial.ensures.buffer
    c.in_ok-trial.ensures.opened c.in_ok-trial.ensures.nonce c.in_ok-trial.ensures.prefix

pub open_under-requires-clause-memory : goal.open_under-requires-clause-memory
open_under-requires-clause-memory g c =
    trial_takes (λ k. key_in_set k.now) c.args.aad.now c.deref.result.now c.deref-2.result.now c.room_of.result _ (c.deref.ensures.value ∙ sym c.deref-2.ensures.value) c.room_of.ensures.value c.in_ok-trial.ensures.memory
