use Rattle.std.proofs.Common.{rules, inl, ◌≡◌, ℕ, List, map, ap, sym, ◌∙◌, subst, le_refl}
use Rattle.std.proofs.lemmas.Simd.{map-map}
use Rattle.stream_model.specs.Opening.{OpeningKey, opening_key}
use Rattle.tink_streaming_keys.specs.StreamKinds.{key_in_set}
use Rattle.tink_streaming_aead.specs.Wrapped.{all_entries, keys_in}
use Rattle.tink_range.specs.ChunkReading.{Moments, ends_of}
use Rattle.tink_range.specs.KeyRanges.{TakesRangeSteps}
use Rattle.tink_range.specs.ReadCounts.{TakesRangeBytes}
use Rattle.tink_range.proofs.TakenFacts.{none_taken}
use Rattle.tink_run.specs.OpenReads.{room_under}
use Rattle.tink_rewrap.specs.SetRanges.{RangesOf}
use Rattle.tink_rewrap.proofs.SetSteps.{ranges_of, unwritten_of, leaves_same, leaves_under, unwritten_same}
use Rattle.tink_run.proofs.RoomFacts.{has_room, room_is, trial_takes}
use Rattle.tink_rewrap.proofs.ranges.of_set.range_of_set.Goals as goal

pub returns : goal.returns
returns g c = record {
  answer = (let aad = c.args.aad.now in
      let all = all_entries c.args.set.now.entries in
      let whole = g.A.ReadAt.length_of c.args.object.now in
      let same : map (λ k. opening_key aad (key_in_set k.now)) c.deref-2.result.now ≡ map (opening_key aad) (keys_in all) =
      ap (map (λ k. opening_key aad (key_in_set k.now))) c.deref-2.ensures.value ∙ sym (map-map (λ e. opening_key aad (key_in_set e)) (λ k. k.now) c.in_ok-keys.keys.items)
      ∙ ap (map (λ e. opening_key aad (key_in_set e))) c.in_ok-keys.ensures.value ∙ sym (map-map (opening_key aad) key_in_set all)
      in
      let e : Moments (g.row.K.Denot) = ends_of g.A.ReadAt.bytes g.A.ReadAt.faults c.args.object.now c.range_within.new.object c.args.sink.now c.range_within.new.sink in
      subst (λ (ks : List OpeningKey). RangesOf g.K.Sink.got g.K.Sink.faults ks whole c.args.start c.args.len e c.range_within.result) same
      (ranges_of g.K.Sink.got g.K.Sink.faults _ whole c.args.start c.args.len e c.range_within.result c.range_within.ensures.answer));
  ticks = (let aad = c.args.aad.now in
      let all = all_entries c.args.set.now.entries in
      let told = g.A.ReadAt.bytes c.args.object.now in
      let whole = g.A.ReadAt.length_of c.args.object.now in
      let same : map (λ k. opening_key aad (key_in_set k.now)) c.deref-2.result.now ≡ map (opening_key aad) (keys_in all) =
      ap (map (λ k. opening_key aad (key_in_set k.now))) c.deref-2.ensures.value ∙ sym (map-map (λ e. opening_key aad (key_in_set e)) (λ k. k.now) c.in_ok-keys.keys.items)
      ∙ ap (map (λ e. opening_key aad (key_in_set e))) c.in_ok-keys.ensures.value ∙ sym (map-map (opening_key aad) key_in_set all)
      in
      subst (λ (ks : List OpeningKey). TakesRangeSteps ks told whole c.args.start c.args.len c.args.steps.now c.range_within.new.steps) same c.range_within.ensures.ticks);
  taken = (let aad = c.args.aad.now in
      let all = all_entries c.args.set.now.entries in
      let told = g.A.ReadAt.bytes c.args.object.now in
      let whole = g.A.ReadAt.length_of c.args.object.now in
      let before = g.A.ReadAt.taken c.args.object.now in
      let now = g.A.ReadAt.taken c.range_within.new.object in
      let same : map (λ k. opening_key aad (key_in_set k.now)) c.deref-2.result.now ≡ map (opening_key aad) (keys_in all) =
      ap (map (λ k. opening_key aad (key_in_set k.now))) c.deref-2.ensures.value ∙ sym (map-map (λ e. opening_key aad (key_in_set e)) (λ k. k.now) c.in_ok-keys.keys.items)
      ∙ ap (map (λ e. opening_key aad (key_in_set e))) c.in_ok-keys.ensures.value ∙ sym (map-map (opening_key aad) key_in_set all)
      in
      let room = c.in_ok-trial.ensures.buffer ∙ room_is (λ k. key_in_set k.now) aad c.deref.result.now c.deref-2.result.now c.room_of.result (c.deref.ensures.value ∙ sym c.deref-2.ensures.value) c.room_of.ensures.value in
      subst (λ (ks : List OpeningKey). TakesRangeBytes ks told whole c.args.start c.args.len (room_under ks) before now) same
      (subst (λ (n : ℕ). TakesRangeBytes (map (λ k. opening_key aad (key_in_set k.now)) c.deref-2.result.now) told whole c.args.start c.args.len n before now) room c.range_within.ensures.taken));
  order = c.in_ok-keys.ensures.order;
  early = (let e : Moments (g.row.K.Denot) = ends_of g.A.ReadAt.bytes g.A.ReadAt.faults c.args.object.now c.range_within.new.object c.args.sink.now c.range_within.new.sink in
      leaves_under g.K.Sink.got g.K.Sink.faults _ (g.A.ReadAt.length_of c.args.object.now) c.args.start c.args.len e c.range_within.result _ _ _ _ c.range_within.ensures.answer);
  unwritten = (let whole = g.A.ReadAt.length_of c.args.object.now in
      let e : Moments (g.row.K.Denot) = ends_of g.A.ReadAt.bytes g.A.ReadAt.faults c.args.object.now c.range_within.new.object c.args.sink.now c.range_within.new.sink in
      unwritten_of g.K.Sink.got g.K.Sink.faults _ whole c.args.start c.args.len e c.range_within.result
      (ranges_of g.K.Sink.got g.K.Sink.faults _ whole c.args.start c.args.len e c.range_within.result c.range_within.ensures.answer));
  kept = c.range_within.ensures.kept;
  later = c.range_within.ensures.later;
  object = c.range_within.ensures.object;
  sink = c.range_within.ensures.sink;
}

pub range_within-requires : goal.range_within-requires
range_within-requires g c =
    record {
      memory = trial_takes (λ k. key_in_set k.now) c.args.aad.now c.deref.result.now c.deref-2.result.now c.room_of.result _ (c.deref.ensures.value ∙ sym c.deref-2.ensures.value) c.room_of.ensures.value c.in_ok-trial.ensures.memory;
      room = has_room (λ k. key_in_set k.now) _ _ _ _ _ _ _ (c.deref.ensures.value ∙ sym c.deref-2.ensures.value) c.room_of.ensures.most c.in_ok-trial.ensures.buffer
          c.in_ok-trial.ensures.opened c.in_ok-trial.ensures.nonce c.in_ok-trial.ensures.prefix;
    }

pub returns-in_err-keys : goal.returns-in_err-keys
returns-in_err-keys g c = record {
  answer = search rules;
  ticks = search rules;
  taken = inl (none_taken _ _);
  order = c.in_err-keys.ensures.order;
  early = leaves_same c.from_residual.result c.args.object.now c.args.sink.now;
  unwritten = unwritten_same c.from_residual.result c.args.sink.now;
  kept = search rules;
  later = le_refl _;
  object = g.met.A.ReadAt.same_refl _;
  sink = g.met.K.Sink.same_refl _;
}

pub returns-in_err-trial : goal.returns-in_err-trial
returns-in_err-trial g c = record {
  answer = search rules;
  ticks = search rules;
  taken = inl (none_taken _ _);
  order = c.in_ok-keys.ensures.order;
  early = leaves_same c.from_residual-in_err-trial.result c.args.object.now c.args.sink.now;
  unwritten = unwritten_same c.from_residual-in_err-trial.result c.args.sink.now;
  kept = search rules;
  later = le_refl _;
  object = g.met.A.ReadAt.same_refl _;
  sink = g.met.K.Sink.same_refl _;
}
