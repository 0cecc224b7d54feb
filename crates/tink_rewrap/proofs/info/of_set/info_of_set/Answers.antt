use Rattle.std.proofs.Common.{rules, ◌≡◌, ◌≤◌, ◌+◌, ℕ, List, Bor, get_or, length, map, refl, sym, ap, subst, ◌∙◌, arith, le_refl}
use Rattle.std.proofs.lemmas.List.{length-map}
use Rattle.std.proofs.lemmas.Result.{err_from_is_err_and}
use Rattle.stream_model.specs.Opening.{opening_key}
use Rattle.tink_run.proofs.RoomFacts.{has_room}
use Rattle.tink_sets.specs.declared.entry.TypedEntry.{TypedEntry}
use Rattle.tink_streaming_keys.specs.StreamKinds.{key_in_set}
use Rattle.tink_streaming_keys.specs.declared.stream_kind.StreamKind.{StreamKind}
use Rattle.tink_streaming_aead.specs.Wrapped.{all_entries}
use Rattle.tink_rewrap.proofs.InfoSteps.{early_same, refused_of_sizes, sizes_not_early, told_of_sizes}
use Rattle.tink_rewrap.proofs.info.of_set.info_of_set.Goals as goal

pub returns : goal.returns
returns g c = record {
  answer = (let object = c.args.object.now in
      let same : map (λ k. k.now) c.deref-2.result.now ≡ all_entries c.args.set.now.entries = ap (map (λ k. k.now)) c.deref-2.ensures.value ∙ c.in_ok-keys.ensures.value in
      told_of_sizes (λ k. k.now) c.args.aad.now c.deref-2.result.now (all_entries c.args.set.now.entries) (g.A.ReadAt.bytes object) (g.A.ReadAt.length_of object)
      (g.A.ReadAt.faults object) (g.A.ReadAt.faults c.sizes_under.new.object) c.in_ok-sizes.sizes c.index-key.result.now c.segment_size.result same c.in_ok-sizes.ensures.answer
      (subst (λ (ks : List (Bor (TypedEntry StreamKind))). c.index-key.result.now ≡ get_or ks c.in_ok-sizes.sizes.place c.index-key.result.now) (sym c.deref-2.ensures.value) c.index-key.ensures) c.segment_size.ensures.value);
  ticks = (let count : length c.deref-2.result.now ≡ length (all_entries c.args.set.now.entries) =
      sym (length-map c.deref-2.result.now (λ k. k.now)) ∙ ap length (ap (map (λ k. k.now)) c.deref-2.ensures.value ∙ c.in_ok-keys.ensures.value) in
      subst (λ (n : ℕ). c.sizes_under.new.steps ≤ c.args.steps.now + n + 1) count c.in_ok-sizes.ensures.ticks);
  order = c.in_ok-keys.ensures.order;
  entries = c.keeps_entries.ensures.entries;
  early = tt;
  kept = (let kept = c.in_ok-sizes.ensures.kept in record { length_is = kept.length_is; bytes_are = kept.bytes_are; later = kept.later; count = kept.count });
  object = c.in_ok-sizes.ensures.object;
}

pub returns-in_err-sizes : goal.returns-in_err-sizes
returns-in_err-sizes g c =
    let p = err_from_is_err_and c.from_residual-in_err-sizes.result c.from_residual-in_err-sizes.ensures.1 in
    let object = c.args.object.now in
    let after = c.sizes_under.new.object in
    let told = c.in_err-sizes.ensures in
    record {
      answer = (let same : map (λ k. k.now) c.deref-2.result.now ≡ all_entries c.args.set.now.entries = ap (map (λ k. k.now)) c.deref-2.ensures.value ∙ c.in_ok-keys.ensures.value in
          rw (p.1, p.2)
          (refused_of_sizes (λ k. k.now) c.args.aad.now c.deref-2.result.now (all_entries c.args.set.now.entries) (g.A.ReadAt.bytes object) (g.A.ReadAt.length_of object)
          (g.A.ReadAt.faults object) (g.A.ReadAt.faults after) c.in_err-sizes.field-0.0 same told.answer));
      ticks = (let count : length c.deref-2.result.now ≡ length (all_entries c.args.set.now.entries) =
          sym (length-map c.deref-2.result.now (λ k. k.now)) ∙ ap length (ap (map (λ k. k.now)) c.deref-2.ensures.value ∙ c.in_ok-keys.ensures.value) in
          subst (λ (n : ℕ). c.sizes_under.new.steps ≤ c.args.steps.now + n + 1) count told.ticks);
      order = c.in_ok-keys.ensures.order;
      entries = c.keeps_entries.ensures.entries;
      early = rw (p.1, p.2)
          (sizes_not_early (map (λ k. opening_key c.args.aad.now (key_in_set k.now)) c.deref-2.result.now) (g.A.ReadAt.bytes object) (g.A.ReadAt.length_of object)
          (g.A.ReadAt.faults object) (g.A.ReadAt.faults after) c.in_err-sizes.field-0.0 object after told.answer);
      kept = rw (p.1, p.2) (record { length_is = told.kept.length_is; bytes_are = told.kept.bytes_are; later = told.kept.later; count = told.kept.count });
      object = told.object;
    }

pub returns-in_err-keys : goal.returns-in_err-keys
returns-in_err-keys g c = record {
  answer = search rules;
  ticks = omega arith;
  order = c.in_err-keys.ensures.order;
  entries = c.keeps_entries.ensures.entries;
  early = early_same c.from_residual.result c.args.object.now;
  kept = search rules;
  object = g.met.A.ReadAt.same_refl _;
}

pub returns-in_err-trial : goal.returns-in_err-trial
returns-in_err-trial g c = record {
  answer = search rules;
  ticks = omega arith;
  order = c.in_ok-keys.ensures.order;
  entries = c.keeps_entries.ensures.entries;
  early = early_same c.from_residual-in_err-trial.result c.args.object.now;
  kept = search rules;
  object = g.met.A.ReadAt.same_refl _;
}

pub sizes_under-requires : goal.sizes_under-requires
sizes_under-requires g c =
    record {
      room = has_room (λ k. key_in_set k.now) _ _ _ _ _ _ _ (c.deref.ensures.value ∙ sym c.deref-2.ensures.value) c.room_of.ensures.most c.in_ok-trial.ensures.buffer
          c.in_ok-trial.ensures.opened c.in_ok-trial.ensures.nonce c.in_ok-trial.ensures.prefix;
    }
