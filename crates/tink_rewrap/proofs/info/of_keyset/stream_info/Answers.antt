use Rattle.std.proofs.Common.{rules, refl, le_refl, inl}
use Rattle.std.proofs.lemmas.Result.{err_from_is_err_and}
use Rattle.std.specs.Prelude.{Err}
use Rattle.tink_rewrap.proofs.InfoPromises.{complete, loaded, not_loaded, steps_loaded, tells}
use Rattle.tink_rewrap.proofs.InfoSteps.{as_many_loaded, early_same, info_of_loaded}
use Rattle.tink_run.proofs.LoadedFacts.{loaded_usable}
use Rattle.tink_rewrap.proofs.KeysetSteps.{stands_unloaded}
use Rattle.tink_rewrap.proofs.info.of_keyset.stream_info.Goals as goal

pub returns-in_err-keys : goal.returns-in_err-keys
returns-in_err-keys g c = record {
  answer = (let returned = err_from_is_err_and c.from_residual.result c.from_residual.ensures.1 in
      let object = c.args.object.now in
      let faults = g.A.ReadAt.faults object in
      rw (returned.1, returned.2)
      (not_loaded c.args.keyset.now c.args.aad.now (g.A.ReadAt.bytes object) (g.A.ReadAt.length_of object) faults faults object object c.in_err-keys.field-0.0 refl c.in_err-keys.ensures.answer));
  stream = (let returned = err_from_is_err_and c.from_residual.result c.from_residual.ensures.1 in
      rw (returned.1) tt);
  succeeds = (let returned = err_from_is_err_and c.from_residual.result c.from_residual.ensures.1 in
      let object = c.args.object.now in
      let faults = g.A.ReadAt.faults object in
      rw (returned.1, returned.2)
      (complete c.args.keyset.now c.args.aad.now (g.A.ReadAt.bytes object) (g.A.ReadAt.length_of object) faults faults object object (g.met.A.ReadAt.told object) (Err c.in_err-keys.field-0.0)
      (not_loaded c.args.keyset.now c.args.aad.now (g.A.ReadAt.bytes object) (g.A.ReadAt.length_of object) faults faults object object c.in_err-keys.field-0.0 refl c.in_err-keys.ensures.answer)));
  ticks = inl refl;
  early = early_same c.from_residual.result c.args.object.now;
  kept = (let returned = err_from_is_err_and c.from_residual.result c.from_residual.ensures.1 in
      rw (returned.1, returned.2)
      (record { length_is = refl; bytes_are = refl; later = le_refl _; count = stands_unloaded c.args.keyset.now (g.A.ReadAt.faults c.args.object.now) c.in_err-keys.field-0.0 c.in_err-keys.ensures.answer }));
  object = g.met.A.ReadAt.same_refl _;
}

pub returns : goal.returns
returns g c = record {
  answer = (let object = c.args.object.now in
      let after = c.info_of_set.new.object in
      let all = g.A.ReadAt.bytes object in
      let whole = g.A.ReadAt.length_of object in
      let told = c.info_of_set.ensures in
      loaded c.args.keyset.now c.args.aad.now all whole (g.A.ReadAt.faults object) (g.A.ReadAt.faults after) object after c.in_ok-keys.keys c.info_of_set.result c.in_ok-keys.ensures.answer
      (λ l usable holds. info_of_loaded c.args.aad.now c.in_ok-keys.keys told.order told.entries l usable holds all whole (g.A.ReadAt.faults object) (g.A.ReadAt.faults after) c.info_of_set.result told.answer) told.early);
  stream = (let object = c.args.object.now in
      let after = c.info_of_set.new.object in
      let all = g.A.ReadAt.bytes object in
      let whole = g.A.ReadAt.length_of object in
      let told = c.info_of_set.ensures in
      tells c.args.keyset.now c.args.aad.now all whole (g.A.ReadAt.faults object) (g.A.ReadAt.faults after) object after (g.met.A.ReadAt.told object) c.info_of_set.result
      (loaded c.args.keyset.now c.args.aad.now all whole (g.A.ReadAt.faults object) (g.A.ReadAt.faults after) object after c.in_ok-keys.keys c.info_of_set.result c.in_ok-keys.ensures.answer
      (λ l usable holds. info_of_loaded c.args.aad.now c.in_ok-keys.keys told.order told.entries l usable holds all whole (g.A.ReadAt.faults object) (g.A.ReadAt.faults after) c.info_of_set.result told.answer) told.early));
  succeeds = (let object = c.args.object.now in
      let after = c.info_of_set.new.object in
      let all = g.A.ReadAt.bytes object in
      let whole = g.A.ReadAt.length_of object in
      let told = c.info_of_set.ensures in
      complete c.args.keyset.now c.args.aad.now all whole (g.A.ReadAt.faults object) (g.A.ReadAt.faults after) object after (g.met.A.ReadAt.told object) c.info_of_set.result
      (loaded c.args.keyset.now c.args.aad.now all whole (g.A.ReadAt.faults object) (g.A.ReadAt.faults after) object after c.in_ok-keys.keys c.info_of_set.result c.in_ok-keys.ensures.answer
      (λ l usable holds. info_of_loaded c.args.aad.now c.in_ok-keys.keys told.order told.entries l usable holds all whole (g.A.ReadAt.faults object) (g.A.ReadAt.faults after) c.info_of_set.result told.answer) told.early));
  ticks = (let loads = c.in_ok-keys.ensures.answer in
      steps_loaded c.args.keyset.now c.args.steps.now c.info_of_set.new.steps _ c.in_ok-keys.keys loads c.info_of_set.ensures.ticks (as_many_loaded c.args.aad.now c.in_ok-keys.keys c.info_of_set.ensures.order c.info_of_set.ensures.entries loads.0 (loaded_usable c.args.keyset.now loads.0 loads.1).0 loads.2));
  early = c.info_of_set.ensures.early;
  kept = c.info_of_set.ensures.kept;
  object = c.info_of_set.ensures.object;
}
