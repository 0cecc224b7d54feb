use Rattle.std.proofs.Common.{rules, inl, refl, arith, le_refl}
use Rattle.std.proofs.lemmas.Result.{err_from_is_err_and}
use Rattle.std.specs.Prelude.{Err}
use Rattle.tink_range.specs.ChunkReading.{Moments, ends_of}
use Rattle.tink_rewrap.proofs.KeysetSteps.{bytes_loaded, complete, loaded, not_loaded, slices, stands_unloaded, steps_loaded}
use Rattle.tink_rewrap.proofs.SetSteps.{bytes_of_loaded, ranges_of_loaded, steps_of_loaded, leaves_same, unwritten_same}
use Rattle.tink_rewrap.proofs.ranges.of_keyset.run_range.Goals as goal

pub returns-in_err-keys : goal.returns-in_err-keys
returns-in_err-keys g c = record {
  answer = (let returned = err_from_is_err_and c.from_residual.result c.from_residual.ensures.1 in
      let object = c.args.object.now in
      let e : Moments (g.row.K.Denot) = ends_of g.A.ReadAt.bytes g.A.ReadAt.faults object object c.args.sink.now c.args.sink.now in
      rw (returned.1, returned.2)
      (not_loaded g.K.Sink.got g.K.Sink.faults c.args.keyset.now c.args.aad.now (g.A.ReadAt.length_of object) c.args.start c.args.len object object e
      c.in_err-keys.field-0.0 (record { unread = refl; unmoved = record { reads = refl; same = refl } }) c.in_err-keys.ensures.answer));
  slice = search rules;
  succeeds = (let returned = err_from_is_err_and c.from_residual.result c.from_residual.ensures.1 in
      let object = c.args.object.now in
      let e : Moments (g.row.K.Denot) = ends_of g.A.ReadAt.bytes g.A.ReadAt.faults object object c.args.sink.now c.args.sink.now in
      let whole = g.A.ReadAt.length_of object in
      rw (returned.1, returned.2)
      (complete g.K.Sink.got g.K.Sink.faults c.args.keyset.now c.args.aad.now whole c.args.start c.args.len object object e (g.met.A.ReadAt.told object) (Err c.in_err-keys.field-0.0)
      (not_loaded g.K.Sink.got g.K.Sink.faults c.args.keyset.now c.args.aad.now whole c.args.start c.args.len object object e
      c.in_err-keys.field-0.0 (record { unread = refl; unmoved = record { reads = refl; same = refl } }) c.in_err-keys.ensures.answer)));
  ticks = search rules;
  taken = inl refl;
  early = leaves_same c.from_residual.result c.args.object.now c.args.sink.now;
  unwritten = unwritten_same c.from_residual.result c.args.sink.now;
  kept = (let returned = err_from_is_err_and c.from_residual.result c.from_residual.ensures.1 in
      rw (returned.1, returned.2)
      (record { length_is = refl; bytes_are = refl; later = omega arith; count = stands_unloaded c.args.keyset.now (g.A.ReadAt.faults c.args.object.now) c.in_err-keys.field-0.0 c.in_err-keys.ensures.answer }));
  later = le_refl _;
  object = g.met.A.ReadAt.same_refl _;
  sink = g.met.K.Sink.same_refl _;
}

pub returns : goal.returns
returns g c = record {
  answer = (let object = c.args.object.now in
      let e : Moments (g.row.K.Denot) = ends_of g.A.ReadAt.bytes g.A.ReadAt.faults object c.range_of_set.new.object c.args.sink.now c.range_of_set.new.sink in
      loaded g.K.Sink.got g.K.Sink.faults c.args.keyset.now c.args.aad.now (g.A.ReadAt.length_of object) c.args.start c.args.len object c.range_of_set.new.object e
      c.in_ok-keys.keys c.range_of_set.result c.in_ok-keys.ensures.answer
      (ranges_of_loaded g.K.Sink.got g.K.Sink.faults c.args.aad.now c.in_ok-keys.keys (g.A.ReadAt.length_of object) c.args.start c.args.len e c.range_of_set.result c.range_of_set.ensures.order c.range_of_set.ensures.answer) c.range_of_set.ensures.early);
  slice = (let object = c.args.object.now in
      let whole = g.A.ReadAt.length_of object in
      let e : Moments (g.row.K.Denot) = ends_of g.A.ReadAt.bytes g.A.ReadAt.faults object c.range_of_set.new.object c.args.sink.now c.range_of_set.new.sink in
      slices g.K.Sink.got g.K.Sink.faults c.args.keyset.now c.args.aad.now whole c.args.start c.args.len object c.range_of_set.new.object e (g.met.A.ReadAt.told object) c.range_of_set.result
      (loaded g.K.Sink.got g.K.Sink.faults c.args.keyset.now c.args.aad.now whole c.args.start c.args.len object c.range_of_set.new.object e
      c.in_ok-keys.keys c.range_of_set.result c.in_ok-keys.ensures.answer
      (ranges_of_loaded g.K.Sink.got g.K.Sink.faults c.args.aad.now c.in_ok-keys.keys (g.A.ReadAt.length_of object) c.args.start c.args.len e c.range_of_set.result c.range_of_set.ensures.order c.range_of_set.ensures.answer) c.range_of_set.ensures.early));
  succeeds = (let object = c.args.object.now in
      let whole = g.A.ReadAt.length_of object in
      let e : Moments (g.row.K.Denot) = ends_of g.A.ReadAt.bytes g.A.ReadAt.faults object c.range_of_set.new.object c.args.sink.now c.range_of_set.new.sink in
      complete g.K.Sink.got g.K.Sink.faults c.args.keyset.now c.args.aad.now whole c.args.start c.args.len object c.range_of_set.new.object e (g.met.A.ReadAt.told object) c.range_of_set.result
      (loaded g.K.Sink.got g.K.Sink.faults c.args.keyset.now c.args.aad.now whole c.args.start c.args.len object c.range_of_set.new.object e
      c.in_ok-keys.keys c.range_of_set.result c.in_ok-keys.ensures.answer
      (ranges_of_loaded g.K.Sink.got g.K.Sink.faults c.args.aad.now c.in_ok-keys.keys (g.A.ReadAt.length_of object) c.args.start c.args.len e c.range_of_set.result c.range_of_set.ensures.order c.range_of_set.ensures.answer) c.range_of_set.ensures.early));
  ticks = (let object = c.args.object.now in
      steps_loaded c.args.keyset.now c.args.aad.now (g.A.ReadAt.bytes object) (g.A.ReadAt.length_of object) c.args.start c.args.len c.args.steps.now c.range_of_set.new.steps
      c.in_ok-keys.keys c.in_ok-keys.ensures.answer
      (steps_of_loaded c.args.aad.now c.in_ok-keys.keys (g.A.ReadAt.bytes object) (g.A.ReadAt.length_of object) c.args.start c.args.len c.args.steps.now c.range_of_set.new.steps c.range_of_set.ensures.order c.range_of_set.ensures.ticks));
  taken = (let object = c.args.object.now in
      bytes_loaded c.args.keyset.now c.args.aad.now (g.A.ReadAt.bytes object) (g.A.ReadAt.length_of object) c.args.start c.args.len (g.A.ReadAt.taken object) (g.A.ReadAt.taken c.range_of_set.new.object)
      c.in_ok-keys.keys c.in_ok-keys.ensures.answer
      (bytes_of_loaded c.args.aad.now c.in_ok-keys.keys (g.A.ReadAt.bytes object) (g.A.ReadAt.length_of object) c.args.start c.args.len (g.A.ReadAt.taken object) (g.A.ReadAt.taken c.range_of_set.new.object) c.range_of_set.ensures.order c.range_of_set.ensures.taken));
  early = c.range_of_set.ensures.early;
  unwritten = c.range_of_set.ensures.unwritten;
  kept = c.range_of_set.ensures.kept;
  later = c.range_of_set.ensures.later;
  object = c.range_of_set.ensures.object;
  sink = c.range_of_set.ensures.sink;
}
