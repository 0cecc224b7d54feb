use Rattle.std.proofs.Common.{◌+◌, ◌-◌, min, ℕ, Bool, true, List, length, refl, sym, ap, subst, ◌∙◌, le_of_eq, le_refl}
use Rattle.stream_model.specs.Cut.{room_at}
use Rattle.tink_io.specs.declared.error.Kind.TheVariants.{BadSegment, ReadFault}
use Rattle.tink_streaming_io.specs.Openers.{segment_map}
use Rattle.tink_range.specs.ChunkReading.{OpensAt}
use Rattle.tink_range.specs.RangeCores.{chunk_in}
use Rattle.tink_range.proofs.ChunkSteps.{none_opens, one_refused, one_written}
use Rattle.tink_range.proofs.ObjectSteps.{below, one_step, refusal_leaves, touched_in, within_one, writes_leave}
use Rattle.tink_range.proofs.chunks.RangeCore.give_chunk.Goals as goal

pub write_part-requires-clause-touched : goal.write_part-requires-clause-touched
write_part-requires-clause-touched g c =
    let core = c.args.self.now in
    let place = c.args.place in
    touched_in c.args.lo place.text _ core.opener.overhead (min (core.behind - place.start) (room_at core.opener.first core.opener.size place.number)) (length c.deref.result.now)
    c.requires.touched.begins (c.in-Ok-true.ensures.length c.in-Ok-true.field-0-test) c.deref.ensures.len

pub returns-in-Ok-true-clause-answer : goal.returns-in-Ok-true-clause-answer
returns-in-Ok-true-clause-answer g c =
    let core = c.args.self.now in
    let place = c.args.place in
    let seg : ℕ → Bool → List ℕ → List ℕ = segment_map core.opener in
    let chunk = chunk_in core place.number place.start in
    let all = g.A.ReadAt.bytes c.args.object.now in
    one_written g.K.Sink.got g.K.Sink.faults seg chunk core.opener.overhead c.args.lo c.args.hi place.text
    (record { all = all; reads_before = g.A.ReadAt.faults c.args.object.now; reads_after = g.A.ReadAt.faults c.open_chunk.new.object; old = c.args.sink.now; new = c.write_part.new.sink })
    c.deref.result.now c.write_part.result
    (subst (λ (t : List ℕ). OpensAt seg chunk all true t) (sym c.deref.ensures.value) (subst (λ (b : Bool). OpensAt seg chunk all b c.open_chunk.new.self.buffers.text.items) c.in-Ok-true.field-0-test c.in-Ok-true.ensures.answer))
    (ap (λ n. n + core.opener.overhead) c.deref.ensures.len ∙ c.in-Ok-true.ensures.length c.in-Ok-true.field-0-test)
    c.write_part.ensures.written c.write_part.ensures.count c.write_part.ensures.prefix c.write_part.ensures.refused c.write_part.ensures.cause

pub returns-in-Ok-true-clause-kept : goal.returns-in-Ok-true-clause-kept
returns-in-Ok-true-clause-kept g c =
    writes_leave g.A.ReadAt.length_of g.A.ReadAt.bytes g.A.ReadAt.faults c.args.object.now c.open_chunk.new.object c.write_part.result c.write_part.ensures.refused c.in-Ok-true.ensures.read.kept c.in-Ok-true.ensures.read.count

pub returns-in-Ok-false-clause-answer : goal.returns-in-Ok-false-clause-answer
returns-in-Ok-false-clause-answer g c =
    let core = c.args.self.now in
    let place = c.args.place in
    let seg : ℕ → Bool → List ℕ → List ℕ = segment_map core.opener in
    let chunk = chunk_in core place.number place.start in
    let all = g.A.ReadAt.bytes c.args.object.now in
    one_refused g.K.Sink.got g.K.Sink.faults seg chunk core.opener.overhead c.args.lo c.args.hi place.text
    (record { all = all; reads_before = g.A.ReadAt.faults c.args.object.now; reads_after = g.A.ReadAt.faults c.open_chunk.new.object; old = c.args.sink.now; new = c.args.sink.now })
    c.new.result (BadSegment place.number) c.new.ensures
    (record { number = refl; none = none_opens seg chunk all _ c.open_chunk.new.self.buffers.text.items c.in-Ok-false.field-0-test c.in-Ok-false.ensures.answer; same = refl })

pub returns-in-Ok-false-clause-kept : goal.returns-in-Ok-false-clause-kept
returns-in-Ok-false-clause-kept g c =
    refusal_leaves g.A.ReadAt.length_of g.A.ReadAt.bytes g.A.ReadAt.faults c.args.object.now c.open_chunk.new.object c.new.result (BadSegment c.args.place.number) c.new.ensures c.in-Ok-false.ensures.read.kept c.in-Ok-false.ensures.read.count

pub returns-in-Ok-false-clause-sink : goal.returns-in-Ok-false-clause-sink
returns-in-Ok-false-clause-sink g c = g.met.K.Sink.same_refl c.args.sink.now

pub returns-in-Err-clause-answer : goal.returns-in-Err-clause-answer
returns-in-Err-clause-answer g c =
    let core = c.args.self.now in
    let place = c.args.place in
    one_refused g.K.Sink.got g.K.Sink.faults (segment_map core.opener) (chunk_in core place.number place.start) core.opener.overhead c.args.lo c.args.hi place.text
    (record { all = g.A.ReadAt.bytes c.args.object.now; reads_before = g.A.ReadAt.faults c.args.object.now; reads_after = g.A.ReadAt.faults c.open_chunk.new.object; old = c.args.sink.now; new = c.args.sink.now })
    c.new-in-Err.result ReadFault c.new-in-Err.ensures (record { rose = c.in-Err.ensures.read.count; same = refl })

pub returns-in-Err-clause-kept : goal.returns-in-Err-clause-kept
returns-in-Err-clause-kept g c =
    refusal_leaves g.A.ReadAt.length_of g.A.ReadAt.bytes g.A.ReadAt.faults c.args.object.now c.open_chunk.new.object c.new-in-Err.result ReadFault c.new-in-Err.ensures c.in-Err.ensures.read.kept c.in-Err.ensures.read.count

pub returns-in-Err-clause-sink : goal.returns-in-Err-clause-sink
returns-in-Err-clause-sink g c = g.met.K.Sink.same_refl c.args.sink.now

pub write_part-requires-clause-range : goal.write_part-requires-clause-range
write_part-requires-clause-range g c = below _ _ c.requires.touched.some

pub write_part-requires-clause-before : goal.write_part-requires-clause-before
write_part-requires-clause-before g c = below _ _ c.requires.touched.ends

pub returns-in-Ok-true-clause-later : goal.returns-in-Ok-true-clause-later
returns-in-Ok-true-clause-later g c = c.write_part.ensures.later

pub returns-in-Ok-true-clause-ticks : goal.returns-in-Ok-true-clause-ticks
returns-in-Ok-true-clause-ticks g c = one_step c.args.steps.now c.open_chunk.new.steps c.write_part.result c.in-Ok-true.ensures.ticks

pub returns-in-Ok-false-clause-ticks : goal.returns-in-Ok-false-clause-ticks
returns-in-Ok-false-clause-ticks g c = le_of_eq c.in-Ok-false.ensures.ticks

pub returns-in-Err-clause-ticks : goal.returns-in-Err-clause-ticks
returns-in-Err-clause-ticks g c = within_one c.args.steps.now c.open_chunk.new.steps c.in-Err.ensures.ticks

-- the ends and the core are the ones that they were

pub returns-in-Ok-true-clause-object : goal.returns-in-Ok-true-clause-object
returns-in-Ok-true-clause-object g c = c.in-Ok-true.ensures.read.same

pub returns-in-Ok-true-clause-core : goal.returns-in-Ok-true-clause-core
returns-in-Ok-true-clause-core g c = c.in-Ok-true.ensures.core

pub returns-in-Ok-false-clause-object : goal.returns-in-Ok-false-clause-object
returns-in-Ok-false-clause-object g c = c.in-Ok-false.ensures.read.same

pub returns-in-Ok-false-clause-core : goal.returns-in-Ok-false-clause-core
returns-in-Ok-false-clause-core g c = c.in-Ok-false.ensures.core

pub returns-in-Err-clause-object : goal.returns-in-Err-clause-object
returns-in-Err-clause-object g c = c.in-Err.ensures.read.same

pub returns-in-Err-clause-core : goal.returns-in-Err-clause-core
returns-in-Err-clause-core g c = c.in-Err.ensures.core

pub returns-in-Ok-false-clause-later : goal.returns-in-Ok-false-clause-later
returns-in-Ok-false-clause-later g c = le_refl _

pub returns-in-Err-clause-later : goal.returns-in-Err-clause-later
returns-in-Err-clause-later g c = le_refl _

pub returns-in-Ok-true-clause-sink : goal.returns-in-Ok-true-clause-sink
returns-in-Ok-true-clause-sink g c = c.write_part.ensures.same

pub returns-in-Ok-true-clause-taken : goal.returns-in-Ok-true-clause-taken
returns-in-Ok-true-clause-taken g c = c.in-Ok-true.ensures.taken

pub returns-in-Ok-false-clause-taken : goal.returns-in-Ok-false-clause-taken
returns-in-Ok-false-clause-taken g c = c.in-Ok-false.ensures.taken

pub returns-in-Err-clause-taken : goal.returns-in-Err-clause-taken
returns-in-Err-clause-taken g c = c.in-Err.ensures.taken
