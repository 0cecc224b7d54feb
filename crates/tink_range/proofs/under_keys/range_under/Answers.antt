use Rattle.std.proofs.Common.{length, map, sym, vec_len}
use Rattle.std.proofs.lemmas.List.{length-map}
use Rattle.stream_model.specs.Opening.{opening_key}
use Rattle.tink_range.specs.RangeCores.{cutting_of}
use Rattle.tink_range.proofs.KeyRangeSteps.{few_steps, start_refused, takes_steps, under_chosen}
use Rattle.tink_range.proofs.ObjectSteps.{err_leaves, leaves_trans, ok_keeps}
use Rattle.tink_range.proofs.TakenFacts.{few_bytes, takes_bytes}
use Rattle.tink_range.proofs.under_keys.range_under.Goals as goal

pub start_at-requires : goal.start_at-requires
start_at-requires g c = record { room = c.requires.room }

pub returns-in-Ok-clause-answer : goal.returns-in-Ok-clause-answer
returns-in-Ok-clause-answer g c =
    let core = c.in-Ok.core in
    under_chosen g.K.Sink.got g.K.Sink.faults (cutting_of core) core.behind c.args.start c.args.len
    (record { all = g.A.ReadAt.bytes c.args.object.now; reads_before = g.A.ReadAt.faults c.args.object.now; reads_after = g.A.ReadAt.faults c.read_range.new.object; old = c.args.sink.now; new = c.read_range.new.sink })
    (g.A.ReadAt.faults c.start_at.new.object) (g.A.ReadAt.bytes c.start_at.new.object) (map (λ k. opening_key c.args.aad.now (g.T.DerivesStreams.key_of k)) c.args.keys.now) (g.A.ReadAt.length_of c.args.object.now) c.read_range.result
    c.in-Ok.ensures.kept.later c.in-Ok.ensures.kept.bytes_are c.in-Ok.ensures.whole c.in-Ok.ensures.found c.read_range.ensures.answer

pub returns-in-Ok-clause-ticks : goal.returns-in-Ok-clause-ticks
returns-in-Ok-clause-ticks g c =
    let core = c.in-Ok.core in
    takes_steps (cutting_of core) core.behind c.args.start c.args.len c.args.steps.now c.start_at.new.steps c.read_range.new.steps (length c.args.keys.now) (g.A.ReadAt.length_of c.args.object.now) (g.A.ReadAt.bytes c.args.object.now)
    (map (λ k. opening_key c.args.aad.now (g.T.DerivesStreams.key_of k)) c.args.keys.now) (sym (length-map c.args.keys.now (λ k. opening_key c.args.aad.now (g.T.DerivesStreams.key_of k)))) c.in-Ok.ensures.whole c.in-Ok.ensures.found c.in-Ok.ensures.ticks.1 c.read_range.ensures.ticks

-- the object is the one that it was

pub returns-in-Ok-clause-object : goal.returns-in-Ok-clause-object
returns-in-Ok-clause-object g c = g.met.A.ReadAt.same_trans _ _ _ c.in-Ok.ensures.same c.read_range.ensures.object

pub returns-in-Ok-clause-kept : goal.returns-in-Ok-clause-kept
returns-in-Ok-clause-kept g c =
    let kept = c.in-Ok.ensures.kept in
    leaves_trans g.A.ReadAt.length_of g.A.ReadAt.bytes g.A.ReadAt.faults c.args.object.now c.start_at.new.object c.read_range.new.object c.read_range.result
    (ok_keeps g.A.ReadAt.length_of g.A.ReadAt.bytes g.A.ReadAt.faults c.args.object.now c.start_at.new.object c.in-Ok.core kept) kept.count c.read_range.ensures.kept

-- no key is chosen

pub returns-in-Err-clause-answer : goal.returns-in-Err-clause-answer
returns-in-Err-clause-answer g c =
    start_refused g.K.Sink.got g.K.Sink.faults (map (λ k. opening_key c.args.aad.now (g.T.DerivesStreams.key_of k)) c.args.keys.now) (g.A.ReadAt.length_of c.args.object.now) c.args.start c.args.len
    (g.A.ReadAt.bytes c.args.object.now) (g.A.ReadAt.faults c.args.object.now) (g.A.ReadAt.faults c.start_at.new.object) c.args.sink.now c.in-Err.e.kind c.in-Err.ensures.refused

pub returns-in-Err-clause-ticks : goal.returns-in-Err-clause-ticks
returns-in-Err-clause-ticks g c =
    few_steps (λ k. opening_key c.args.aad.now (g.T.DerivesStreams.key_of k)) c.args.keys.now (g.A.ReadAt.bytes c.args.object.now) (g.A.ReadAt.length_of c.args.object.now) c.args.start c.args.len c.args.steps.now c.start_at.new.steps c.in-Err.ensures.ticks.1

pub returns-in-Err-clause-sink : goal.returns-in-Err-clause-sink
returns-in-Err-clause-sink g c = g.met.K.Sink.same_refl c.args.sink.now

-- the ends are the ones that they were

pub returns-in-Ok-clause-later : goal.returns-in-Ok-clause-later
returns-in-Ok-clause-later g c = c.read_range.ensures.later

pub returns-in-Ok-clause-sink : goal.returns-in-Ok-clause-sink
returns-in-Ok-clause-sink g c = c.read_range.ensures.sink

pub returns-in-Err-clause-object : goal.returns-in-Err-clause-object
returns-in-Err-clause-object g c = c.in-Err.ensures.same

pub returns-in-Err-clause-kept : goal.returns-in-Err-clause-kept
returns-in-Err-clause-kept g c = err_leaves g.A.ReadAt.length_of g.A.ReadAt.bytes g.A.ReadAt.faults c.args.object.now c.start_at.new.object c.in-Err.e c.in-Err.ensures.kept

pub returns-in-Ok-clause-taken : goal.returns-in-Ok-clause-taken
returns-in-Ok-clause-taken g c =
    let core = c.in-Ok.core in
    takes_bytes (cutting_of core) core.behind c.args.start c.args.len (vec_len c.args.trial.kept.buffer) _ _ _ (length c.args.keys.now) (g.A.ReadAt.length_of c.args.object.now) (g.A.ReadAt.bytes c.args.object.now)
    (map (λ k. opening_key c.args.aad.now (g.T.DerivesStreams.key_of k)) c.args.keys.now) (sym (length-map c.args.keys.now (λ k. opening_key c.args.aad.now (g.T.DerivesStreams.key_of k)))) c.in-Ok.ensures.whole c.in-Ok.ensures.found c.in-Ok.ensures.taken c.read_range.ensures.taken

pub returns-in-Err-clause-taken : goal.returns-in-Err-clause-taken
returns-in-Err-clause-taken g c =
    few_bytes (λ k. opening_key c.args.aad.now (g.T.DerivesStreams.key_of k)) c.args.keys.now (g.A.ReadAt.bytes c.args.object.now) (g.A.ReadAt.length_of c.args.object.now) c.args.start c.args.len (vec_len c.args.trial.kept.buffer) _ _ c.in-Err.ensures.taken
