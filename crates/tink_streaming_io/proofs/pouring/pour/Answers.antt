use Rattle.std.proofs.Common.{◌<◌, ℕ, refl, ◌∙◌, arith}
use Rattle.std.proofs.lemmas.List.{length-take}
use Rattle.std.proofs.lemmas.Result.{err_from_is_err_and}
use Rattle.std.proofs.KnownBytes.{Consumes-kept}
use Rattle.tink_io.proofs.FaultLemmas.{Rose-earlier}
use Rattle.tink_streaming_io.proofs.FrontFacts.{less_in}
use Rattle.tink_streaming_io.proofs.PourSteps.{more_bytes, poured_end, poured_none, poured_more, pour_refused}
use Rattle.tink_streaming_io.proofs.pouring.pour.Goals as goal

pub loop-n-init : goal.loop-n-init
loop-n-init g c = record {
  poured = poured_none _ _ _ _ _ (record { mode = c.requires.open; number = c.requires.fresh; held = c.requires.empty });
  sealer = refl;
  memory = refl;
  reads = omega arith;
  writes = omega arith;
  same_source = g.met.S.Source.same_refl c.args.source.now;
  same_sink = g.met.K.Sink.same_refl c.args.sink.now;
}

pub returns-in_err-write-in-Ok-clause-answer : goal.returns-in_err-write-in-Ok-clause-answer
returns-in_err-write-in-Ok-clause-answer g c =
    let p = err_from_is_err_and c.from_residual.result c.from_residual.ensures.1 in
    let sealer = c.args.writer.now.sealer in
    let room : 0 < sealer.room = omega (arith, sealer.some, sealer.first_fits) in
    let r = rw c.loop-n.invariant.sealer at c.in_err-write-in-Ok.ensures.answer in
    rw (p.1, p.2) (pour_refused _ _ _ _ _ _ _ _ _ _ _ _ _ _ sealer.some room c.loop-n.invariant.writes c.loop-n.invariant.poured c.in-Ok.ensures.bytes.0 r)

pub overflow_add-bytes : goal.overflow_add-bytes
overflow_add-bytes g c =
    let sealer = c.args.writer.now.sealer in
    let w = rw c.loop-n.invariant.sealer at c.in_ok-write-in-Ok.ensures.answer in
    more_bytes _ _ _ _ _ _ _ _ _ c.loop-n.bytes c.in-Ok.n sealer.overhead _ sealer.some sealer.first_fits sealer.small (record { mode = c.requires.open; number = c.requires.fresh; held = c.requires.empty })
    c.loop-n.invariant.poured c.in-Ok.ensures.bytes.0 w.0 (omega (arith, length-take {A = ℕ}, c.in-Ok.ensures.bound))

pub loop-n-preserved : goal.loop-n-preserved
loop-n-preserved g c =
    let sealer = c.args.writer.now.sealer in
    let room : 0 < sealer.room = omega (arith, sealer.some, sealer.first_fits) in
    let w = rw c.loop-n.invariant.sealer at c.in_ok-write-in-Ok.ensures.answer in
    record {
      poured = poured_more _ _ _ _ _ _ _ _ _ _ _ _ sealer.some room c.loop-n.invariant.poured c.in-Ok.ensures.bytes.0 w.0 (omega (arith, length-take {A = ℕ}, c.in-Ok.ensures.bound));
      sealer = c.write.ensures.sealer ∙ c.loop-n.invariant.sealer;
      memory = c.write.ensures.memory ∙ c.loop-n.invariant.memory;
      reads = omega (arith, c.loop-n.invariant.reads, c.in-Ok.ensures.cause.later);
      writes = omega (arith, c.loop-n.invariant.writes, c.write.ensures.later);
      same_source = g.met.S.Source.same_trans _ _ _ c.loop-n.invariant.same_source c.in-Ok.ensures.same;
      same_sink = g.met.K.Sink.same_trans _ _ _ c.loop-n.invariant.same_sink c.write.ensures.same;
    }

pub returns-in-Err-clause-answer : goal.returns-in-Err-clause-answer
returns-in-Err-clause-answer g c =
    let poured = c.loop-n.invariant.poured in
    rw c.new.ensures (record { text = poured.text; read = Consumes-kept _ _ _ _ poured.read c.in-Err.ensures.bytes; refused = poured.wrote }, Rose-earlier _ _ _ c.loop-n.invariant.reads c.in-Err.ensures.cause.failed)

pub returns-in_err-write-in-Ok-clause-sealer : goal.returns-in_err-write-in-Ok-clause-sealer
returns-in_err-write-in-Ok-clause-sealer g c = c.write.ensures.sealer ∙ c.loop-n.invariant.sealer

pub returns-in_err-write-in-Ok-clause-read_count : goal.returns-in_err-write-in-Ok-clause-read_count
returns-in_err-write-in-Ok-clause-read_count g c = omega (arith, c.loop-n.invariant.reads, c.in-Ok.ensures.cause.later)

pub returns-in_err-write-in-Ok-clause-write_count : goal.returns-in_err-write-in-Ok-clause-write_count
returns-in_err-write-in-Ok-clause-write_count g c = omega (arith, c.loop-n.invariant.writes, c.write.ensures.later)

pub returns-in_err-write-in-Ok-clause-source : goal.returns-in_err-write-in-Ok-clause-source
returns-in_err-write-in-Ok-clause-source g c = g.met.S.Source.same_trans _ _ _ c.loop-n.invariant.same_source c.in-Ok.ensures.same

pub returns-in_err-write-in-Ok-clause-sink : goal.returns-in_err-write-in-Ok-clause-sink
returns-in_err-write-in-Ok-clause-sink g c = g.met.K.Sink.same_trans _ _ _ c.loop-n.invariant.same_sink c.write.ensures.same

pub returns-in-Err-clause-sealer : goal.returns-in-Err-clause-sealer
returns-in-Err-clause-sealer g c = c.loop-n.invariant.sealer

pub returns-in-Err-clause-write_count : goal.returns-in-Err-clause-write_count
returns-in-Err-clause-write_count g c = c.loop-n.invariant.writes

pub returns-in-Err-clause-source : goal.returns-in-Err-clause-source
returns-in-Err-clause-source g c = g.met.S.Source.same_trans _ _ _ c.loop-n.invariant.same_source c.in-Err.ensures.same

pub returns-in-Err-clause-sink : goal.returns-in-Err-clause-sink
returns-in-Err-clause-sink g c = c.loop-n.invariant.same_sink

pub returns-in-Ok-eq0-clause-answer : goal.returns-in-Ok-eq0-clause-answer
returns-in-Ok-eq0-clause-answer g c =
    let read = c.in-Ok-eq0.ensures.bytes in (
      poured_end _ _ _ _ _ _ _ _ _ c.in-Ok-eq0.field-0 _ c.loop-n.invariant.poured c.in-Ok-eq0.field-0-test read.0,
      read.1 c.in-Ok-eq0.field-0-test (less_in _ _ _ c.requires.piece (c.read.auto.buf ∙ c.loop-n.auto.piece)),
    )

pub returns-in_err-write-in-Ok-clause-memory : goal.returns-in_err-write-in-Ok-clause-memory
returns-in_err-write-in-Ok-clause-memory g c = c.write.ensures.memory ∙ c.loop-n.invariant.memory

pub returns-in-Err-clause-memory : goal.returns-in-Err-clause-memory
returns-in-Err-clause-memory g c = c.loop-n.invariant.memory

pub returns-in-Ok-eq0-clause-memory : goal.returns-in-Ok-eq0-clause-memory
returns-in-Ok-eq0-clause-memory g c = c.loop-n.invariant.memory
