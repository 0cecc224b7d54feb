use Rattle.std.proofs.Common.{arith, subst, sym}
use Rattle.tink_streaming_segment.specs.Openers.{segment_map}
use Rattle.tink_c_pieces.specs.Readings.{piece_reading}
use Rattle.tink_c_pieces.proofs.ReadingSteps.{held_length}
use Rattle.tink_c_streams.specs.Readers.{IsEnding}
use Rattle.tink_c_streams.proofs.ReaderSteps.{ends, ends_not, runs_behind, whole_given}
use Rattle.tink_c_streams.proofs.readers.finished.Goals as goal

pub returns-in-Ok-clause-answer : goal.returns-in-Ok-clause-answer
returns-in-Ok-clause-answer c =
    let t = c.args.text in
    let o = t.reader.opener in
    let n = c.finish.new.text in
    let f = c.in-Ok.ensures.ok in
    record {
      shut = tt;
      ends = λ keys came given r.
          let b = runs_behind keys came given (segment_map o) o.first o.size o.overhead (piece_reading t) c.requires.running r in
          let e = ends keys came given (segment_map o) o.first o.size o.overhead (piece_reading t) (piece_reading n) (omega (arith, o.some)) o.first_fits c.requires.empty
          (λ runs. omega (arith, held_length n.reader, n.reader.carried runs (omega (arith, f.number)))) f b in
          record {
            reads = subst (λ p. IsEnding keys came given (segment_map p) p.first p.size p.overhead (piece_reading n)) (sym c.finish.ensures.opener) e;
            whole = whole_given keys came given (segment_map o) o.first o.size o.overhead (piece_reading n) f.goes_on e;
          };
    }

pub returns-in-Err-clause-answer : goal.returns-in-Err-clause-answer
returns-in-Err-clause-answer c =
    let t = c.args.text in
    let o = t.reader.opener in
    λ keys came given r.
    ends_not keys came given (segment_map o) o.first o.size o.overhead (piece_reading t) c.in-Err.e.kind c.requires.empty
    (λ some. omega (arith, held_length t.reader, t.reader.carried c.requires.running some))
    (runs_behind keys came given (segment_map o) o.first o.size o.overhead (piece_reading t) c.requires.running r) c.in-Err.ensures.refused
