use Rattle.std.proofs.Common.{◌++◌, subst, sym, take}
use Rattle.tink_streaming_segment.specs.Openers.{segment_map}
use Rattle.tink_c_pieces.specs.Readings.{piece_reading}
use Rattle.tink_c_streams.specs.Readers.{IsGoing}
use Rattle.tink_c_streams.proofs.ReaderSteps.{goes_on, moves_on, refuses}
use Rattle.tink_c_streams.proofs.readers.fed_text.Goals as goal

pub returns-in-Ok : goal.returns-in-Ok
returns-in-Ok c =
    let t = c.args.text in
    let o = t.reader.opener in
    let u = c.feed.new.text in
    let f = c.in-Ok.ensures.ok in
    let piece = c.args.piece.now in
    let n = c.in-Ok.n in
    record {
      was_open = c.is_running.ensures.yes search;
      is_open = f.running;
      within = f.within;
      takes = λ keys came given r. record {
        reads = subst (λ p. IsGoing keys (came ++ take n piece) given (segment_map p) p.first p.size p.overhead (piece_reading u)) (sym c.feed.ensures.opener)
            (f.running, goes_on keys came given (segment_map o) o.first o.size o.overhead (piece_reading t) (piece_reading u) piece n c.requires f r.1);
        moves = moves_on keys came given (segment_map o) o.first o.size o.overhead (piece_reading t) (piece_reading u) piece n f;
      };
    }

pub returns-in-Err : goal.returns-in-Err
returns-in-Err c =
    let t = c.args.text in
    let o = t.reader.opener in
    λ keys came given r. refuses keys came given (segment_map o) o.first o.size o.overhead (piece_reading t) c.args.piece.now c.in-Err.e.kind c.requires r.1 c.in-Err.ensures.refused
