use Rattle.std.proofs.Common.{◌++◌, refl, subst, sym, take}
use Rattle.tink_streaming_segment.specs.Openers.{segment_map}
use Rattle.tink_streaming_io.specs.Openers.{held_bytes}
use Rattle.tink_c_pieces.specs.Readings.{piece_reading}
use Rattle.tink_c_streams.specs.Readers.{IsGoing, ReadMeans}
use Rattle.tink_c_streams.specs.declared.readers.PieceReader.TheVariants.{Going}
use Rattle.tink_c_streams.proofs.ReaderSteps.{gives_going}
use Rattle.tink_c_streams.proofs.readers.PieceReader.read.Goals as goal

pub returns-in-Going : goal.returns-in-Going
returns-in-Going c =
    let t = c.in-Going.text in
    let u = c.give.new.text in
    let g = c.give.ensures in
    let out = take c.give.result c.give.new.out in
    let o = t.reader.opener in
    subst (λ x. ReadMeans x (Going u) c.args.out.now c.give.new.out c.give.result 0) (sym c.in-Going.is) (
      record {
        count = g.count;
        given = g.given;
        behind = g.behind;
        waits = g.pending;
        only = g.reader;
        reads = λ keys came text r.
            subst (λ p. IsGoing keys came (text ++ out) (segment_map p) p.first p.size p.overhead (piece_reading u)) (λ i. (sym g.reader i).opener)
            (gives_going keys came text (segment_map o) o.first o.size o.overhead (piece_reading t) (piece_reading u) out c.give.result
            (λ i. (g.reader i).progress) (λ i. (g.reader i).segments) (λ i. held_bytes (g.reader i)) g.given g.pending r);
      },
      refl,
    )
