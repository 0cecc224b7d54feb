use Rattle.std.proofs.Common.{inl, ℕ, List, subst, sym}
use Rattle.std.specs.Prelude.{MatchResult}
use Rattle.stream_model.specs.Opening.{OpeningKey}
use Rattle.tink_streaming_segment.specs.Openers.{segment_map}
use Rattle.tink_c_pieces.specs.Readings.{piece_reading}
use Rattle.tink_c_streams.specs.Readers.{EndRefused, IsEnded, IsReading}
use Rattle.tink_c_streams.specs.declared.readers.PieceReader.TheVariants.{Ending, Going}
use Rattle.tink_c_streams.proofs.ReaderSteps.{lifted, no_more}
use Rattle.tink_c_streams.proofs.readers.ended.Goals as goal

pub returns-in-Going : goal.returns-in-Going
returns-in-Going c =
    let t = c.in-Going.text in
    let o = t.reader.opener in
    let reading : (keys : List OpeningKey) (came given : List ℕ) → IsReading keys came given (Going t) → IsReading keys came given (Ending t) = λ keys came given r.
    (inl (r.0, no_more keys came given (segment_map o) o.first o.size o.overhead (piece_reading t) r.1)) in
    subst (λ x. MatchResult c.ended_text.result (λ r. IsEnded x r) (λ e. EndRefused x e.kind)) (sym c.in-Going.is)
    (lifted c.ended_text.result (IsEnded (Ending t)) (IsEnded (Going t)) (EndRefused (Ending t)) (EndRefused (Going t))
    (λ new m. record { shut = m.shut; ends = λ keys came given r. m.ends keys came given (reading keys came given r) })
    (λ kind m. λ keys came given r. m keys came given (reading keys came given r)) c.ended_text.ensures)
