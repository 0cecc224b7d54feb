use Rattle.std.proofs.Common.{inl, subst, ℕ, List}
use Rattle.stream_model.specs.Opening.{OpeningKey}
use Rattle.tink_streaming_segment.specs.Keeping.{kept_bytes}
use Rattle.tink_streaming_segment.specs.Openers.{segment_map}
use Rattle.tink_c_pieces.specs.Readings.{piece_reading}
use Rattle.tink_c_streams.specs.Choices.{BeginsNoText, keys_of_choice}
use Rattle.tink_c_streams.specs.Readers.{EndRefused, IsEnded, IsReading, IsStopOf, ReadsBehind}
use Rattle.tink_c_streams.specs.declared.readers.PieceReader.TheVariants.{Choosing, Ending}
use Rattle.tink_c_streams.proofs.ReaderSteps.{chose_at_end, ends_with_none, lifted_by, stops_later}
use Rattle.tink_c_streams.proofs.readers.ended_choice.Goals as goal

pub returns-in-Ok : goal.returns-in-Ok
returns-in-Ok c =
    let choice = c.args.choice in
    let t = c.in-Ok.text in
    let o = t.reader.opener in
    let b = c.in-Ok.ensures in
    let reading : (keys : List OpeningKey) (came given : List ℕ) → IsReading keys came given (Choosing choice) → IsReading keys came given (Ending t) = λ keys came given r.
    (inl (
      b.progress,
      subst (λ S. ReadsBehind keys S given (segment_map o) o.first o.size o.overhead (piece_reading t)) r.1
          (chose_at_end (keys_of_choice choice) keys r.0 (kept_bytes choice.trial.kept) given (segment_map o) o.first o.size o.overhead (piece_reading t) r.2 b),
    )) in
    lifted_by c.finished.result (IsEnded (Ending t)) (IsEnded (Choosing choice)) (EndRefused (Ending t)) (EndRefused (Choosing choice)) (IsStopOf t.reader.segments)
    (λ new m. record { shut = m.shut; ends = λ keys came given r. m.ends keys came given (reading keys came given r) })
    (λ kind is m. λ keys came given r. stops_later keys came given kind (subst (λ i. IsStopOf i kind) b.number is) (m keys came given (reading keys came given r)))
    c.finished.ensures.answer c.finished.ensures.number

pub returns-in-Err : goal.returns-in-Err
returns-in-Err c =
    let choice = c.args.choice in
    λ keys came given r. ends_with_none (keys_of_choice choice) keys came c.in-Err.e.kind r.0
    (subst (λ S. BeginsNoText (keys_of_choice choice) S c.in-Err.e.kind) r.1 c.in-Err.ensures)
