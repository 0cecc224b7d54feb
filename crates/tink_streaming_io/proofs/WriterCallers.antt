-- What callers of a writer that owns its sink conclude.
use Rattle.std.proofs.Common.{◌≡◌, ℕ, Bool, List, [], subst}
use Rattle.std.specs.declared.option.Option.{Option}
use Rattle.std.specs.Prelude.{Result, Ok, Err, OnOk}
use Rattle.std.specs.Io.KnownBytes.{Appends}
use Rattle.stream_model.specs.Cut.{sealed}
use Rattle.tink_io.specs.declared.error.TinkError.{TinkError}
use Rattle.tink_streaming_io.proofs.WritingFacts.{close_ok}
use Rattle.tink_streaming_io.specs.declared.writing.Mode.TheVariants.{Open}
use Rattle.tink_streaming_io.specs.Writers.{SegmentSealing, WriterState, moment_of, seg_of}
use Rattle.tink_streaming_io.specs.Writing.{WriterMoment, Wrote, CloseMeans}

appended : (seg : ℕ → Bool → List ℕ → List ℕ) (a b : ℕ) (m n o : WriterMoment) (R : List ℕ) (r : Result (Unit {0}) TinkError) → m.mode ≡ Open → m.number ≡ 0 → m.held ≡ []
    → Wrote seg a b m n R → CloseMeans seg n o r → OnOk r (Appends m.got o.got (sealed seg a b R))
appended seg a b m n o R (Ok u) mode number held w c = (close_ok seg a b m n o R (Ok u) (record { mode = mode; number = number; held = held }) w c).0
appended seg a b m n o R (Err e) mode number held w c = tt

-- one that had written nothing was given a text and closed: its sink got the text's segments
pub sealed_whole : {W E : Type 0} → (seg : E → List ℕ → List ℕ → List ℕ) (got : W → Option (List ℕ)) (faults : W → ℕ) (m n o : WriterState W E) (R : List ℕ) (r : Result (Unit {0}) TinkError)
    → m.mode ≡ Open → m.number ≡ 0 → m.held ≡ [] → n.sealing ≡ m.sealing
    → Wrote (seg_of seg m.sealing) m.sealing.first m.sealing.room (moment_of got faults m) (moment_of got faults n) R
    → CloseMeans (seg_of seg n.sealing) (moment_of got faults n) (moment_of got faults o) r
    → OnOk r (Appends (got m.sink) (got o.sink) (sealed (seg_of seg m.sealing) m.sealing.first m.sealing.room R))
sealed_whole {E = E} seg got faults m n o R r mode number held e w c =
    appended (seg_of seg m.sealing) m.sealing.first m.sealing.room (moment_of got faults m) (moment_of got faults n) (moment_of got faults o) R r mode number held w
    (subst (λ (s : SegmentSealing E). CloseMeans (seg_of seg s) (moment_of got faults n) (moment_of got faults o) r) e c)
