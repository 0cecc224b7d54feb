-- From a writer to the object that C holds.
use Rattle.std.proofs.Common.{◌≡◌, inl, inr, ℕ, List, Option, Some, None, Result, Ok, Err, sym, subst}
use Rattle.std.specs.Prelude.{IfOk, IfErr, MatchResult}
use Rattle.std.specs.Global.{Box}
use Rattle.stream_model.specs.Key.{StreamKey}
use Rattle.tink_io.specs.declared.error.Kind.TheVariants.{OutOfMemory}
use Rattle.tink_io.specs.declared.error.TinkError.{TinkError}
use Rattle.tink_streaming_segment.specs.Sealers.{segment_map}
use Rattle.tink_c_bytes.specs.Delivered.{Handed}
use Rattle.tink_c_pieces.specs.Moments.{piece_moment}
use Rattle.tink_c_streams.specs.Writers.{BeginsNoWriter, BeginsWriter, EndsStream, GoesOn, IsWriting}
use Rattle.tink_c_streams.proofs.WriterFacts.{ends, goes_on}
use Rattle.tink_c_objects.specs.declared.object.Object.{Object}
use Rattle.tink_c_objects.specs.declared.object.Object.TheVariants.{Aead, Daead, Mac, Prfs, Ranges, Reader, Writer}
use Rattle.tink_c_objects.specs.Objects.{Puts}
use Rattle.tink_c_objects.specs.Writers.{FillsWriter, OfWriter, WriterEnds, WriterTakes}

pub filled : (file aad random : List ℕ) (loaded : Result (Box Object) TinkError) (old new : Option Object) (status : ℕ)
    → MatchResult loaded (λ b. OfWriter (BeginsWriter file aad random) (Some b.value)) (λ e. BeginsNoWriter file aad random e.kind)
    → Puts loaded old new status → FillsWriter file aad random old new status
filled file aad random (Ok b) old new status begins puts =
    inl (record { begins = subst (OfWriter (BeginsWriter file aad random)) (sym puts.0) begins; status_ok = puts.1 })
filled file aad random (Err e) old new status refused puts =
    inr (record { kind = e.kind; refused = refused; same = puts.0; status_err = puts.1 })

pub boxed_writer : (file aad random : List ℕ) (object : Object) (result : Result (Box Object) TinkError) → OfWriter (BeginsWriter file aad random) (Some object)
    → IfOk result (λ b. b.value ≡ object) → IfErr result (λ e. e.kind ≡ OutOfMemory)
    → MatchResult result (λ b. OfWriter (BeginsWriter file aad random) (Some b.value)) (λ e. BeginsNoWriter file aad random e.kind)
boxed_writer file aad random object (Ok b) begins is short = subst (λ (x : Object). OfWriter (BeginsWriter file aad random) (Some x)) (sym is) begins
boxed_writer file aad random object (Err e) begins is short = inl short

module _ (k : StreamKey) (aad random text bytes : List ℕ) where
  pub takes : (piece : List ℕ) (h : Handed) (old new : Option Object) → WriterTakes piece h old new → OfWriter (IsWriting k aad random text bytes) old
      → OfWriter (GoesOn k aad random text bytes piece h) new
  takes piece h (Some (Writer w)) (Some (Writer v)) t is =
      subst (λ s. GoesOn k aad random text bytes piece h (segment_map s) s.first s.room (piece_moment v)) (sym t.0)
      (goes_on k aad random (segment_map w.writer.sealer) w.writer.sealer.first w.writer.sealer.room text bytes (piece_moment w) (piece_moment v) piece h is t.1)
  takes piece h (Some (Writer w)) (Some (Aead a)) t is = absurd t
  takes piece h (Some (Writer w)) (Some (Daead a)) t is = absurd t
  takes piece h (Some (Writer w)) (Some (Mac a)) t is = absurd t
  takes piece h (Some (Writer w)) (Some (Prfs a)) t is = absurd t
  takes piece h (Some (Writer w)) (Some (Ranges a)) t is = absurd t
  takes piece h (Some (Writer w)) (Some (Reader a)) t is = absurd t
  takes piece h (Some (Writer w)) None t is = absurd t
  takes piece h _ new t is = absurd is

  pub gives_last : (h : Handed) (old new : Option Object) → WriterEnds h old new → OfWriter (IsWriting k aad random text bytes) old → EndsStream k aad random text bytes h
  gives_last h (Some (Writer w)) (Some (Writer v)) t is =
      ends k aad random (segment_map w.writer.sealer) w.writer.sealer.first w.writer.sealer.room text bytes (piece_moment w) (piece_moment v) h is t.1
  gives_last h (Some (Writer w)) (Some (Aead a)) t is = absurd t
  gives_last h (Some (Writer w)) (Some (Daead a)) t is = absurd t
  gives_last h (Some (Writer w)) (Some (Mac a)) t is = absurd t
  gives_last h (Some (Writer w)) (Some (Prfs a)) t is = absurd t
  gives_last h (Some (Writer w)) (Some (Ranges a)) t is = absurd t
  gives_last h (Some (Writer w)) (Some (Reader a)) t is = absurd t
  gives_last h (Some (Writer w)) None t is = absurd t
  gives_last h _ new t is = absurd is
