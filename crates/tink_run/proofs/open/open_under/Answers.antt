use Rattle.std.proofs.Common.{◌+◌, ℕ, Bool, List, take, length, refl, sym, ap, ◌∙◌, arith, le_refl}
use Rattle.std.specs.Io.KnownBytes.{prepend_known}
use Rattle.std.proofs.KnownBytes.{Keeps-refl}
use Rattle.std.proofs.lemmas.Result.{err_from_is_err_and}
use Rattle.stream_model.specs.Cut.{numbered}
use Rattle.tink_streaming_io.proofs.ReadingFacts.{numbered_longer}
use Rattle.tink_streaming_ciphers.specs.StreamSegments.{length-segment_by, segment_by}
use Rattle.tink_io.specs.Outside.{Outside}
use Rattle.tink_run.proofs.OpenSteps.{unread, start_refused, means_under}
use Rattle.tink_streaming_aead.proofs.DecryptSteps.{reads_more}
use Rattle.tink_run.proofs.ReadsSteps.{reads_under, start_reads}
use Rattle.tink_run.proofs.open.open_under.Goals as goal

pub returns-in_err-reader : goal.returns-in_err-reader
returns-in_err-reader g c = record {
  answer = (let p = err_from_is_err_and c.from_residual.result c.from_residual.ensures.1 in
      let kept = c.args.trial.kept in
      let none_held = unread kept.filled kept.buffer.items (g.S.Source.left c.args.source.now) c.requires.filled in
      let refused = rw none_held at c.in_err-reader.ensures.refused in
      rw (p.1, p.2) (start_refused _ _ _ _ (Keeps-refl _) refused, start_reads _ _ _ _ _ (Keeps-refl _) (reads_more _ _ _ _ (omega arith) c.start.ensures.read.0) refused));
  unwritten = (let p = err_from_is_err_and c.from_residual.result c.from_residual.ensures.1 in
      rw (p.1, p.2) (λ _. refl));
  later = record { reads = c.in_err-reader.ensures.stays.0; writes = le_refl _ };
  source = c.in_err-reader.ensures.stays.1;
  sink = g.met.K.Sink.same_refl _;
}

pub returns : goal.returns
returns g c = record {
  answer = (let kept = c.args.trial.kept in
      let none_held = unread kept.filled kept.buffer.items (g.S.Source.left c.args.source.now) c.requires.filled in
      let reader = c.in_ok-reader.reader in
      let opener = reader.opener in
      let seg : ℕ → Bool → List ℕ → List ℕ = numbered (segment_by opener.decrypter) opener.nonce_size opener.prefix.items in
      let started : Outside = record { left = prepend_known (take reader.filled reader.buffer.items) (g.S.Source.left c.start.new.source); read_faults = g.S.Source.faults c.start.new.source; got = g.K.Sink.got c.args.sink.now; write_faults = g.K.Sink.faults c.args.sink.now } in
      let begun = rw none_held at c.in_ok-reader.ensures.started in (
        means_under _ seg opener.first opener.size opener.overhead _ started _ _ opener.some
            (numbered_longer (segment_by opener.decrypter) opener.nonce_size opener.prefix.items opener.overhead (λ n t. length-segment_by opener.decrypter n t ∙ ap (λ x. length t + x) (sym opener.overhead_is)))
            refl c.start.ensures.stays.0 (le_refl _) begun c.open_stream.ensures.answer,
        reads_under _ _ seg opener.first opener.size opener.overhead _ started _ refl begun _ c.open_stream.ensures.answer (rw c.in_ok-reader.ensures.fresh.3 at c.open_stream.ensures.read),
      ));
  unwritten = c.open_stream.ensures.unwritten;
  later = record { reads = omega (arith, c.in_ok-reader.ensures.stays.0, c.open_stream.ensures.later.reads); writes = c.open_stream.ensures.later.writes };
  source = g.met.S.Source.same_trans _ _ _ c.in_ok-reader.ensures.stays.1 c.open_stream.ensures.source;
  sink = c.open_stream.ensures.sink;
}
