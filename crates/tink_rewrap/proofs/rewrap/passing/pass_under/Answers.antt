use Rattle.std.proofs.Common.{◌+◌, ℕ, Bool, List, take, length, refl, sym, ap, ◌∙◌, arith, le_refl, le_trans}
use Rattle.std.specs.Io.KnownBytes.{prepend_known}
use Rattle.std.proofs.KnownBytes.{Keeps-refl}
use Rattle.std.proofs.lemmas.Result.{err_from_is_err_and}
use Rattle.stream_model.specs.Cut.{numbered}
use Rattle.tink_streaming_io.proofs.ReadingFacts.{numbered_longer}
use Rattle.tink_streaming_ciphers.specs.StreamSegments.{length-segment_by, segment_by}
use Rattle.tink_io.specs.Outside.{Outside, outside_of}
use Rattle.tink_run.proofs.OpenSteps.{unread}
use Rattle.tink_streaming_aead.proofs.DecryptSteps.{reads_more}
use Rattle.tink_rewrap.proofs.KeySteps.{begun_of, leaves_or_begins_same, pass_not_started, pass_started}
use Rattle.tink_run.proofs.RunSteps.{leaves_sink_same}
use Rattle.tink_rewrap.proofs.rewrap.passing.pass_under.Goals as goal

pub returns-in_err-reader : goal.returns-in_err-reader
returns-in_err-reader g c = record {
  answer = (let p = err_from_is_err_and c.from_residual.result c.from_residual.ensures.1 in
      let kept = c.args.trial.kept in
      let none_held = unread kept.filled kept.buffer.items (g.S.Source.left c.args.source.now) c.requires.trial.0 in
      rw (p.1, p.2) (pass_not_started _ _ _ _ _ _ (Keeps-refl _) (reads_more _ _ _ _ (omega arith) c.start.ensures.read.0) (rw none_held at c.in_err-reader.ensures.refused)));
  unwritten = leaves_sink_same c.from_residual.result c.args.sink.now;
  begun = leaves_or_begins_same _ (outside_of g.S.Source.left g.S.Source.faults g.K.Sink.got g.K.Sink.faults c.args.source.now c.args.sink.now) c.from_residual.result c.args.sink.now;
  later = record { reads = c.start.ensures.stays.0; writes = le_refl _ };
  source = c.start.ensures.stays.1;
  sink = g.met.K.Sink.same_refl _;
}

pub returns : goal.returns
returns g c = record {
  answer = (let kept = c.args.trial.kept in
      let none_held = unread kept.filled kept.buffer.items (g.S.Source.left c.args.source.now) c.requires.trial.0 in
      let reader = c.in_ok-reader.reader in
      let opener = reader.opener in
      let seg : ℕ → Bool → List ℕ → List ℕ = numbered (segment_by opener.decrypter) opener.nonce_size opener.prefix.items in
      let started : Outside = record { left = prepend_known (take reader.filled reader.buffer.items) (g.S.Source.left c.start.new.source); read_faults = g.S.Source.faults c.start.new.source; got = g.K.Sink.got c.args.sink.now; write_faults = g.K.Sink.faults c.args.sink.now } in
      pass_started _ _ seg opener.first opener.size opener.overhead _ _ started _ _ opener.some
      (numbered_longer (segment_by opener.decrypter) opener.nonce_size opener.prefix.items opener.overhead (λ n t. length-segment_by opener.decrypter n t ∙ ap (λ x. length t + x) (sym opener.overhead_is)))
      refl c.start.ensures.stays.0 (le_refl _) (rw none_held at c.in_ok-reader.ensures.started) (rw c.in_ok-reader.ensures.fresh.3 at c.pass.ensures.answer));
  unwritten = c.pass.ensures.unwritten;
  begun = (let kept = c.args.trial.kept in
      let none_held = unread kept.filled kept.buffer.items (g.S.Source.left c.args.source.now) c.requires.trial.0 in
      let reader = c.in_ok-reader.reader in
      let opener = reader.opener in
      let seg : ℕ → Bool → List ℕ → List ℕ = numbered (segment_by opener.decrypter) opener.nonce_size opener.prefix.items in
      begun_of _ seg opener.first opener.size opener.overhead (prepend_known (take reader.filled reader.buffer.items) (g.S.Source.left c.start.new.source)) (outside_of g.S.Source.left g.S.Source.faults g.K.Sink.got g.K.Sink.faults c.args.source.now c.args.sink.now) c.pass.result _ _ (rw none_held at c.in_ok-reader.ensures.started));
  later = record { reads = le_trans c.start.ensures.stays.0 c.pass.ensures.later.reads; writes = c.pass.ensures.later.writes };
  source = g.met.S.Source.same_trans _ _ _ c.start.ensures.stays.1 c.pass.ensures.source;
  sink = c.pass.ensures.sink;
}

pub start-requires : goal.start-requires
start-requires g c = record { room = c.requires.trial.1 }

pub pass-requires-clause-open : goal.pass-requires-clause-open
pass-requires-clause-open g c = c.requires.stream.0

pub pass-requires-clause-fresh : goal.pass-requires-clause-fresh
pass-requires-clause-fresh g c = c.requires.stream.1

pub pass-requires-clause-empty : goal.pass-requires-clause-empty
pass-requires-clause-empty g c = c.requires.stream.2

pub pass-requires-clause-running : goal.pass-requires-clause-running
pass-requires-clause-running g c = c.in_ok-reader.ensures.fresh.0

pub pass-requires-clause-first : goal.pass-requires-clause-first
pass-requires-clause-first g c = c.in_ok-reader.ensures.fresh.1
