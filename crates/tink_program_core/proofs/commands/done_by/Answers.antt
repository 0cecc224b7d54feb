use Rattle.std.proofs.Common.{refl}
use Rattle.std.proofs.lemmas.Bool.{false≢true}
use Rattle.tink_program_core.proofs.KeysetLemmas.{keyset_promised, line_leaves, line_outcome}
use Rattle.tink_program_core.proofs.LargeLemmas.{large_outcome, large_promised}
use Rattle.tink_program_core.proofs.RangeLemmas.{range_leaves, range_outcome, range_promised}
use Rattle.tink_program_core.proofs.RewrapLemmas.{rewrap_leaves, rewrap_outcome, rewrap_promised}
use Rattle.tink_program_core.proofs.StreamLemmas.{leaves_by, open_outcome, open_promised, seal_outcome, seal_promised}
use Rattle.tink_program_core.proofs.TokenLemmas.{sign_leaves, sign_promised, token_outcome, verify_leaves, verify_promised}
use Rattle.tink_tokens.specs.Tokens.{RefusesSigning, RefusesVerifying, SignsTo, VerifiesTo}
use Rattle.tink_program_core.proofs.commands.done_by.Goals as goal

pub returns-in-Seal : goal.returns-in-Seal
returns-in-Seal g c =
    rw (c.in-Seal.is, c.outcome_of.ensures) (record {
      means = seal_outcome _ _ _ _ _ c.run_seal.result c.run_seal.ensures.ran;
      early = leaves_by _ _ _ _ _ _ c.run_seal.result _ _ _ _ c.run_seal.ensures.ran c.run_seal.ensures.ends;
      kept = λ is. absurd (false≢true is);
      promised = seal_promised _ _ _ _ _ c.run_seal.result c.run_seal.ensures.ran;
      source = c.run_seal.ensures.source;
      sink = c.run_seal.ensures.sink;
    })

pub returns-in-Open : goal.returns-in-Open
returns-in-Open g c =
    rw (c.in-Open.is, c.outcome_of-in-Open.ensures) (record {
      means = open_outcome _ _ _ _ c.run_open.result c.run_open.ensures.ran;
      early = leaves_by _ _ _ _ _ _ c.run_open.result _ _ _ _ c.run_open.ensures.ran c.run_open.ensures.ends;
      kept = λ is. absurd (false≢true is);
      promised = open_promised _ _ _ _ c.run_open.result c.run_open.ensures.ran;
      source = c.run_open.ensures.source;
      sink = c.run_open.ensures.sink;
    })

pub returns-in-Keygen : goal.returns-in-Keygen
returns-in-Keygen g c =
    rw (c.in-Keygen.is, c.outcome_of-in-Keygen.ensures) (record {
      means = line_outcome _ _ _ c.write_new.result refl refl (rw c.as_str.ensures.value at c.write_new.ensures.answer);
      early = line_leaves c.write_new.result _ _ _ c.write_new.ensures.early;
      kept = λ _. refl;
      promised = keyset_promised _ _ _ _ (line_outcome _ _ _ c.write_new.result refl refl (rw c.as_str.ensures.value at c.write_new.ensures.answer));
      source = g.met.S.Source.same_refl _;
      sink = c.write_new.ensures.sink;
    })

pub returns-in-Rotate : goal.returns-in-Rotate
returns-in-Rotate g c =
    rw (c.in-Rotate.is, c.outcome_of-in-Rotate.ensures) (record {
      means = line_outcome _ _ _ c.write_rotated.result refl refl c.write_rotated.ensures.answer;
      early = line_leaves c.write_rotated.result _ _ _ c.write_rotated.ensures.early;
      kept = λ _. refl;
      promised = keyset_promised _ _ _ _ (line_outcome _ _ _ c.write_rotated.result refl refl c.write_rotated.ensures.answer);
      source = g.met.S.Source.same_refl _;
      sink = c.write_rotated.ensures.sink;
    })

pub returns-in-Large : goal.returns-in-Large
returns-in-Large g c =
    rw (c.in-Large.is, c.outcome_of-in-Large.ensures) (record {
      means = large_outcome _ _ _ c.write_large.result refl refl c.write_large.ensures.answer;
      early = line_leaves c.write_large.result _ _ _ c.write_large.ensures.early;
      kept = λ _. refl;
      promised = large_promised _ _ _ _ (large_outcome _ _ _ c.write_large.result refl refl c.write_large.ensures.answer);
      source = g.met.S.Source.same_refl _;
      sink = c.write_large.ensures.sink;
    })

pub returns-in-Range : goal.returns-in-Range
returns-in-Range g c =
    rw (c.in-Range.is, c.outcome_of-in-Range.ensures) (record {
      means = range_outcome _ _ _ _ _ _ c.write_range.result c.write_range.ensures.answer;
      early = range_leaves _ _ _ _ _ _ c.write_range.result _ _ _ _ c.write_range.ensures.answer c.write_range.ensures.unread c.write_range.ensures.unwritten;
      kept = λ is. absurd (false≢true is);
      promised = range_promised _ _ _ _ _ _ _ (range_outcome _ _ _ _ _ _ c.write_range.result c.write_range.ensures.answer) c.write_range.ensures.taken;
      source = c.write_range.ensures.source;
      sink = c.write_range.ensures.sink;
    })

pub returns-in-Sign : goal.returns-in-Sign
returns-in-Sign g c =
    rw (c.in-Sign.is, c.outcome_of-in-Sign.ensures) (record {
      means = token_outcome SignsTo RefusesSigning _ _ _ c.write_token.result (rw c.deref.ensures.value at c.write_token.ensures.answer);
      early = sign_leaves _ _ _ c.write_token.result _ _ _ _ (rw c.deref.ensures.value at c.write_token.ensures.answer) c.write_token.ensures.unread c.write_token.ensures.unwritten;
      kept = λ is. absurd (false≢true is);
      promised = sign_promised _ _ _ _ (token_outcome SignsTo RefusesSigning _ _ _ c.write_token.result (rw c.deref.ensures.value at c.write_token.ensures.answer)) c.write_token.ensures.taken;
      source = c.write_token.ensures.source_same;
      sink = c.write_token.ensures.sink_same;
    })

pub returns-in-Verify : goal.returns-in-Verify
returns-in-Verify g c =
    rw (c.in-Verify.is, c.outcome_of-in-Verify.ensures) (record {
      means = token_outcome VerifiesTo RefusesVerifying _ _ _ c.write_payload.result (rw c.deref-in-Verify.ensures.value at c.write_payload.ensures.answer);
      early = verify_leaves _ _ _ c.write_payload.result _ _ _ _ (rw c.deref-in-Verify.ensures.value at c.write_payload.ensures.answer) c.write_payload.ensures.unread c.write_payload.ensures.unwritten;
      kept = λ is. absurd (false≢true is);
      promised = verify_promised _ _ _ _ (token_outcome VerifiesTo RefusesVerifying _ _ _ c.write_payload.result (rw c.deref-in-Verify.ensures.value at c.write_payload.ensures.answer)) c.write_payload.ensures.taken;
      source = c.write_payload.ensures.source_same;
      sink = c.write_payload.ensures.sink_same;
    })

pub returns-in-Rewrap : goal.returns-in-Rewrap
returns-in-Rewrap g c =
    rw (c.in-Rewrap.is, c.outcome_of-in-Rewrap.ensures) (record {
      means = rewrap_outcome _ _ _ _ c.run_rewrap.result c.run_rewrap.ensures.moved;
      early = rewrap_leaves _ _ _ _ c.run_rewrap.result _ _ _ _ c.run_rewrap.ensures.moved c.run_rewrap.ensures.ends;
      kept = λ is. absurd (false≢true is);
      promised = rewrap_promised _ _ _ _ c.run_rewrap.result c.run_rewrap.ensures.moved;
      source = c.run_rewrap.ensures.source;
      sink = c.run_rewrap.ensures.sink;
    })
