use Rattle.tink_io.specs.Outside.{Outside, outside_of}
use Rattle.tink_rewrap.specs.Rewrapping.{sides}
use Rattle.tink_tokens.specs.Inputs.{IsUnloadable, IsUnwritten}
use Rattle.tink_tokens.specs.Tokens.{RefusesSigning, RefusesVerifying, SignsTo, VerifiesTo}
use Rattle.tink_cli_files.proofs.StreamLemmas.{done_by}
use Rattle.tink_cli_files.proofs.TaskLemmas.{answered, answered_done, answered_succeeds, no_move, rewrap_begun, rewrap_said, run_said, run_unread, run_unwritten, token_leaves, token_said}
use Rattle.tink_cli_files.proofs.tasks.write_task.Goals as goal

pub returns-in-Run-clause-means : goal.returns-in-Run-clause-means
returns-in-Run-clause-means g c = rw (c.in-Run.is, c.with_report.ensures) (run_said _ _ _ _ _ _ _ c.run.result c.run.ensures.answer c.run.ensures.read)

pub returns-in-Run-clause-ok : goal.returns-in-Run-clause-ok
returns-in-Run-clause-ok g c = rw (c.in-Run.is, c.with_report.ensures) (answered_done _ _ c.run.result c.run.ensures.ok)

pub returns-in-Run-clause-succeeds : goal.returns-in-Run-clause-succeeds
returns-in-Run-clause-succeeds g c = rw (c.in-Run.is, c.with_report.ensures) (λ T G told can.
    answered_succeeds _ _ _ _ _ c.run.result (done_by c.run.result _ _ (λ faultless. c.run.ensures.succeeds T G told faultless can)))

pub returns-in-Run-clause-unread : goal.returns-in-Run-clause-unread
returns-in-Run-clause-unread g c = rw (c.in-Run.is, c.with_report.ensures) (run_unread c.run.result c.args.source.now c.run.new.source c.args.sink.now c.run.new.sink c.run.ensures.early)

pub returns-in-Run-clause-unwritten : goal.returns-in-Run-clause-unwritten
returns-in-Run-clause-unwritten g c = rw (c.in-Run.is, c.with_report.ensures) (run_unwritten c.run.result c.args.sink.now c.run.new.sink c.run.ensures.unwritten)

pub returns-in-Run-clause-begun : goal.returns-in-Run-clause-begun
returns-in-Run-clause-begun g c = rw (c.in-Run.is, c.with_report.ensures) (no_move _ c.run.result)

pub returns-in-Run-clause-later : goal.returns-in-Run-clause-later
returns-in-Run-clause-later g c = c.run.ensures.stays.0

pub returns-in-Rewrap-clause-means : goal.returns-in-Rewrap-clause-means
returns-in-Rewrap-clause-means g c = rw (c.in-Rewrap.is, c.with_report-in-Rewrap.ensures) (rewrap_said _ _ _ _ _ c.rewrap.result c.rewrap.ensures.answer c.rewrap.ensures.read)

pub returns-in-Rewrap-clause-ok : goal.returns-in-Rewrap-clause-ok
returns-in-Rewrap-clause-ok g c = rw (c.in-Rewrap.is, c.with_report-in-Rewrap.ensures) (answered_done _ _ c.rewrap.result c.rewrap.ensures.rewrapped)

pub returns-in-Rewrap-clause-succeeds : goal.returns-in-Rewrap-clause-succeeds
returns-in-Rewrap-clause-succeeds g c = rw (c.in-Rewrap.is, c.with_report-in-Rewrap.ensures) (λ T G told can.
    answered_succeeds _ _ _ _ _ c.rewrap.result (done_by c.rewrap.result _ _ (λ faultless. c.rewrap.ensures.succeeds T G told faultless can)))

pub returns-in-Rewrap-clause-unread : goal.returns-in-Rewrap-clause-unread
returns-in-Rewrap-clause-unread g c = rw (c.in-Rewrap.is, c.with_report-in-Rewrap.ensures) (run_unread c.rewrap.result c.args.source.now c.rewrap.new.source c.args.sink.now c.rewrap.new.sink c.rewrap.ensures.early)

pub returns-in-Rewrap-clause-unwritten : goal.returns-in-Rewrap-clause-unwritten
returns-in-Rewrap-clause-unwritten g c = rw (c.in-Rewrap.is, c.with_report-in-Rewrap.ensures) (run_unwritten c.rewrap.result c.args.sink.now c.rewrap.new.sink c.rewrap.ensures.unwritten.0)

pub returns-in-Rewrap-clause-begun : goal.returns-in-Rewrap-clause-begun
returns-in-Rewrap-clause-begun g c =
    let old : Outside = outside_of g.S.Source.left g.S.Source.faults g.K.Sink.got g.K.Sink.faults c.args.source.now c.args.sink.now in
    rw (c.in-Rewrap.is, c.with_report-in-Rewrap.ensures)
    (rewrap_begun (sides c.args.keyset.now c.args.aad.now c.in-Rewrap.to.now c.in-Rewrap.to_aad.now) old c.rewrap.result c.args.sink.now c.rewrap.new.sink c.rewrap.ensures.unwritten.1)

pub returns-in-Rewrap-clause-later : goal.returns-in-Rewrap-clause-later
returns-in-Rewrap-clause-later g c = c.rewrap.ensures.stays.0

pub returns-in-Sign-clause-means : goal.returns-in-Sign-clause-means
returns-in-Sign-clause-means g c = rw (c.in-Sign.is, c.without_report.ensures) (token_said SignsTo RefusesSigning _ _ _ _ c.write_token.result c.write_token.ensures.answer c.write_token.ensures.taken)

pub returns-in-Sign-clause-ok : goal.returns-in-Sign-clause-ok
returns-in-Sign-clause-ok g c =
    rw (c.in-Sign.is, c.without_report.ensures) (answered_done _ _ c.write_token.result (answered _ _ _ _ _ c.write_token.result c.write_token.ensures.answer))

pub returns-in-Sign-clause-succeeds : goal.returns-in-Sign-clause-succeeds
returns-in-Sign-clause-succeeds g c = rw (c.in-Sign.is, c.without_report.ensures) (λ T G told can.
    answered_succeeds _ _ _ _ _ c.write_token.result (λ unread unwritten. c.write_token.ensures.succeeds T G told (record { reads = unread; writes = unwritten }) can))

pub returns-in-Sign-clause-unread : goal.returns-in-Sign-clause-unread
returns-in-Sign-clause-unread g c = rw (c.in-Sign.is, c.without_report.ensures) (token_leaves IsUnloadable c.write_token.result c.args.source.now c.write_token.new.source c.write_token.ensures.unread)

pub returns-in-Sign-clause-unwritten : goal.returns-in-Sign-clause-unwritten
returns-in-Sign-clause-unwritten g c = rw (c.in-Sign.is, c.without_report.ensures) (token_leaves IsUnwritten c.write_token.result c.args.sink.now c.write_token.new.sink c.write_token.ensures.unwritten)

pub returns-in-Sign-clause-begun : goal.returns-in-Sign-clause-begun
returns-in-Sign-clause-begun g c = rw (c.in-Sign.is, c.without_report.ensures) (no_move _ c.write_token.result)

pub returns-in-Sign-clause-later : goal.returns-in-Sign-clause-later
returns-in-Sign-clause-later g c = c.write_token.ensures.later

pub returns-in-Verify-clause-means : goal.returns-in-Verify-clause-means
returns-in-Verify-clause-means g c = rw (c.in-Verify.is, c.without_report-in-Verify.ensures) (token_said VerifiesTo RefusesVerifying _ _ _ _ c.write_payload.result c.write_payload.ensures.answer c.write_payload.ensures.taken)

pub returns-in-Verify-clause-ok : goal.returns-in-Verify-clause-ok
returns-in-Verify-clause-ok g c =
    rw (c.in-Verify.is, c.without_report-in-Verify.ensures) (answered_done _ _ c.write_payload.result (answered _ _ _ _ _ c.write_payload.result c.write_payload.ensures.answer))

pub returns-in-Verify-clause-succeeds : goal.returns-in-Verify-clause-succeeds
returns-in-Verify-clause-succeeds g c = rw (c.in-Verify.is, c.without_report-in-Verify.ensures) (λ T G told can.
    answered_succeeds _ _ _ _ _ c.write_payload.result (λ unread unwritten. c.write_payload.ensures.succeeds T G told (record { reads = unread; writes = unwritten }) can))

pub returns-in-Verify-clause-unread : goal.returns-in-Verify-clause-unread
returns-in-Verify-clause-unread g c = rw (c.in-Verify.is, c.without_report-in-Verify.ensures) (token_leaves IsUnloadable c.write_payload.result c.args.source.now c.write_payload.new.source c.write_payload.ensures.unread)

pub returns-in-Verify-clause-unwritten : goal.returns-in-Verify-clause-unwritten
returns-in-Verify-clause-unwritten g c = rw (c.in-Verify.is, c.without_report-in-Verify.ensures) (token_leaves IsUnwritten c.write_payload.result c.args.sink.now c.write_payload.new.sink c.write_payload.ensures.unwritten)

pub returns-in-Verify-clause-begun : goal.returns-in-Verify-clause-begun
returns-in-Verify-clause-begun g c = rw (c.in-Verify.is, c.without_report-in-Verify.ensures) (no_move _ c.write_payload.result)

pub returns-in-Verify-clause-later : goal.returns-in-Verify-clause-later
returns-in-Verify-clause-later g c = c.write_payload.ensures.later
