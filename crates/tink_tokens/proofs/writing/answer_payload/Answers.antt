use Rattle.std.proofs.Common.{refl, le_refl}
use Rattle.std.proofs.lemmas.Result.{err_from_is_err_and}
use Rattle.tink_tokens.specs.Tokens.{RefusesVerifying, VerifiesTo}
use Rattle.tink_tokens.proofs.TokenCalls.{not_loaded, not_made, verifying_only, loaded_first, fault_loaded, fault_writes, made}
use Rattle.tink_io.specs.Outside.{Outside, outside_of}
use Rattle.tink_tokens.proofs.writing.answer_payload.Goals as goal

pub returns-in_err-macs-clause-answer : goal.returns-in_err-macs-clause-answer
returns-in_err-macs-clause-answer g c =
    let p = err_from_is_err_and c.from_residual.result c.from_residual.ensures.1 in
    rw (p.1, p.2) (not_loaded VerifiesTo RefusesVerifying c.args.keyset.now _ c.in_err-macs.field-0.0 c.in_err-macs.ensures)

pub returns-in_err-payload-clause-answer : goal.returns-in_err-payload-clause-answer
returns-in_err-payload-clause-answer g c =
    let p = err_from_is_err_and c.from_residual-in_err-payload.result c.from_residual-in_err-payload.ensures.1 in
    let loaded = c.in_ok-macs.ensures in
    rw (p.1, p.2) (not_made VerifiesTo RefusesVerifying c.args.keyset.now verifying_only _ _ loaded.0 _ loaded.1 refl refl (c.in_err-payload.ensures.answer loaded.0 loaded.2))

pub returns-in_err-macs-clause-source_same : goal.returns-in_err-macs-clause-source_same
returns-in_err-macs-clause-source_same g c = g.met.S.Source.same_refl _

pub returns-in_err-macs-clause-sink_same : goal.returns-in_err-macs-clause-sink_same
returns-in_err-macs-clause-sink_same g c = g.met.K.Sink.same_refl _

pub returns-in_err-macs-clause-later : goal.returns-in_err-macs-clause-later
returns-in_err-macs-clause-later g c = record { reads = le_refl _; writes = le_refl _ }

pub returns-in_err-payload-clause-unread : goal.returns-in_err-payload-clause-unread
returns-in_err-payload-clause-unread g c =
    let p = err_from_is_err_and c.from_residual-in_err-payload.result c.from_residual-in_err-payload.ensures.1 in
    let loaded = c.in_ok-macs.ensures in
    rw (p.1, p.2) (loaded_first VerifiesTo RefusesVerifying c.args.keyset.now verifying_only loaded.0 _ _ _ _ c.in_err-payload.field-0.0.kind _ _ (c.in_err-payload.ensures.answer loaded.0 loaded.2))

pub returns-in_err-payload-clause-taken : goal.returns-in_err-payload-clause-taken
returns-in_err-payload-clause-taken g c = c.verified_input.ensures.taken

pub returns-in_err-payload-clause-later : goal.returns-in_err-payload-clause-later
returns-in_err-payload-clause-later g c = record { reads = c.verified_input.ensures.later; writes = le_refl _ }

pub returns-in_err-payload-clause-source_same : goal.returns-in_err-payload-clause-source_same
returns-in_err-payload-clause-source_same g c = c.verified_input.ensures.same

pub returns-in_err-payload-clause-sink_same : goal.returns-in_err-payload-clause-sink_same
returns-in_err-payload-clause-sink_same g c = g.met.K.Sink.same_refl _

pub returns-clause-unread : goal.returns-clause-unread
returns-clause-unread g c = fault_loaded c.write_all.result _ _ c.write_all.ensures.refused

pub returns-clause-unwritten : goal.returns-clause-unwritten
returns-clause-unwritten g c = fault_writes c.write_all.result _ _ c.write_all.ensures.refused

pub returns-clause-taken : goal.returns-clause-taken
returns-clause-taken g c = c.verified_input.ensures.taken

pub returns-clause-source_same : goal.returns-clause-source_same
returns-clause-source_same g c = c.verified_input.ensures.same

pub returns-clause-later : goal.returns-clause-later
returns-clause-later g c = record { reads = c.verified_input.ensures.later; writes = c.write_all.ensures.later }

pub returns-clause-sink_same : goal.returns-clause-sink_same
returns-clause-sink_same g c = c.write_all.ensures.same

pub returns-clause-answer : goal.returns-clause-answer
returns-clause-answer g c =
    let old : Outside = outside_of g.S.Source.left g.S.Source.faults g.K.Sink.got g.K.Sink.faults c.args.source.now c.args.sink.now in
    let new : Outside = outside_of g.S.Source.left g.S.Source.faults g.K.Sink.got g.K.Sink.faults c.verified_input.new.source c.write_all.new.sink in
    let loaded = c.in_ok-macs.ensures in
    let wrote = c.write_all.ensures in
    made VerifiesTo RefusesVerifying c.args.keyset.now old new loaded.0 c.in_ok-payload.payload c.as_slice.result.now c.write_all.result loaded.1 (c.in_ok-payload.ensures.answer loaded.0 loaded.2) c.as_slice.ensures wrote.written wrote.prefix wrote.cause wrote.refused
