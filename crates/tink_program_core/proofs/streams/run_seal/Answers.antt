use Rattle.tink_run.specs.declared.report.Command.TheVariants.{Seal}
use Rattle.std.proofs.Common.{◌∙◌, ap}
use Rattle.std.proofs.lemmas.Result.{err_from_is_err_and}
use Rattle.tink_io.specs.declared.error.TinkError.{TinkError}
use Rattle.tink_program_core.proofs.StreamLemmas.{ran_along, spared_same, want_ran}
use Rattle.tink_program_core.proofs.streams.run_seal.Goals as goal

pub returns-in_err-first_draws-clause-ran : goal.returns-in_err-first_draws-clause-ran
returns-in_err-first_draws-clause-ran g c =
    let p = err_from_is_err_and c.from_residual.result c.from_residual.ensures.1 in
    rw p.1 (want_ran _ _ _ _ p.0 (ap (λ (e : TinkError). e.kind) (p.2 ∙ c.in_err-first_draws.ensures.refused)))

pub returns-clause-ran : goal.returns-clause-ran
returns-clause-ran g c = ran_along Seal _ _ _ _ _ _ _ _ _ c.deref.ensures.value c.deref-2.ensures.value (c.new-draws.ensures ∙ c.in_ok-first_draws.ensures.draws) (record {
  left_draws = c.run.new.draws;
  means = c.run.ensures.answer;
  ok = c.run.ensures.ok;
  written = c.run.ensures.written;
  succeeds = c.run.ensures.succeeds;
  read = c.run.ensures.read;
})

pub returns-in_err-first_draws-clause-ends : goal.returns-in_err-first_draws-clause-ends
returns-in_err-first_draws-clause-ends g c = spared_same c.from_residual.result c.args.source.now c.args.sink.now
