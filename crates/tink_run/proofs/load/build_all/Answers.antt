use Rattle.std.proofs.Common.{inl, ap, ◌∙◌, subst}
use Rattle.std.proofs.lemmas.Result.{err_from_is_err_and}
use Rattle.tink_io.specs.declared.error.TinkError.{TinkError}
use Rattle.tink_run.specs.HeldKeys.{GivesLoaded}
use Rattle.loading_model.specs.Loading.{load_keys}
use Rattle.tink.proofs.RowFacts.{rows_of_all}
use Rattle.tink_run.proofs.load.build_all.Goals as goal

pub returns-in_err-registry-clause-answer : goal.returns-in_err-registry-clause-answer
returns-in_err-registry-clause-answer c =
    let returned = err_from_is_err_and c.from_residual.result c.from_residual.ensures.1 in
    rw returned.1 (inl (ap (λ (e : TinkError). e.kind) returned.2 ∙ c.in_err-registry.ensures.cause))

pub returns-clause-answer : goal.returns-clause-answer
returns-clause-answer c =
    subst (λ rs. GivesLoaded c.build.result (load_keys rs c.args.handle.now)) (rows_of_all c.in_ok-registry.registry c.in_ok-registry.ensures.ok) c.build.ensures.answer
