use Rattle.std.proofs.Common.{◌∙◌, ap, refl}
use Rattle.std.proofs.lemmas.Result.{err_from_is_err_and}
use Rattle.tink_io.specs.declared.error.TinkError.{TinkError}
use Rattle.tink_program_core.specs.Keysets.{of_no_keys}
use Rattle.tink_program_core.proofs.KeysetSteps.{no_keys_given, line, refusal, want_refusal}
use Rattle.tink_program_core.proofs.keysets.new_line.Goals as goal

pub returns-in_err-first_draws : goal.returns-in_err-first_draws
returns-in_err-first_draws c =
    let p = err_from_is_err_and c.from_residual.result c.from_residual.ensures.1 in
    rw p.1 (want_refusal (of_no_keys c.args.template.now c.args.seed) _ (ap (λ (e : TinkError). e.kind) (p.2 ∙ c.in_err-first_draws.ensures.refused)))

pub returns-in_err-keyset : goal.returns-in_err-keyset
returns-in_err-keyset c =
    let p = err_from_is_err_and c.from_residual-in_err-keyset.result c.from_residual-in_err-keyset.ensures.1 in
    rw (p.1, p.2) (refusal (of_no_keys c.args.template.now c.args.seed) _ _ _ _ no_keys_given refl refl
    (c.new-draws.ensures ∙ c.in_ok-first_draws.ensures.draws) c.in_err-keyset.ensures.answer c.in_err-keyset.ensures.cause)

pub returns : goal.returns
returns c =
    line (of_no_keys c.args.template.now c.args.seed) _ _ _ _ c.key_line.result refl refl
    (c.new-draws.ensures ∙ c.in_ok-first_draws.ensures.draws) c.in_ok-keyset.ensures.answer c.key_line.ensures.line c.key_line.ensures.err
