use Rattle.std.proofs.Common.{◌∙◌, ap}
use Rattle.std.specs.Prelude.{string_bytes}
use Rattle.std.proofs.lemmas.Result.{err_from_is_err_and}
use Rattle.tink_io.specs.declared.error.TinkError.{TinkError}
use Rattle.tink_keysets.specs.Valid.{valid_keyset}
use Rattle.tink_program_core.specs.Keysets.{of_keyset}
use Rattle.tink_program_core.proofs.KeysetSteps.{keyset_given, line, refusal, want_refusal}
use Rattle.tink_program_core.proofs.keysets.rotated_line.Goals as goal

pub returns-in_err-first_draws : goal.returns-in_err-first_draws
returns-in_err-first_draws c =
    let p = err_from_is_err_and c.from_residual.result c.from_residual.ensures.1 in
    rw p.1 (want_refusal (of_keyset c.args.args.now.keyset.items (string_bytes c.args.args.now.template) c.args.seed) _ (ap (λ (e : TinkError). e.kind) (p.2 ∙ c.in_err-first_draws.ensures.refused)))

pub returns-in_err-keyset : goal.returns-in_err-keyset
returns-in_err-keyset c =
    let p = err_from_is_err_and c.from_residual-in_err-keyset.result c.from_residual-in_err-keyset.ensures.1 in
    rw (p.1, p.2) (refusal (of_keyset c.args.args.now.keyset.items (string_bytes c.args.args.now.template) c.args.seed) _ _ _ _ (keyset_given c.args.args.now.keyset.items) c.as_str.ensures.value (ap valid_keyset c.deref.ensures.value)
    (c.new-draws.ensures ∙ c.in_ok-first_draws.ensures.draws) c.in_err-keyset.ensures.answer c.in_err-keyset.ensures.cause)

pub returns : goal.returns
returns c =
    line (of_keyset c.args.args.now.keyset.items (string_bytes c.args.args.now.template) c.args.seed) _ _ _ _ c.key_line.result c.as_str.ensures.value (ap valid_keyset c.deref.ensures.value)
    (c.new-draws.ensures ∙ c.in_ok-first_draws.ensures.draws) c.in_ok-keyset.ensures.answer c.key_line.ensures.line c.key_line.ensures.err
