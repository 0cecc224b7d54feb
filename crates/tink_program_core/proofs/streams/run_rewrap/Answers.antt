use Rattle.std.proofs.Common.{◌∙◌, ap}
use Rattle.std.proofs.lemmas.Result.{err_from_is_err_and}
use Rattle.tink_io.specs.declared.error.TinkError.{TinkError}
use Rattle.tink_program_core.proofs.RewrapLemmas.{moved_along, want_moved}
use Rattle.tink_program_core.proofs.Spelling.{sides-same}
use Rattle.tink_program_core.proofs.StreamLemmas.{spared_same}
use Rattle.tink_program_core.proofs.streams.run_rewrap.Goals as goal

pub returns-in_err-first_draws-clause-moved : goal.returns-in_err-first_draws-clause-moved
returns-in_err-first_draws-clause-moved g c =
    let p = err_from_is_err_and c.from_residual.result c.from_residual.ensures.1 in
    rw p.1 (want_moved _ _ _ p.0 (ap (λ (e : TinkError). e.kind) (p.2 ∙ c.in_err-first_draws.ensures.refused)))

pub returns-in_err-first_draws-clause-ends : goal.returns-in_err-first_draws-clause-ends
returns-in_err-first_draws-clause-ends g c = spared_same c.from_residual.result c.args.source.now c.args.sink.now

pub returns-clause-moved : goal.returns-clause-moved
returns-clause-moved g c =
    moved_along _ _ _ _ _ _ c.rewrap.result
    (sides-same _ _ _ _ _ _ _ _ c.deref.ensures.value c.deref-2.ensures.value c.deref-3.ensures.value c.deref-4.ensures.value)
    (c.new-draws.ensures ∙ c.in_ok-first_draws.ensures.draws) (record {
      left_draws = c.rewrap.new.draws;
      means = c.rewrap.ensures.answer;
      ok = c.rewrap.ensures.rewrapped;
      unended = c.rewrap.ensures.unended;
      succeeds = c.rewrap.ensures.succeeds;
    })

pub returns-clause-ends : goal.returns-clause-ends
returns-clause-ends g c = record { early = c.rewrap.ensures.early; unwritten = c.rewrap.ensures.unwritten.0 }
