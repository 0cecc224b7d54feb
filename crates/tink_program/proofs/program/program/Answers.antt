use Rattle.std.proofs.Common.{sym, ◌∙◌}
use Rattle.tink_program_core.proofs.ProgramLemmas.{status_means}
use Rattle.tink_program_core.proofs.StatusLemmas.{none_told}
use Rattle.tink_program.proofs.program.program.Goals as goal

pub returns-clause-means : goal.returns-clause-means
returns-clause-means g c = record {
  outcome = c.command-outcome.result;
  status_is = c.status.ensures;
  means = c.command-outcome.ensures.means;
  line = c.tell.ensures.line;
}

pub returns-clause-status : goal.returns-clause-status
returns-clause-status g c = rw c.status.ensures (status_means _ _ _ _ c.command-outcome.ensures.means)

pub returns-clause-early : goal.returns-clause-early
returns-clause-early g c = rw c.status.ensures c.command-outcome.ensures.early

pub returns-clause-promised : goal.returns-clause-promised
returns-clause-promised g c = rw c.status.ensures c.command-outcome.ensures.promised

pub returns-clause-quiet : goal.returns-clause-quiet
returns-clause-quiet g c = λ done. none_told c.command-outcome.result _ _ (sym c.status.ensures ∙ done) c.tell.ensures.still
