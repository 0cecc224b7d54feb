use Rattle.tink_run.specs.declared.report.Command.TheVariants.{Open}
use Rattle.std.proofs.Common.{◌∙◌}
use Rattle.tink_program_core.proofs.StreamLemmas.{ran_along}
use Rattle.tink_program_core.proofs.streams.run_open.Goals as goal

pub returns-clause-ran : goal.returns-clause-ran
returns-clause-ran g c = ran_along Open _ _ _ _ _ _ _ _ _ c.deref.ensures.value c.deref-2.ensures.value (c.new-draws.ensures ∙ c.new-none.ensures.items) (record {
  left_draws = c.run.new.draws;
  means = c.run.ensures.answer;
  ok = c.run.ensures.ok;
  written = c.run.ensures.written;
  succeeds = c.run.ensures.succeeds;
  read = c.run.ensures.read;
})
