use Rattle.std.proofs.Common.{ap, ◌∙◌, lt_irrefl, lt_of_lt_of_le}
use Rattle.cipher_modes.proofs.padded.run_first.Goals as goal

pub returns-in-Some-clause-stepped : goal.returns-in-Some-clause-stepped
returns-in-Some-clause-stepped g c = c.run_block.ensures.stepped ∙ ap (λ block. (g.M.Runs.step c.args.mode.now block).1) c.in-Some.ensures.cases.same

pub returns-in_default-clause-stepped : goal.returns-in_default-clause-stepped
returns-in_default-clause-stepped g c = absurd (lt_irrefl _ (lt_of_lt_of_le c.in_default.ensures.cases c.requires))

pub returns-in_default-clause-value : goal.returns-in_default-clause-value
returns-in_default-clause-value g c = absurd (lt_irrefl _ (lt_of_lt_of_le c.in_default.ensures.cases c.requires))
