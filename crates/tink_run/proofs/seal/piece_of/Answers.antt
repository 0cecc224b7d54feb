use Rattle.tink_run.proofs.seal.piece_of.Goals as goal

pub returns-clause-exact : goal.returns-clause-exact
returns-clause-exact c = c.zeros.ensures.exact
