use Rattle.tink_rewrap.proofs.InfoSteps as steps
use Rattle.tink_rewrap.proofs.info.of_set.keeps_entries.Goals as goal

pub returns : goal.returns
returns c = let given = c.into_iter.ensures.into_iter_gives in record { entries = steps.keeps_entries c.args.set.now.entries given.6 }
