use Rattle.tink_program_core.proofs.commands.run_parsed.Goals as goal

pub returns-clause-means : goal.returns-clause-means
returns-clause-means g c = c.done_by.ensures.means

pub returns-clause-early : goal.returns-clause-early
returns-clause-early g c = c.done_by.ensures.early

pub returns-clause-kept : goal.returns-clause-kept
returns-clause-kept g c = c.done_by.ensures.kept

pub returns-clause-promised : goal.returns-clause-promised
returns-clause-promised g c = c.done_by.ensures.promised

pub returns-clause-source : goal.returns-clause-source
returns-clause-source g c = c.done_by.ensures.source

pub returns-clause-sink : goal.returns-clause-sink
returns-clause-sink g c = c.done_by.ensures.sink
