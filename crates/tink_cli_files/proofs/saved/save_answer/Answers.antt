use Rattle.tink_cli_files.proofs.SavedLemmas.{ended_refused, refused_by_call, refused_by_draft}
use Rattle.tink_cli_files.proofs.saved.save_answer.Goals as goal

pub returns-in-Err-clause-refused : goal.returns-in-Err-clause-refused
returns-in-Err-clause-refused g c = ended_refused c.args.answer _ _ _ c.finish.result c.in-Err.is c.finish.ensures.ends

pub returns-in-Ok-clause-kinds : goal.returns-in-Ok-clause-kinds
returns-in-Ok-clause-kinds g c = refused_by_draft c.args.answer c.save.result c.save.ensures.refused

pub returns-in-Err-clause-kinds : goal.returns-in-Err-clause-kinds
returns-in-Err-clause-kinds g c = refused_by_call c.args.answer _ _ _ c.finish.result c.in-Err.is c.finish.ensures.ends
