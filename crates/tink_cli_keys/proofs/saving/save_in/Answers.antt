use Rattle.tink_cli_keys.proofs.SavingLemmas.{saved_file, saved_fresh, unsaved_kept}
use Rattle.tink_cli_keys.proofs.RefusingLemmas.{of_save}
use Rattle.tink_cli_keys.proofs.saving.save_in.Goals as goal

pub returns-in-Ok-clause-done : goal.returns-in-Ok-clause-done
returns-in-Ok-clause-done g c = λ given answers.
    saved_file given c.save_answer-answer.result _ _ _ _ _ _ _ _ c.end_save.result (c.save_answer-answer.ensures.saves given answers) c.end_save.ensures.refused
    c.in-Ok.ensures.settled.file

pub returns-in-Ok-clause-fresh : goal.returns-in-Ok-clause-fresh
returns-in-Ok-clause-fresh g c = λ given answers.
    saved_fresh given c.save_answer-answer.result _ _ _ _ _ _ _ c.end_save.result (c.save_answer-answer.ensures.saves given answers) c.end_save.ensures.refused

pub returns-in-Ok-clause-kept : goal.returns-in-Ok-clause-kept
returns-in-Ok-clause-kept g c =
    unsaved_kept c.args.made c.save_answer-answer.result _ _ _ _ _ _ c.end_save.result _ _ c.save_answer-answer.ensures.saves c.end_save.ensures.ok c.in-Ok.ensures.kept

pub returns-in-Ok-clause-refused : goal.returns-in-Ok-clause-refused
returns-in-Ok-clause-refused g c = λ given answers.
    of_save given c.save_answer-answer.result _ _ _ _ _ _ _ _ _ c.end_save.result (c.save_answer-answer.ensures.saves given answers) c.end_save.ensures.ok c.end_save.ensures.refused
    c.end_draft.ensures.counted
