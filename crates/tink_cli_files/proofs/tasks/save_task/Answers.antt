use Rattle.std.proofs.Common.{le_trans}
use Rattle.tink_cli_files.proofs.StreamLemmas.{ran_and_ended, shown_whole, succeeded}
use Rattle.tink_cli_files.proofs.TaskLemmas.{unread_ended}
use Rattle.tink_cli_files.proofs.tasks.save_task.Goals as goal

pub returns-clause-ran : goal.returns-clause-ran
returns-clause-ran g c =
    let place = c.args.place.now in
    let draft = c.write_task-answer.new.sink in
    let same = c.write_task-answer.ensures.sink in
    ran_and_ended _ _ _ draft _ _ _ _ _ _ c.write_task-answer.result c.finish.result (g.met.P.Place.same_replaces place draft same)
    (g.met.P.Place.same_shown place draft same) c.write_task-answer.ensures.means c.finish.ensures.ends

pub returns-clause-ok : goal.returns-clause-ok
returns-clause-ok g c =
    let place = c.args.place.now in
    let draft = c.write_task-answer.new.sink in
    let same = c.write_task-answer.ensures.sink in
    shown_whole _ _ draft _ _ _ _ _ _ _ c.write_task-answer.result c.finish.result (g.met.P.Place.same_replaces place draft same)
    (g.met.P.Place.same_shown place draft same) c.write_task-answer.ensures.ok c.finish.ensures.ends

pub returns-clause-succeeds : goal.returns-clause-succeeds
returns-clause-succeeds g c = λ T G told can.
    succeeded _ _ _ _ _ _ _ _ _ c.write_task-answer.result c.finish.result c.write_task-answer.ensures.later.writes c.finish.ensures.later c.finish.ensures.ends
    (c.write_task-answer.ensures.succeeds T G told can)

pub returns-clause-unread : goal.returns-clause-unread
returns-clause-unread g c =
    unread_ended c.args.task c.args.source.now c.write_task-answer.new.source _ _ _ _ _ _ c.write_task-answer.result c.finish.result c.finish.ensures.ends c.write_task-answer.ensures.unread

pub returns-clause-stays : goal.returns-clause-stays
returns-clause-stays g c =
    (record { reads = c.write_task-answer.ensures.later.reads; writes = le_trans c.write_task-answer.ensures.later.writes c.finish.ensures.later }, c.write_task-answer.ensures.source)

pub returns-clause-place : goal.returns-clause-place
returns-clause-place g c =
    (c.finish.ensures.gone, g.met.P.Place.rest_trans _ _ _ (g.met.P.Place.same_rest c.args.place.now c.write_task-answer.new.sink c.write_task-answer.ensures.sink) c.finish.ensures.rest)
