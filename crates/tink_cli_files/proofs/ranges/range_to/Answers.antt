use Rattle.tink_cli_files.proofs.RangeLemmas.{early_ended, leaves_ended}
use Rattle.tink_cli_files.proofs.StreamLemmas.{ran_and_ended, range_done, shown_whole, succeeded}
use Rattle.tink_cli_files.proofs.ranges.range_to.Goals as goal

pub returns-clause-ran : goal.returns-clause-ran
returns-clause-ran g c =
    let place = c.args.place.now in
    let draft = c.run_range-answer.new.sink in
    let same = c.run_range-answer.ensures.sink in
    ran_and_ended _ _ _ draft _ _ _ _ _ _ c.run_range-answer.result c.finish.result (g.met.P.Place.same_replaces place draft same)
    (g.met.P.Place.same_shown place draft same) c.run_range-answer.ensures.answer c.finish.ensures.ends

pub returns-clause-ok : goal.returns-clause-ok
returns-clause-ok g c =
    let place = c.args.place.now in
    let draft = c.run_range-answer.new.sink in
    let same = c.run_range-answer.ensures.sink in
    shown_whole _ _ draft _ _ _ _ _ _ _ c.run_range-answer.result c.finish.result (g.met.P.Place.same_replaces place draft same)
    (g.met.P.Place.same_shown place draft same) c.run_range-answer.ensures.slice c.finish.ensures.ends

pub returns-clause-succeeds : goal.returns-clause-succeeds
returns-clause-succeeds g c = λ X told can.
    succeeded _ _ _ _ _ _ _ _ _ c.run_range-answer.result c.finish.result c.run_range-answer.ensures.later c.finish.ensures.later c.finish.ensures.ends
    (range_done c.run_range-answer.result _ _ _ _ (λ unread unwritten. c.run_range-answer.ensures.succeeds X told unread unwritten can))

pub returns-clause-kept : goal.returns-clause-kept
returns-clause-kept g c =
    leaves_ended g.A.ReadAt.length_of g.A.ReadAt.bytes g.A.ReadAt.faults c.args.object.now c.run_range-answer.new.object _ _ _ _ _ _ c.run_range-answer.result c.finish.result
    c.finish.ensures.ends c.run_range-answer.ensures.kept

pub returns-clause-early : goal.returns-clause-early
returns-clause-early g c =
    early_ended c.args.object.now c.run_range-answer.new.object c.args.place.now c.run_range-answer.new.sink _ _ _ _ _ _ c.run_range-answer.result c.finish.result
    c.finish.ensures.ends c.run_range-answer.ensures.early

pub returns-clause-place : goal.returns-clause-place
returns-clause-place g c =
    g.met.P.Place.rest_trans _ _ _ (g.met.P.Place.same_rest c.args.place.now c.run_range-answer.new.sink c.run_range-answer.ensures.sink) c.finish.ensures.rest
