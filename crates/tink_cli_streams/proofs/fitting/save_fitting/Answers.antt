use Rattle.tink_cli_streams.proofs.FittingLemmas.{ran_and_ended, shown_whole}
use Rattle.tink_cli_streams.proofs.fitting.save_fitting.Goals as goal

pub returns-clause-ran : goal.returns-clause-ran
returns-clause-ran g c =
    let place = c.args.place.now in
    let draft = c.write_fitting-answer.new.sink in
    let same = c.write_fitting-answer.ensures.sink in
    ran_and_ended _ _ _ draft _ _ _ _ _ _ c.write_fitting-answer.result c.finish.result (g.met.P.Place.same_replaces place draft same)
    (g.met.P.Place.same_shown place draft same) c.write_fitting-answer.ensures.means c.finish.ensures.ends

pub returns-clause-ok : goal.returns-clause-ok
returns-clause-ok g c =
    let place = c.args.place.now in
    let draft = c.write_fitting-answer.new.sink in
    let same = c.write_fitting-answer.ensures.sink in
    shown_whole _ _ draft _ _ _ _ _ _ _ c.write_fitting-answer.result c.finish.result (g.met.P.Place.same_replaces place draft same)
    (g.met.P.Place.same_shown place draft same) c.write_fitting-answer.ensures.ok c.finish.ensures.ends

pub returns-clause-place : goal.returns-clause-place
returns-clause-place g c =
    g.met.P.Place.rest_trans _ _ _ (g.met.P.Place.same_rest c.args.place.now c.write_fitting-answer.new.sink c.write_fitting-answer.ensures.sink) c.finish.ensures.rest
