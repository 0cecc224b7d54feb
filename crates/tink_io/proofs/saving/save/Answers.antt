use Rattle.tink_io.proofs.SavingLemmas.{refused_by_a_fault, refused_by_WriteFault, refused_shows_nothing}
use Rattle.tink_io.proofs.saving.save.Goals as goal

pub returns-clause-err : goal.returns-clause-err
returns-clause-err g c =
    refused_shows_nothing _ _ _ _ _ _ _ c.write_all-written.result c.finish.result (g.met.P.Place.same_shown _ _ c.write_all-written.ensures.same)
    c.finish.ensures.ends

pub returns-clause-refused : goal.returns-clause-refused
returns-clause-refused g c =
    refused_by_WriteFault _ _ _ _ _ _ c.write_all-written.result c.finish.result c.write_all-written.ensures.refused c.finish.ensures.ends

pub returns-clause-cause : goal.returns-clause-cause
returns-clause-cause g c =
    refused_by_a_fault _ _ _ _ _ _ _ c.write_all-written.result c.finish.result c.write_all-written.ensures.cause
    c.write_all-written.ensures.later c.finish.ensures.later c.finish.ensures.ends
