use Rattle.std.proofs.Common.{inr, refl}
use Rattle.tink_io.specs.declared.error.Kind.TheVariants.{Closed, FailedBefore}
use Rattle.tink_c_pieces.proofs.writing.PieceWriter.write.Goals as goal

pub returns-in-Closed-clause-answer : goal.returns-in-Closed-clause-answer
returns-in-Closed-clause-answer g c =
    inr (inr (record { kind = Closed; refuses = (c.in-Closed.is, refl); status = c.refuse.ensures.status; unchanged = refl; counted = c.refuse.ensures.written }))

pub returns-in-Failed-clause-answer : goal.returns-in-Failed-clause-answer
returns-in-Failed-clause-answer g c =
    inr (inr (record { kind = FailedBefore c.in-Failed.cause; refuses = (c.in-Failed.is, refl); status = c.refuse-in-Failed.ensures.status; unchanged = refl; counted = c.refuse-in-Failed.ensures.written }))
