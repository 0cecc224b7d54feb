use Rattle.std.proofs.Common.{inr}
use Rattle.tink_io.specs.declared.error.Kind.TheVariants.{Closed, FailedBefore}
use Rattle.tink_c_pieces.proofs.writing.PieceWriter.bound.Goals as goal

pub returns-in-Closed : goal.returns-in-Closed
returns-in-Closed g c =
    inr (record { kind = Closed; refuses = c.in-Closed.is; status_err = c.refuse.ensures.status; none = c.refuse.ensures.written })

pub returns-in-Failed : goal.returns-in-Failed
returns-in-Failed g c =
    inr (record { kind = FailedBefore c.in-Failed.cause; refuses = c.in-Failed.is; status_err = c.refuse-in-Failed.ensures.status; none = c.refuse-in-Failed.ensures.written })
