use Rattle.std.proofs.Common.{refl}
use Rattle.tink_prf.proofs.set_factory.set_of_raw.Goals as goal

pub returns-in-Ok : goal.returns-in-Ok
returns-in-Ok g c = (c.in-Ok.ensures.0, c.in-Ok.ensures.1, record { primary = refl; by_id = c.in-Ok.ensures.2 })
