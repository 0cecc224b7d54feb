use Rattle.standards.specs.Cmac.{cmac}
use Rattle.hash_keys.proofs.cmac.cmac_of.Goals as goal

pub returns : goal.returns
unfolding cmac
returns g c = c.cmac_from.ensures
