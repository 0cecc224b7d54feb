use Rattle.aes_block.proofs.Halves.{joined-whole}
use Rattle.aes_block.proofs.planes.wide.joined.Goals as goal

pub returns : goal.returns
returns c = joined-whole c.args.first c.args.second c.fits-first.0 c.fits-second.0
