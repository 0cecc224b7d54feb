use Rattle.aes_block.proofs.Halves.{second-picked}
use Rattle.aes_block.proofs.planes.vectors.second.Goals as goal

pub returns : goal.returns
returns c = second-picked c.args.v c.fits-v.0
