use Rattle.std.proofs.Common.{◌∙◌}
use Rattle.gcm.proofs.Hashes.{polyval_of}
use Rattle.gcm.proofs.hashing.polyval.Goals as goal

pub returns : goal.returns
returns c = record { value = c.hashed_once.ensures ∙ polyval_of c.args.key.now c.args.aad.now c.args.text.now c.polyval_key.result c.polyval_key.ensures }
