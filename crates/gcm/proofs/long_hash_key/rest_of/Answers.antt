use Rattle.gcm.proofs.Carries.{reduced_is}
use Rattle.gcm.proofs.long_hash_key.rest_of.Goals as goal

pub returns : goal.returns
returns c = reduced_is c.args.low c.requires
