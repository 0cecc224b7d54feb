use Rattle.std.proofs.Common.{◌∙◌}
use Rattle.gcm.proofs.Hashes.{ghash_of}
use Rattle.gcm.proofs.hashing.ghash.Goals as goal

pub returns : goal.returns
returns c = record { value = c.hashed_once.ensures ∙ ghash_of c.args.key.now c.args.aad.now c.args.text.now c.ghash_key.result c.ghash_key.ensures }
