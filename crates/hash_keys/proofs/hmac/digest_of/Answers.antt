use Rattle.std.proofs.Common.{[]}
use Rattle.hash_keys.proofs.hmac.digest_of.Goals as goal

pub returns : goal.returns
returns c = c.finalize.ensures c.args.h c.args.bytes.now (c.update.ensures c.args.h [] c.new-hasher.ensures)
