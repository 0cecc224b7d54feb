use Rattle.tink_streaming_aead.proofs.WrappedFacts.{keeps_order, keeps_prefixes}
use Rattle.tink_streaming_aead.proofs.factory.keeps_order.Goals as goal

pub returns-clause-order : goal.returns-clause-order
returns-clause-order c = let given = c.into_iter.ensures.into_iter_gives in keeps_order c.args.ps.now.entries given.5 given.6

pub returns-clause-prefixes : goal.returns-clause-prefixes
returns-clause-prefixes c = let given = c.into_iter.ensures.into_iter_gives in keeps_prefixes c.args.ps.now.entries given.6
