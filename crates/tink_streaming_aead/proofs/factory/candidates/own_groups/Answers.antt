use Rattle.tink_streaming_aead.proofs.WrappedFacts.{group_entries, group_keys, pure_groups}
use Rattle.tink_streaming_aead.proofs.factory.candidates.own_groups.Goals as goal

pub returns-clause-pure : goal.returns-clause-pure
returns-clause-pure c = let given = c.into_iter.ensures.into_iter_gives in pure_groups c.args.ps.now.entries given.6

pub returns-clause-groups : goal.returns-clause-groups
returns-clause-groups c = let given = c.into_iter.ensures.into_iter_gives in group_keys c.args.ps.now.entries given.5

pub returns-clause-entries : goal.returns-clause-entries
returns-clause-entries c = let given = c.into_iter.ensures.into_iter_gives in group_entries c.args.ps.now.entries given.5
