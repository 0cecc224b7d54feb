use Rattle.tink_primitives.specs.Sorts.{as_streaming_aead}
use Rattle.tink_streaming_aead.specs.Wrapped.{all_entries, keys_in}
use Rattle.tink_streaming_aead.proofs.PrefixFacts.{have_prefixes, most_more}
use Rattle.tink_streaming_aead.proofs.WrappedFacts.{keys_kept}
use Rattle.tink_streaming_aead.proofs.factory.new.Goals as goal

pub invariant_of-result : goal.invariant_of-result
invariant_of-result g c =
    let s = c.in-Ok.ensures.set in
    let prefixes = c.keeps_order.ensures.prefixes s.0 s.2.by_prefix
    (have_prefixes as_streaming_aead g.M.KeyManager.url g.M.KeyManager.supports g.M.KeyManager.builds c.args.registry.now.managers c.args.h.now.primary_key_id c.args.h.now s.0 s.1)
    in
    (c.in-Ok.ensures.primary, (most_more (keys_in (all_entries c.in-Ok.ps.entries)) prefixes, (c.own_groups.ensures.pure s.0 s.2.by_prefix, tt)))

pub returns-in-Ok-clause-set : goal.returns-in-Ok-clause-set
returns-in-Ok-clause-set g c =
    let s = c.in-Ok.ensures.set in
    (s.0, s.1, keys_kept c.args.h.now.primary_key_id s.0 c.in-Ok.ps.primary c.in-Ok.ps.entries c.keeps_order.ensures.order s.2)

pub returns-in-Ok-clause-prefixes : goal.returns-in-Ok-clause-prefixes
returns-in-Ok-clause-prefixes g c =
    let s = c.in-Ok.ensures.set in
    c.keeps_order.ensures.prefixes s.0 s.2.by_prefix
    (have_prefixes as_streaming_aead g.M.KeyManager.url g.M.KeyManager.supports g.M.KeyManager.builds c.args.registry.now.managers c.args.h.now.primary_key_id c.args.h.now s.0 s.1)
