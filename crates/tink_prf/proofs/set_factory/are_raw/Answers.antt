use Rattle.std.proofs.Common.{rules, ◌≡◌, [], ◌∷◌, subst, sym}
use Rattle.tink_sets.specs.Entries.{prefix_of}
use Rattle.tink_prf.proofs.RawEntries.{HasLeft, here, left_begun, left_less, nothing_in, prefixed_here, raw_to_the_end, something_in}
use Rattle.tink_prf.proofs.set_factory.are_raw.Goals as goal
use Rattle.tink_prf.proofs.set_factory.are_raw.Goals.{else-not-is_empty-via-then-not-is_empty+else-not-is_empty-2, else-not-is_empty-via-else-not-is_empty}

pub loop-prefix-init : goal.loop-prefix-init
loop-prefix-init g c =
    let begun = c.into_iter-prefix-iterator.ensures.into_iter_gives in
    subst (λ rest. HasLeft c.args.groups.now rest) (sym begun.0) (left_begun c.args.groups.now begun.6)

pub returns-then-not-is_empty-2 : goal.returns-then-not-is_empty-2
returns-then-not-is_empty-2 g c = λ es are.
    let prefix = c.in-Some.prefix.now in
    let group = c.in-Some.group.now in
    let left : c.loop-prefix.prefix-iterator ≡ (prefix, group) ∷ c.next.new.self = search rules in
    let before = subst (λ rest. HasLeft c.args.groups.now rest) left c.loop-prefix.invariant in
    let own = something_in prefix.items c.is_empty.result (search rules) (search rules) in
    let some = something_in group c.is_empty-then-not-is_empty.result (search rules) (search rules) in
    sym (prefixed_here c.args.groups.now prefix_of es are prefix.items group (here c.args.groups.now prefix group c.next.new.self before) own some)

pub loop-prefix-preserved : goal.loop-prefix-preserved
loop-prefix-preserved g c =
    let prefix = c.in-Some.prefix.now in
    let group = c.in-Some.group.now in
    let left : c.loop-prefix.prefix-iterator ≡ (prefix, group) ∷ c.next.new.self = search rules in
    let before = subst (λ rest. HasLeft c.args.groups.now rest) left c.loop-prefix.invariant in
    left_less c.args.groups.now prefix group c.next.new.self before
    (elim c.else-not-is_empty.branch [
      | else-not-is_empty-via-then-not-is_empty+else-not-is_empty-2 w ↦ λ own some. nothing_in group w.is_empty-then-not-is_empty.result (search rules) (search rules) some
      | else-not-is_empty-via-else-not-is_empty w ↦ λ own some. nothing_in prefix.items c.is_empty.result (search rules) (search rules) own
    ])

pub returns : goal.returns
returns g c = λ es are.
    let left : c.loop-prefix.prefix-iterator ≡ [] = search rules in
    sym (raw_to_the_end c.args.groups.now prefix_of es are (subst (λ rest. HasLeft c.args.groups.now rest) left c.loop-prefix.invariant))
