use Rattle.std.proofs.Common.{rules, ◌≡◌, ◌∙◌, Err, true, false, is_some, inr, ap, sym}
use Rattle.tink_io.specs.declared.error.TinkError.{TinkError}
use Rattle.tink_keysets.proofs.TypedSets.{typed-given, typed-has_primary, typed-no_primary}
use Rattle.tink_keysets.proofs.factory.typing.lent_as.Goals as goal

pub returns-then-is_none-clause-set : goal.returns-then-is_none-clause-set
returns-then-is_none-clause-set g c id told h =
    let none : is_some c.args.built.now.primary ≡ false = search rules in
    inr (typed-no_primary g.S.Sort.picks id told h.0 c.args.built.now.primary h.1 h.2.by_id none
    ∙ ap (λ (e : TinkError). Err e.kind) (sym c.new.ensures))

pub returns-clause-set : goal.returns-clause-set
returns-clause-set g c id told h =
    let there : is_some c.args.built.now.primary ≡ true = search rules in
    typed-given g.S.Sort.picks id told (λ set. set.primary) (λ set. set.entries) (λ set. set.primary) (λ set. set.entries)
    c.args.built.now h there g.met.S.Sort.one_refusal c.from_set_of_sort.result
    c.from_set_of_sort.ensures.primary c.from_set_of_sort.ensures.entries c.from_set_of_sort.ensures.cause

pub returns-clause-primary : goal.returns-clause-primary
returns-clause-primary g c =
    let there : is_some c.args.built.now.primary ≡ true = search rules in
    typed-has_primary g.S.Sort.picks (λ set. set.primary) c.args.built.now.primary there c.from_set_of_sort.result c.from_set_of_sort.ensures.primary
