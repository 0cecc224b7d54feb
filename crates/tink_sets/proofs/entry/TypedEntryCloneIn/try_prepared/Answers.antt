use Rattle.std.proofs.Common.{List, ℕ, ap, ◌∙◌}
use Rattle.tink_sets.proofs.entry.TypedEntryCloneIn.try_prepared.Goals as goal

pub returns-in-Ok-clause-value : goal.returns-in-Ok-clause-value
returns-in-Ok-clause-value g c =
    let self = c.args.self.now in
    ap (λ (p : g.row.P.Denot). record self { primitive = p; prefix = c.in-Ok.prefix }) c.in-Ok.ensures.primitive
    ∙ ap (λ (prefix : List ℕ). record self { prefix = prefix }) c.in-Ok.ensures.prefix
