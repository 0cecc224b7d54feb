use Rattle.std.proofs.Common.{List, ℕ, ap, ◌∙◌}
use Rattle.tink_sets.proofs.entry.EntryCloneIn.try_prepared.Goals as goal

pub returns-in-Ok : goal.returns-in-Ok
returns-in-Ok g c =
    let self = c.args.self.now in
    record {
      value = ap (λ p. record self { primitive = p; prefix = c.in-Ok.prefix }) c.in-Ok.ensures.primitive
          ∙ ap (λ (prefix : List ℕ). record self { prefix = prefix }) c.in-Ok.ensures.prefix;
      cause = tt;
    }

pub returns-in-Err : goal.returns-in-Err
returns-in-Err g c = record { value = tt; cause = c.in-Err.ensures.cause }
