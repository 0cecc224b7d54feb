use Rattle.std.proofs.Common.{ap}
use Rattle.std.specs.Prelude.{ℕ, nat_le}
use Rattle.tink_keyset_rules.proofs.validation.has_at_most_one_primary.Goals as goal

pub returns : goal.returns
returns c = ap (λ (n : ℕ). nat_le n 1) c.enabled_of_id.ensures
