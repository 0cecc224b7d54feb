use Rattle.std.proofs.Common.{◌∙◌, ap, sym}
use Rattle.std.specs.Prelude.{ℕ, nat_lt}
use Rattle.keyset_model.specs.Keys.{is_enabled_with}
use Rattle.tink_keyset_rules.proofs.TestFacts.{any-count}
use Rattle.tink_keyset_rules.proofs.validation.some_enabled_has_id.Goals as goal

pub returns : goal.returns
returns c = ap (λ (n : ℕ). nat_lt 0 n) c.enabled_of_id.ensures ∙ sym (any-count (is_enabled_with c.args.id) c.args.keys.now)
