use Rattle.std.proofs.Common.{◌≡◌}
use Rattle.serde_json.specs.View.{items_view}
use Rattle.tink_json.specs.Fields.{items}
use Rattle.tink_json.proofs.ItemLemmas.{after}
use Rattle.tink_json.proofs.fields.items_in.Given as goal

-- the items so far were read, and the others stand behind them
abbrev pub invariant-loop-value : goal.invariant-loop-value
invariant-loop-value g l = items g.M.Json.form (items_view l.value-items) ≡ after g.M.Json.form l.messages.items l.value-items l.value-index
