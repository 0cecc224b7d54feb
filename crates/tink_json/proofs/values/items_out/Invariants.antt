use Rattle.std.proofs.Common.{◌≡◌, map, take}
use Rattle.serde_json.specs.View.{view}
use Rattle.tink_json.proofs.values.items_out.Given as goal

-- the values so far are those of the messages so far
abbrev pub invariant-loop-message : goal.invariant-loop-message
invariant-loop-message g l = map view l.values.items ≡ map g.M.Json.value (take l.message-index l.messages)
