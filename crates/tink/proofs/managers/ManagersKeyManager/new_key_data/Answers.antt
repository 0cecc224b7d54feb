use Rattle.std.proofs.Common.{◌∙◌, ℕ, List, ap}
use Rattle.tink_key_manager.specs.Manager.{symmetric}
use Rattle.tink.proofs.NewKeys.{data_made, data_refused}
use Rattle.tink.proofs.managers.ManagersKeyManager.new_key_data.Goals as goal

pub returns-in-Ok : goal.returns-in-Ok
returns-in-Ok c = record {
  replies = data_made c.args.self.now c.args.serialized_key_format.now c.args.draws.now c.new_key.new.draws c.in-Ok.value _ c.in-Ok.ensures.replies (ap (λ (u : List ℕ). symmetric u c.in-Ok.value) (c.in_ok-type_url.ensures ∙ c.type_url.ensures.value));
}

pub returns-in-Err : goal.returns-in-Err
returns-in-Err c = record {
  replies = data_refused c.args.self.now c.args.serialized_key_format.now c.args.draws.now c.new_key.new.draws c.in-Err.e c.in-Err.ensures.replies;
}
