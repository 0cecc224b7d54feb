use Rattle.tink_json.proofs.TextLemmas.{fails-of, value_of-found}
use Rattle.tink_json.proofs.messages.value_of.Goals as goal

pub returns-in-Ok : goal.returns-in-Ok
returns-in-Ok c = value_of-found _ _ c.in-Ok.ensures.ok.0 c.in-Ok.ensures.ok.1

pub returns-in-Err : goal.returns-in-Err
returns-in-Err c = fails-of c.in-Err.e _ _ c.refusal.ensures c.in-Err.ensures.err
