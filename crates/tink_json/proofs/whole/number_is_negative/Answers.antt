use Rattle.std.proofs.Common.{sym, ap, ◌∙◌}
use Rattle.tink_json.proofs.NumberLemmas.{is_below_zero, is_negative-parse, is_negative-parse_ok}
use Rattle.tink_json.proofs.whole.number_is_negative.Goals as goal

pub returns-in-Ok : goal.returns-in-Ok
returns-in-Ok c = is_negative-parse_ok c.args.number.now c.in-Ok.n c.parse.result c.in-Ok.is c.parse.ensures.value.0

pub returns-in-Err : goal.returns-in-Err
returns-in-Err c = ap is_below_zero (sym c.in-Err.is) ∙ is_negative-parse c.args.number.now c.parse.result c.parse.ensures.value.0
