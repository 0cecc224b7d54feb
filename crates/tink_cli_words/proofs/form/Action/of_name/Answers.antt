use Rattle.tink_cli_words.specs.Actions.{action_names}
use Rattle.tink_cli_words.proofs.form.Action.of_name.Goals as goal

pub returns : goal.returns
unfolding action_names
returns c = c.value_named.ensures
