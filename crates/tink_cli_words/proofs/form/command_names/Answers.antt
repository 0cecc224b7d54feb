use Rattle.std.proofs.Common.{refl}
use Rattle.tink_cli_words.specs.Actions.{action_names}
use Rattle.tink_cli_words.proofs.form.command_names.Goals as goal

pub returns : goal.returns
unfolding action_names
returns c = λ name. refl
