use Rattle.tink_cli_words.specs.Options.{option_words}
use Rattle.tink_cli_words.proofs.options.OptionName.of_name.Goals as goal

pub returns : goal.returns
unfolding option_words
returns c = c.value_named.ensures
