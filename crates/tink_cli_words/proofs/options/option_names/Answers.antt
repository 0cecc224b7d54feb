use Rattle.std.proofs.Common.{refl}
use Rattle.tink_cli_words.specs.Options.{option_words}
use Rattle.tink_cli_words.proofs.options.option_names.Goals as goal

pub returns : goal.returns
unfolding option_words
returns c = λ name. refl
