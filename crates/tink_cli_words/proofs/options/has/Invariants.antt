use Rattle.std.proofs.Common.{◌≡◌, drop}
use Rattle.tink_cli_words.specs.Options.{has}
use Rattle.tink_cli_words.proofs.options.has.Given as goal

-- the option is in what is left, if it is one
abbrev pub invariant-options : goal.invariant-options
invariant-options l = has (drop l.known-index l.options) l.fn.option ≡ has l.options l.fn.option
