use Rattle.std.proofs.Common.{◌≡◌, drop}
use Rattle.tink_cli_words.specs.Lines.{first_lacking}
use Rattle.tink_cli_words.proofs.reading.Texts.first_lacking.Given as goal

-- what is lacking is in what is left, if there is something
abbrev pub invariant-parts : goal.invariant-parts
invariant-parts l = first_lacking l.self (drop l.part-index l.parts) ≡ first_lacking l.self l.parts
