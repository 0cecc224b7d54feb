use Rattle.std.proofs.Common.{◌≡◌, drop}
use Rattle.tink_cli_words.specs.Words.{value_named}
use Rattle.tink_cli_words.proofs.names.value_named.Given as goal

-- the row is in what is left, if there is one
abbrev pub invariant-rows : goal.invariant-rows
invariant-rows g l = value_named (drop l.known-index l.rows) l.name ≡ value_named l.rows l.name
