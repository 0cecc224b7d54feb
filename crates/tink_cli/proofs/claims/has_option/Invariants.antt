use Rattle.std.proofs.Common.{◌≡◌, drop}
use Rattle.tink_cli_words.specs.Words.{byte_words}
use Rattle.tink_cli.specs.Claims.{has_option}
use Rattle.tink_cli.proofs.claims.has_option.Given as goal

-- no word yet is one
abbrev pub invariant-words : goal.invariant-words
invariant-words l = has_option (byte_words (drop l.word-index l.words)) ≡ has_option (byte_words l.words)
