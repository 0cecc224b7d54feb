use Rattle.std.proofs.Common.{◌≡◌, drop}
use Rattle.tink_cli_words.specs.Words.{byte_words}
use Rattle.tink_cli_words.specs.Texts.{nothing_read}
use Rattle.tink_cli_words.specs.Lines.{read_on}
use Rattle.tink_cli_words.proofs.reading.read.Given as goal

-- what is left to be read
abbrev pub invariant-words : goal.invariant-words
invariant-words l = read_on l.action l.texts (byte_words (drop l.word-index l.words)) ≡ read_on l.action nothing_read (byte_words l.words)
