use Rattle.std.proofs.Common.{◌≡◌, ◌++◌, drop}
use Rattle.tink_cli_words.specs.Forms.{words_of}
use Rattle.tink_cli_words.specs.Words.{byte_words}
use Rattle.tink_cli.proofs.texts.texts_of.Given as goal

-- the texts are the words that were read
abbrev pub invariant-words : goal.invariant-words
invariant-words l = (words_of l.texts ++ byte_words (drop l.word-index l.words)) ≡ byte_words l.words
