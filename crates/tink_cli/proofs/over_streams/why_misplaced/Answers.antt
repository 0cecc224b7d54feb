use Rattle.std.proofs.Common.{sym, ◌∙◌}
use Rattle.tink_cli_words.specs.Words.{byte_words}
use Rattle.tink_cli.proofs.ClaimFacts.{spells_nothing}
use Rattle.tink_cli.proofs.over_streams.why_misplaced.Goals as goal

pub returns-in-Err-clause-nothing : goal.returns-in-Err-clause-nothing
returns-in-Err-clause-nothing g c = spells_nothing (byte_words c.args.words.now) (sym c.has_no_keyset.ensures ∙ c.if-not-has_no_keyset.false)
