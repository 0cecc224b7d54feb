use Rattle.std.proofs.Common.{sym, ◌∙◌}
use Rattle.tink_keyset_rules.proofs.ShownLemmas.{quoted_url}
use Rattle.tink_keyset_rules.proofs.shown.write_url.Goals as goal

pub returns-then-is_ascii : goal.returns-then-is_ascii
returns-then-is_ascii g c = quoted_url _ _ _ c.write.result c.args.url.now (sym c.is_ascii.ensures ∙ c.if-is_ascii.true) c.write.ensures.writes
