use Rattle.std.proofs.Common.{sym}
use Rattle.tink_mac.proofs.DotFacts.{is_split, not_split}
use Rattle.tink_mac.proofs.tokens.spelling.halves.Goals as goal

pub returns-in-Some : goal.returns-in-Some
returns-in-Some c = is_split c.args.token.now c.in-Some.at (sym c.in-Some.ensures)

pub returns-in-None : goal.returns-in-None
returns-in-None c = not_split c.args.token.now (sym c.in-None.ensures)
