use Rattle.tink_tokens.proofs.CompleteFacts.{sign_completed}
use Rattle.tink_tokens.proofs.writing.write_token.Goals as goal

pub returns-clause-succeeds : goal.returns-clause-succeeds
returns-clause-succeeds g c = sign_completed c.args.keyset.now _ _ c.answer_token.result c.answer_token.ensures.answer
