use Rattle.tink_tokens.proofs.CompleteFacts.{verify_completed}
use Rattle.tink_tokens.proofs.writing.write_payload.Goals as goal

pub returns-clause-succeeds : goal.returns-clause-succeeds
returns-clause-succeeds g c = verify_completed c.args.keyset.now _ _ c.answer_payload.result c.answer_payload.ensures.answer
