use Rattle.tink_c_bytes.proofs.Handing.{hands}
use Rattle.tink_c_objects.specs.Objects.{Verifies, VerifiesNot, held_by}
use Rattle.tink_c.proofs.objects.tink_signer_verify.Goals as goal

pub returns-clause-answer : goal.returns-clause-answer
returns-clause-answer c =
    hands (Verifies (held_by c.args.object.now) c.args.token.now) (VerifiesNot (held_by c.args.object.now) c.args.token.now)
    c.token_verify.result _ c.token_verify.ensures.answer c.deliver.ensures.puts
