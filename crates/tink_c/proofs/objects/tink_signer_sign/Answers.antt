use Rattle.tink_c_bytes.proofs.Handing.{hands}
use Rattle.tink_c_objects.specs.Objects.{Signs, SignsNot, held_by}
use Rattle.tink_c.proofs.objects.tink_signer_sign.Goals as goal

pub returns-clause-answer : goal.returns-clause-answer
returns-clause-answer c =
    hands (Signs (held_by c.args.object.now) c.args.payload.now) (SignsNot (held_by c.args.object.now) c.args.payload.now)
    c.token_sign.result _ c.token_sign.ensures.answer c.deliver.ensures.puts
