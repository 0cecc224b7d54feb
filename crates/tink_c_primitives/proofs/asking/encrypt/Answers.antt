use Rattle.tink_c_primitives.proofs.FileLoaded.{encrypted_by}
use Rattle.tink_c_primitives.proofs.asking.encrypt.Goals as goal

pub returns : goal.returns
returns c =
    encrypted_by c.args.aead.now c.args.plaintext.now c.args.associated_data.now c.in_ok-draws.draws c.args.random.now _ c.encrypt.result
    c.in_ok-draws.ensures.ok c.encrypt.ensures.replies
