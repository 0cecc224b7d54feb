use Rattle.tink_c_primitives.specs.Tokens.{PayloadGives, PayloadRefuses}
use Rattle.tink_c_bytes.proofs.Handing.{hands}
use Rattle.tink_c.proofs.primitives.tink_verify_token.Goals as goal

pub returns : goal.returns
returns c =
    hands (PayloadGives c.args.keyset.now c.args.token.now) (PayloadRefuses c.args.keyset.now c.args.token.now)
    c.token_verify.result _ c.token_verify.ensures c.deliver.ensures.puts
