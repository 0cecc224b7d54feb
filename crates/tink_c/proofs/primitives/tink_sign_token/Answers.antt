use Rattle.tink_c_primitives.specs.Tokens.{TokenGives, TokenRefuses}
use Rattle.tink_c_bytes.proofs.Handing.{hands}
use Rattle.tink_c.proofs.primitives.tink_sign_token.Goals as goal

pub returns : goal.returns
returns c =
    hands (TokenGives c.args.keyset.now c.args.payload.now) (TokenRefuses c.args.keyset.now c.args.payload.now)
    c.token_sign.result _ c.token_sign.ensures c.deliver.ensures.puts
