use Rattle.std.proofs.Common.{ap₂, sym}
use Rattle.tink_aead.proofs.ComposedKeyFacts.{second_refused}
use Rattle.tink_aead.proofs.aes_ctr_hmac_aead_key_manager.make_of_parts.Goals as goal

pub returns-in-Err : goal.returns-in-Err
returns-in-Err c =
    let told = c.in_ok-aes_key.ensures.replies in
    second_refused c.args.a c.args.h c.args.draws.now c.get_random_bytes.new.draws c.get_random_bytes-2.new.draws c.in_ok-aes_key.aes_key c.in-Err.e
    (ap₂ (λ r d. (r, d)) told.0 (sym told.1)) c.in-Err.ensures.replies
