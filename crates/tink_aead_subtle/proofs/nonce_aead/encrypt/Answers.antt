use Rattle.std.proofs.Common.{◌≡◌, length, ap, sym, ◌∙◌, arith}
use Rattle.std.specs.Prelude.{Ok}
use Rattle.std.proofs.lemmas.List.{take_at}
use Rattle.tink_aead_subtle.specs.NonceAeads.{limited}
use Rattle.tink_aead_subtle.proofs.Exact.{encryption_ok}
use Rattle.tink_aead_subtle.proofs.nonce_aead.encrypt.Goals as goal

pub returns-clause-replies : goal.returns-clause-replies
returns-clause-replies g c =
    let text = c.args.plaintext.now in
    let aad = c.args.additional_data.now in
    let most = g.A.NonceAead.most in
    let draws = c.args.draws.now in
    let out = c.seal_behind.new.out in
    let fits : limited most (length aad) (length text) ≡ Ok tt = ap (λ m. limited m (length aad) (length text)) (sym c.most_text.ensures) ∙ c.in_ok-check_lengths.ensures in
    let size : length out ≡ c.in_ok-out.out.len = omega arith in
    let written : c.from_vec.result ≡ out = c.from_vec.ensures ∙ take_at out _ c.in_ok-out.out.len size in
    encryption_ok (g.A.NonceAead.seals c.args.aead.now) most text aad draws c.take_into.new.out c.take_into.new.self c.from_vec.result fits (omega arith) c.in_ok-take_into.ensures.taken c.in_ok-take_into.ensures.rest (written ∙ c.seal_behind.ensures)
