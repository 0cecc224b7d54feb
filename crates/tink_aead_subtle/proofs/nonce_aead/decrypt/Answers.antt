use Rattle.std.proofs.Common.{◌≡◌, ◌-◌, ℕ, List, length, take, drop, inr, ap, sym, ◌∙◌, arith, length-drop}
use Rattle.std.specs.Prelude.{Ok, Err}
use Rattle.std.proofs.lemmas.List.{take_all, take_at}
use Rattle.tink_aead_subtle.specs.NonceAeads.{limited}
use Rattle.tink_aead_subtle.proofs.Exact.{decryption_err, decryption_ok}
use Rattle.tink_aead_subtle.proofs.nonce_aead.decrypt.Goals as goal

pub returns-in-Ok : goal.returns-in-Ok
returns-in-Ok g c =
    let input = c.args.ciphertext.now in
    let aad = c.args.additional_data.now in
    let most = g.A.NonceAead.most in
    let sealed : List ℕ = take (length input - 12) (drop 12 input) in
    let rest : sealed ≡ drop 12 input = take_all (length input - 12) (drop 12 input) (omega (arith, length-drop 12 input)) in
    let fits : limited most (length aad) (length input - 28) ≡ Ok tt = ap (λ m. limited m (length aad) (length input - 28)) (sym c.most_text.ensures) ∙ c.in_ok-check_lengths.ensures in
    let text = c.open_into.new.out in
    let size : length text ≡ c.in_ok-out.out.len = omega arith in
    decryption_ok (g.A.NonceAead.seals c.args.aead.now) (g.A.NonceAead.opens c.args.aead.now) most (g.met.A.NonceAead.gives_back c.args.aead.now) input aad sealed c.if-ciphertext-lt-LEAST_SIZE.false fits rest text c.in-Ok.ensures.1
    ∙ ap Ok (sym (c.from_vec.ensures ∙ take_at text _ c.in_ok-out.out.len size))

pub returns-in-Err : goal.returns-in-Err
returns-in-Err g c =
    let input = c.args.ciphertext.now in
    let aad = c.args.additional_data.now in
    let most = g.A.NonceAead.most in
    let sealed : List ℕ = take (length input - 12) (drop 12 input) in
    let rest : sealed ≡ drop 12 input = take_all (length input - 12) (drop 12 input) (omega (arith, length-drop 12 input)) in
    let fits : limited most (length aad) (length input - 28) ≡ Ok tt = ap (λ m. limited m (length aad) (length input - 28)) (sym c.most_text.ensures) ∙ c.in_ok-check_lengths.ensures in
    inr (decryption_err (g.A.NonceAead.seals c.args.aead.now) (g.A.NonceAead.opens c.args.aead.now) most (g.met.A.NonceAead.gives_back c.args.aead.now) input aad sealed c.if-ciphertext-lt-LEAST_SIZE.false fits rest c.in-Err.e _ c.open_into.new.out c.in-Err.ensures
    ∙ ap Err (sym (ap (λ r. r.kind) c.new-in-Err.ensures ∙ c.kind_of.ensures)))
