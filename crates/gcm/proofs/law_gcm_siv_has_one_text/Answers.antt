use Rattle.std.proofs.Common.{◌≡◌, ◌-◌, length, take, drop, ap, refl, sym, ◌∙◌}
use Rattle.standards.specs.GcmSiv.{authentication_key, encryption_key, gcm_siv, gcm_siv_text}
use Rattle.gcm.proofs.SivFacts.{gcm_siv_is, text_of_sealed}
use Rattle.gcm.proofs.law_gcm_siv_has_one_text.Goals as goal

pub returns : goal.returns
unfolding gcm_siv_text
returns c = record {
  one_text = λ cipher key nonce aad sealed xs ys size p q.
      let E = cipher (encryption_key cipher key nonce) in
      let authentication = authentication_key (cipher key) nonce in
      sym (text_of_sealed E authentication nonce aad xs sealed (length sealed - 16) size refl (sym (gcm_siv_is cipher key nonce aad xs) ∙ p))
      ∙ text_of_sealed E authentication nonce aad ys sealed (length sealed - 16) size refl (sym (gcm_siv_is cipher key nonce aad ys) ∙ q);
  gives_back = λ cipher key nonce aad text size.
      let E = cipher (encryption_key cipher key nonce) in
      let sealed = gcm_siv cipher key nonce aad text in
      let n = length sealed - 16 in
      let back : gcm_siv_text cipher key nonce (drop n sealed) (take n sealed) ≡ text =
      text_of_sealed E (authentication_key (cipher key) nonce) nonce aad text sealed n size refl (sym (gcm_siv_is cipher key nonce aad text)) in
      (back, ap (gcm_siv cipher key nonce aad) back);
}
