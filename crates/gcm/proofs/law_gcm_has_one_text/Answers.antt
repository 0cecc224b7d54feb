use Rattle.std.proofs.Common.{◌≡◌, ◌-◌, length, take, ap, sym, ◌∙◌, arith}
use Rattle.standards.specs.Gcm.{gcm, gcm_text}
use Rattle.standards.proofs.Lengths.{length-gcm}
use Rattle.standards.proofs.ModesUndo.{gcm_same, gcm_text_twice, take-gcm}
use Rattle.gcm.proofs.law_gcm_has_one_text.Goals as goal

pub returns : goal.returns
returns c = record {
  one_text = λ E nonce aad sealed xs ys p q. gcm_same E nonce aad xs ys (p ∙ sym q);
  gives_back = λ E nonce aad text.
      let sealed = gcm E nonce aad text in
      let size : length sealed - 16 ≡ length text = omega (arith, length-gcm E nonce aad text) in
      let back : gcm_text E nonce (take (length sealed - 16) sealed) ≡ text =
      ap (gcm_text E nonce) (ap (λ n. take n sealed) size ∙ take-gcm E nonce aad text) ∙ gcm_text_twice E nonce text in
      (back, ap (gcm E nonce aad) back);
}
