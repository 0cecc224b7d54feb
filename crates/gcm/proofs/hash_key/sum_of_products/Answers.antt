use Rattle.std.proofs.Common.{◌≡◌, ◌+◌, ◌*◌, ◌/◌, ◌%◌, ◌^◌, ◌∙◌, ap, ap₂, refl, bit_xor, get_or, arith}
use Rattle.std.proofs.lemmas.Nat.{shr-shr}
use Rattle.standards.specs.Ghash.{product_low}
use Rattle.gcm.specs.Multiples.{four, multiple, sum4}
use Rattle.gcm.proofs.FourBits.{four_bits, four_linear}
use Rattle.gcm.proofs.Ring.{sums_step}
use Rattle.gcm.proofs.hash_key.sum_of_products.Goals as goal

pub loop-i-init : goal.loop-i-init
unfolding product_low
loop-i-init c = record { a_is = omega arith; b_is = omega arith; c_is = omega arith; d_is = omega arith; sums = refl }

pub loop-i-preserved : goal.loop-i-preserved
loop-i-preserved c =
    let n = 4 * c.loop-i.i in
    let e : n + 4 ≡ 4 * (c.loop-i.i + 1) = omega arith in
    let x0 = get_or c.args.x 0 0 in
    let x1 = get_or c.args.x 1 0 in
    let x2 = get_or c.args.x 2 0 in
    let x3 = get_or c.args.x 3 0 in
    let p = c.args.p.now in
    let q = c.args.q.now in
    let r = c.args.r.now in
    let s = c.args.s.now in
    let h = c.loop-i.invariant in record {
      a_is = ap (λ v. v / 16) h.a_is ∙ shr-shr x0 n 4 ∙ ap (λ k. x0 / 2 ^ k) e;
      b_is = ap (λ v. v / 16) h.b_is ∙ shr-shr x1 n 4 ∙ ap (λ k. x1 / 2 ^ k) e;
      c_is = ap (λ v. v / 16) h.c_is ∙ shr-shr x2 n 4 ∙ ap (λ k. x2 / 2 ^ k) e;
      d_is = ap (λ v. v / 16) h.d_is ∙ shr-shr x3 n 4 ∙ ap (λ k. x3 / 2 ^ k) e;
      sums =
          ap₂ bit_xor (c.shift.ensures ∙ ap four h.sums)
          (ap₂ bit_xor (ap₂ bit_xor (ap₂ bit_xor (c.entry.ensures ∙ ap (λ k. multiple p (k % 16)) h.a_is) (c.entry-in-loop-i.ensures ∙ ap (λ k. multiple q (k % 16)) h.b_is))
          (c.entry-in-loop-i-2.ensures ∙ ap (λ k. multiple r (k % 16)) h.c_is)) (c.entry-in-loop-i-3.ensures ∙ ap (λ k. multiple s (k % 16)) h.d_is))
          ∙ sums_step four multiple 16 4 four_linear four_bits p q r s x0 x1 x2 x3 n
          ∙ ap (λ k. sum4 (product_low p x0 k) (product_low q x1 k) (product_low r x2 k) (product_low s x3 k)) e;
    }

pub returns : goal.returns
returns c =
    let e : 4 * c.loop-i.i ≡ 128 = omega arith in
    c.loop-i.invariant.sums
    ∙ ap (λ k. sum4 (product_low c.args.p.now (get_or c.args.x 0 0) k) (product_low c.args.q.now (get_or c.args.x 1 0) k) (product_low c.args.r.now (get_or c.args.x 2 0) k) (product_low c.args.s.now (get_or c.args.x 3 0) k)) e
