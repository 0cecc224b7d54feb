use Rattle.std.proofs.Common.{◌≡◌, ◌+◌, ◌*◌, ◌/◌, ◌%◌, ◌^◌, ◌∙◌, ap, ap₂, refl, bit_xor, arith}
use Rattle.std.proofs.lemmas.Nat.{shr-shr}
use Rattle.standards.specs.Ghash.{product_low}
use Rattle.gcm.specs.Multiples.{eight, multiple8}
use Rattle.gcm.proofs.EightBits.{eight_bits}
use Rattle.gcm.proofs.large_multiples.LargeMultiples.times.Goals as goal

pub loop-i-init : goal.loop-i-init
unfolding product_low
loop-i-init c = record { rest = omega arith; sum = refl }

pub loop-i-preserved : goal.loop-i-preserved
loop-i-preserved c =
    let m = 8 * c.loop-i.i in
    let e : m + 8 ≡ 8 * (c.loop-i.i + 1) = omega arith in
    let x = c.args.x in
    let y = c.args.self.now in
    let held = c.loop-i.invariant in
    record {
      rest = ap (λ v. v / 256) held.rest ∙ shr-shr x m 8 ∙ ap (λ k. x / 2 ^ k) e;
      sum =
          ap₂ bit_xor (c.shift_byte.ensures ∙ ap eight held.sum) (c.entry.ensures ∙ ap (λ v. multiple8 y (v % 256)) held.rest)
          ∙ eight_bits y x m ∙ ap (product_low y x) e;
    }
