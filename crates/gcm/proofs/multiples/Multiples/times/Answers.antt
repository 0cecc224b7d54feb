use Rattle.std.proofs.Common.{◌≡◌, ◌+◌, ◌*◌, ◌/◌, ◌%◌, ◌^◌, ◌∙◌, ap, ap₂, refl, bit_xor, arith}
use Rattle.std.proofs.lemmas.Nat.{shr-shr}
use Rattle.standards.specs.Ghash.{product_low}
use Rattle.gcm.specs.Multiples.{four, multiple}
use Rattle.gcm.proofs.FourBits.{four_bits}
use Rattle.gcm.proofs.multiples.Multiples.times.Goals as goal

pub loop-i-init : goal.loop-i-init
unfolding product_low
loop-i-init c = record { rest = omega arith; sum = refl }

pub loop-i-preserved : goal.loop-i-preserved
loop-i-preserved c =
    let m = 4 * c.loop-i.i in
    let e : m + 4 ≡ 4 * (c.loop-i.i + 1) = omega arith in
    let x = c.args.x in
    let y = c.args.self.now in
    let held = c.loop-i.invariant in
    record {
      rest = ap (λ v. v / 16) held.rest ∙ shr-shr x m 4 ∙ ap (λ k. x / 2 ^ k) e;
      sum =
          ap₂ bit_xor (c.shift.ensures ∙ ap four held.sum) (c.entry.ensures ∙ ap (λ v. multiple y (v % 16)) held.rest)
          ∙ four_bits y x m ∙ ap (product_low y x) e;
    }
