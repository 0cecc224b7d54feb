-- Xor as the sum of polynomials.
use Rattle.std.proofs.Common.{◌≡◌, ℕ, zero, suc, ◌*◌, ◌<◌, bit_xor, sym, ap, ◌∙◌, arith}
use Rattle.std.proofs.lemmas.Nat.{xor_comm}
use Rattle.std.specs.Int.Bits.{xor_assoc, xor_self, xor_zero_l, xor_zero_r}

-- four terms added in another order
pub exchange : (a b c d : ℕ) → bit_xor (bit_xor a b) (bit_xor c d) ≡ bit_xor (bit_xor a c) (bit_xor b d)
exchange a b c d =
    xor_assoc a b (bit_xor c d)
    ∙ ap (λ v. bit_xor a v) (sym (xor_assoc b c d) ∙ ap (λ v. bit_xor v d) (xor_comm b c) ∙ xor_assoc c b d)
    ∙ sym (xor_assoc a c (bit_xor b d))

-- a sum of bits times y
pub bits_times : (p q y : ℕ) → p < 2 → q < 2 → bit_xor p q * y ≡ bit_xor (p * y) (q * y)
bits_times zero zero y h k =
    let e : 0 * y ≡ 0 = omega arith in
    e ∙ sym (ap (λ v. bit_xor v v) e)
bits_times zero (suc zero) y h k =
    let e : 0 * y ≡ 0 = omega arith in
    sym (ap (λ v. bit_xor v (1 * y)) e ∙ xor_zero_l (1 * y))
bits_times (suc zero) zero y h k =
    let e : 0 * y ≡ 0 = omega arith in
    sym (ap (λ v. bit_xor (1 * y) v) e ∙ xor_zero_r (1 * y))
bits_times (suc zero) (suc zero) y h k =
    let e : 0 * y ≡ 0 = omega arith in
    e ∙ sym (xor_self (1 * y))
bits_times (suc (suc p)) q y h k = absurd (omega arith)
bits_times zero (suc (suc q)) y h k = absurd (omega arith)
bits_times (suc zero) (suc (suc q)) y h k = absurd (omega arith)
