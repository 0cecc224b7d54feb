-- Two steps of four bits are one of eight.
use Rattle.std.proofs.Common.{◌≡◌, ℕ, zero, suc, ◌+◌, ◌*◌, ◌/◌, ◌%◌, ◌^◌, ◌<◌, eqb, get_or, bit_xor, refl, sym, ap, ◌∙◌, arith, eqb→eq}
use Rattle.std.proofs.lemmas.Nat.{shr-shr, xor_lt}
use Rattle.std.specs.Int.Bits.{xor_assoc, xor_zero_l}
use lib.Bits.{xor_shifted}
use Rattle.standards.proofs.Bytes.{every_below}
use Rattle.standards.proofs.Products.{times_x_below}
use Rattle.gcm.specs.declared.large_multiples.TheConstants.{REDUCED_BYTE}
use Rattle.standards.specs.Ghash.{product_low, times_x}
use Rattle.gcm.specs.Multiples.{eight, four, multiple, multiple8}
use Rattle.gcm.proofs.FourBits.{four_bits, four_high, four_linear, once}

pub eight_linear : (a b : ℕ) → eight (bit_xor a b) ≡ bit_xor (eight a) (eight b)
eight_linear a b = ap four (four_linear a b) ∙ four_linear (four a) (four b)

pub eight_high : (a : ℕ) → eight (a * 256) ≡ a
eight_high a =
    let e : a * 256 ≡ a * 16 * 16 = omega arith in
    ap eight e ∙ ap four (four_high (a * 16)) ∙ four_high a

eight_low : (r : ℕ) → r < 256 → get_or REDUCED_BYTE r 0 * 2 ^ 112 % 2 ^ 128 ≡ eight r
unfolding times_x
eight_low r h = eqb→eq _ _ (every_below (λ r. eqb (get_or REDUCED_BYTE r 0 * 2 ^ 112 % 2 ^ 128) (eight r)) 256 tt r h)

pub shift_byte_is : (z : ℕ) → bit_xor (z / 256) (get_or REDUCED_BYTE (z % 256) 0 * 2 ^ 112 % 2 ^ 128) ≡ eight z
shift_byte_is z =
    let low : z % 256 < 256 = omega arith in
    let whole : z / 256 * 256 + z % 256 ≡ z = omega arith in
    ap (λ v. bit_xor (z / 256) v) (eight_low (z % 256) low)
    ∙ ap (λ v. bit_xor v (eight (z % 256))) (sym (eight_high (z / 256)))
    ∙ sym (eight_linear (z / 256 * 256) (z % 256))
    ∙ ap eight (xor_shifted (z / 256) 8 (z % 256) low ∙ whole)

-- eight bits of x at once
pub eight_bits : (y x m : ℕ) → bit_xor (eight (product_low y x m)) (multiple8 y (x / 2 ^ m % 256)) ≡ product_low y x (m + 8)
eight_bits y x m =
    let w = x / 2 ^ m in
    let p = product_low y x m in
    let a : w % 256 % 16 ≡ w % 16 = omega arith in
    let b : w % 256 / 16 % 16 ≡ w / 16 % 16 = omega arith in
    let c : w / 16 % 16 ≡ x / 2 ^ (m + 4) % 16 = ap (λ v. v % 16) (shr-shr x m 4) in
    let e : m + 4 + 4 ≡ m + 8 = omega arith in
    sym (xor_assoc (eight p) (four (multiple y (w % 256 % 16))) (multiple y (w % 256 / 16 % 16)))
    ∙ ap (λ v. bit_xor v (multiple y (w % 256 / 16 % 16)))
    (sym (four_linear (four p) (multiple y (w % 256 % 16))) ∙ ap four (ap (λ k. bit_xor (four p) (multiple y k)) a ∙ four_bits y x m))
    ∙ ap (λ k. bit_xor (four (product_low y x (m + 4))) (multiple y k)) (b ∙ c)
    ∙ four_bits y x (m + 4)
    ∙ ap (product_low y x) e

nothing : (y : ℕ) → multiple y 0 ≡ 0
nothing y =
    let none : (v : ℕ) → 0 * v ≡ 0 = λ v. omega arith in
    simp (none, xor_zero_l)

four_zero : four 0 ≡ 0
unfolding times_x
four_zero = refl

-- the multiple by 1 is the number
pub once_of_eight : (y : ℕ) → multiple8 y 128 ≡ y
once_of_eight y = ap (λ v. bit_xor (four v) (multiple y 8)) (nothing y) ∙ ap (λ v. bit_xor v (multiple y 8)) four_zero ∙ xor_zero_l (multiple y 8) ∙ once y

bit_times : (b y : ℕ) → b < 2 → y < 2 ^ 128 → b * y < 2 ^ 128
bit_times zero y h k = omega arith
bit_times (suc zero) y h k = omega arith
bit_times (suc (suc b)) y h k = absurd (omega arith)

four_below : (z : ℕ) → z < 2 ^ 128 → four z < 2 ^ 128
four_below z h = times_x_below _ (times_x_below _ (times_x_below _ (times_x_below z h)))

multiple_below : (y n : ℕ) → y < 2 ^ 128 → multiple y n < 2 ^ 128
multiple_below y n h =
    let once = times_x_below y h in
    let twice = times_x_below _ once in
    let thrice = times_x_below _ twice in
    let a = bit_times (n % 2) _ (omega arith) thrice in
    let b = bit_times (n / 2 % 2) _ (omega arith) twice in
    let d = bit_times (n / 4 % 2) _ (omega arith) once in
    let e = bit_times (n / 8 % 2) y (omega arith) h in
    xor_lt 128 _ _ (xor_lt 128 _ _ (xor_lt 128 _ _ a b) d) e

-- a multiple of a block's number is a block's number
pub multiple8_below : (y n : ℕ) → y < 2 ^ 128 → multiple8 y n < 2 ^ 128
multiple8_below y n h = xor_lt 128 _ _ (four_below _ (multiple_below y (n % 16) h)) (multiple_below y (n / 16 % 16) h)
