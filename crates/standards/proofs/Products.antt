-- The products of GHASH and POLYVAL: linear, and one in the other's terms.
use Rattle.std.proofs.Common.{◌≡◌, ℕ, zero, suc, ◌*◌, ◌/◌, ◌%◌, ◌^◌, ◌<◌, bit_xor, refl, sym, ap, ◌∙◌, arith}
use Rattle.std.proofs.lemmas.Nat.{xor_lt, xor_mod, xor_shr}
use Rattle.standards.specs.Ghash.{product, product_low, times_x}
use Rattle.standards.specs.Polyval.{dot, dot_low, over_x}
use Rattle.standards.proofs.Xor.{bits_times, exchange}

-- the product with x is linear
pub times_x_linear : (a b : ℕ) → times_x (bit_xor a b) ≡ bit_xor (times_x a) (times_x b)
unfolding times_x
times_x_linear a b =
    let r : ℕ = 0xe1000000000000000000000000000000 in
    ap (λ v. bit_xor v (bit_xor a b % 2 * r)) (xor_shr a b 1)
    ∙ ap (λ v. bit_xor (bit_xor (a / 2) (b / 2)) (v * r)) (xor_mod a b 1)
    ∙ ap (λ v. bit_xor (bit_xor (a / 2) (b / 2)) v) (bits_times (a % 2) (b % 2) r (omega arith) (omega arith))
    ∙ exchange (a / 2) (b / 2) (a % 2 * r) (b % 2 * r)

times_x_zero : times_x 0 ≡ 0
unfolding times_x
times_x_zero = refl

-- the product with x of a bit times y
pub times_x_bit : (b y : ℕ) → b < 2 → times_x (b * y) ≡ b * times_x y
times_x_bit zero y h =
    let e : 0 * y ≡ 0 = omega arith in
    let f : 0 * times_x y ≡ 0 = omega arith in
    ap times_x e ∙ times_x_zero ∙ sym f
times_x_bit (suc zero) y h =
    let e : 1 * y ≡ y = omega arith in
    let f : 1 * times_x y ≡ times_x y = omega arith in
    ap times_x e ∙ sym f
times_x_bit (suc (suc b)) y h = absurd (omega arith)

-- a block times x is a block
pub times_x_below : (v : ℕ) → v < 2 ^ 128 → times_x v < 2 ^ 128
unfolding times_x
times_x_below v h = xor_lt 128 (v / 2) (v % 2 * 0xe1000000000000000000000000000000) (omega arith) (omega arith)

bit_below : (b y : ℕ) → b < 2 → y < 2 ^ 128 → b * y < 2 ^ 128
bit_below zero y h k = omega arith
bit_below (suc zero) y h k = omega arith
bit_below (suc (suc b)) y h k = absurd (omega arith)

-- a product of blocks is a block
pub product_low_below : (y x m : ℕ) → y < 2 ^ 128 → product_low y x m < 2 ^ 128
unfolding product_low
product_low_below y x zero h = omega arith
product_low_below y x (suc m) h = xor_lt 128 _ _ (times_x_below _ (product_low_below y x m h)) (bit_below (x / 2 ^ m % 2) y (omega arith) h)

-- what multiplies by x in GHASH's order of bits divides by x in POLYVAL's
pub over_x_is : (v : ℕ) → over_x v ≡ times_x v
unfolding over_x times_x
over_x_is v = refl

-- the first m bits of a dot are those of GHASH's product with x times b
pub dot_low_is : (b a m : ℕ) → dot_low b a m ≡ product_low (times_x b) a m
unfolding dot_low product_low
dot_low_is b a zero = refl
dot_low_is b a (suc m) =
    let bit = a / 2 ^ m % 2 in
    over_x_is (bit_xor (dot_low b a m) (bit * b))
    ∙ times_x_linear (dot_low b a m) (bit * b)
    ∙ ap (λ v. bit_xor (times_x v) (times_x (bit * b))) (dot_low_is b a m)
    ∙ ap (λ v. bit_xor (times_x (product_low (times_x b) a m)) v) (times_x_bit bit b (omega arith))

-- dot is GHASH's product with x times the second factor (RFC 8452, appendix A)
pub dot_is_product : (a b : ℕ) → dot a b ≡ product a (times_x b)
dot_is_product a b = dot_low_is b a 128

-- a dot of blocks is a block
pub dot_below : (a b : ℕ) → b < 2 ^ 128 → dot a b < 2 ^ 128
dot_below a b h = rw (dot_is_product a b) (product_low_below (times_x b) a 128 (times_x_below b h))
