-- Four steps of one bit are one of four.
use Rattle.std.proofs.Common.{◌≡◌, ℕ, suc, ◌+◌, ◌*◌, ◌/◌, ◌%◌, ◌^◌, ◌<◌, eqb, get_or, bit_xor, refl, sym, ap, ◌∙◌, arith, eqb→eq}
use Rattle.std.proofs.lemmas.Nat.{shr-shr}
use Rattle.std.specs.Int.Bits.{xor_assoc, xor_zero_l, xor_zero_r}
use lib.Bits.{xor_shifted}
use Rattle.standards.proofs.Bytes.{every_below}
use Rattle.standards.proofs.Products.{times_x_bit, times_x_linear}
use Rattle.gcm.specs.declared.multiples.TheConstants.{REDUCED}
use Rattle.standards.specs.Ghash.{product_low, times_x}
use Rattle.gcm.specs.Multiples.{four, multiple}

pub at_zero : times_x 0 ≡ 0
unfolding times_x
at_zero = refl

pub push : (a b y : ℕ) → b < 2 → times_x (bit_xor a (b * y)) ≡ bit_xor (times_x a) (b * times_x y)
push a b y h = times_x_linear a (b * y) ∙ ap (λ v. bit_xor (times_x a) v) (times_x_bit b y h)

pub halved : (a : ℕ) → times_x (a * 2) ≡ a
unfolding times_x
halved a =
    let e : a * 2 / 2 ≡ a = omega arith in
    let f : a * 2 % 2 ≡ 0 = omega arith in
    ap (λ v. bit_xor v (a * 2 % 2 * 0xe1000000000000000000000000000000)) e ∙ ap (λ v. bit_xor a (v * 0xe1000000000000000000000000000000)) f ∙ xor_zero_r a

pub four_linear : (a b : ℕ) → four (bit_xor a b) ≡ bit_xor (four a) (four b)
four_linear a b =
    ap (λ v. times_x (times_x (times_x v))) (times_x_linear a b)
    ∙ ap (λ v. times_x (times_x v)) (times_x_linear (times_x a) (times_x b))
    ∙ ap times_x (times_x_linear (times_x (times_x a)) (times_x (times_x b)))
    ∙ times_x_linear (times_x (times_x (times_x a))) (times_x (times_x (times_x b)))

pub four_high : (a : ℕ) → four (a * 16) ≡ a
four_high a =
    let e : a * 16 ≡ a * 2 * 2 * 2 * 2 = omega arith in
    ap four e
    ∙ ap (λ v. times_x (times_x (times_x v))) (halved (a * 2 * 2 * 2))
    ∙ ap (λ v. times_x (times_x v)) (halved (a * 2 * 2))
    ∙ ap times_x (halved (a * 2))
    ∙ halved a

four_low : (r : ℕ) → r < 16 → get_or REDUCED r 0 * 2 ^ 112 % 2 ^ 128 ≡ four r
unfolding times_x
four_low r h = eqb→eq _ _ (every_below (λ r. eqb (get_or REDUCED r 0 * 2 ^ 112 % 2 ^ 128) (four r)) 16 tt r h)

pub shift_is : (z : ℕ) → bit_xor (z / 16) (get_or REDUCED (z % 16) 0 * 2 ^ 112 % 2 ^ 128) ≡ four z
shift_is z =
    let low : z % 16 < 16 = omega arith in
    let whole : z / 16 * 16 + z % 16 ≡ z = omega arith in
    ap (λ v. bit_xor (z / 16) v) (four_low (z % 16) low)
    ∙ ap (λ v. bit_xor v (four (z % 16))) (sym (four_high (z / 16)))
    ∙ sym (four_linear (z / 16 * 16) (z % 16))
    ∙ ap four (xor_shifted (z / 16) 4 (z % 16) low ∙ whole)

gathered : (h p q r s : ℕ) → bit_xor (bit_xor (bit_xor (bit_xor h p) q) r) s ≡ bit_xor h (bit_xor (bit_xor (bit_xor p q) r) s)
gathered h p q r s =
    ap (λ v. bit_xor (bit_xor v r) s) (xor_assoc h p q)
    ∙ ap (λ v. bit_xor v s) (xor_assoc h (bit_xor p q) r)
    ∙ xor_assoc h (bit_xor (bit_xor p q) r) s

abbrev step : ℕ → ℕ → ℕ → ℕ
step y h b = bit_xor (times_x h) (b * y)

four_steps : (y h a b c d : ℕ) → a < 2 → b < 2 → c < 2 → d < 2
    → step y (step y (step y (step y h a) b) c) d
    ≡ bit_xor (four h) (bit_xor (bit_xor (bit_xor (a * times_x (times_x (times_x y))) (b * times_x (times_x y))) (c * times_x y)) (d * y))
four_steps y h a b c d A B C D =
    let h1 = times_x h in
    let h2 = times_x h1 in
    let h3 = times_x h2 in
    let y1 = times_x y in
    let y2 = times_x y1 in
    ap (λ v. step y (step y (bit_xor v (b * y)) c) d) (push h1 a y A)
    ∙ ap (λ v. step y (bit_xor v (c * y)) d) (push (bit_xor h2 (a * y1)) b y B ∙ ap (λ v. bit_xor v (b * y1)) (push h2 a y1 A))
    ∙ ap (λ v. bit_xor v (d * y)) (push (bit_xor (bit_xor h3 (a * y2)) (b * y1)) c y C
    ∙ ap (λ v. bit_xor v (c * y1)) (push (bit_xor h3 (a * y2)) b y1 B ∙ ap (λ v. bit_xor v (b * y2)) (push h3 a y2 A)))
    ∙ gathered (four h) (a * times_x y2) (b * y2) (c * y1) (d * y)

shifted_bit : (x m k n : ℕ) → n ≡ m + k → x / 2 ^ m / 2 ^ k % 2 ≡ x / 2 ^ n % 2
shifted_bit x m k n e = ap (λ v. v % 2) (shr-shr x m k ∙ ap (λ j. x / 2 ^ j) (sym e))

-- four bits of x at once
pub four_bits : (y x m : ℕ) → bit_xor (four (product_low y x m)) (multiple y (x / 2 ^ m % 16)) ≡ product_low y x (m + 4)
unfolding product_low
four_bits y x m =
    let h = product_low y x m in
    let w = x / 2 ^ m in
    let e : m + 4 ≡ suc (suc (suc (suc m))) = omega arith in
    let a : w % 16 % 2 ≡ w % 2 = omega arith in
    let b : w % 16 / 2 % 2 ≡ w / 2 % 2 = omega arith in
    let c : w % 16 / 4 % 2 ≡ w / 4 % 2 = omega arith in
    let d : w % 16 / 8 % 2 ≡ w / 8 % 2 = omega arith in
    let b1 = b ∙ shifted_bit x m 1 (suc m) (omega arith) in
    let c1 = c ∙ shifted_bit x m 2 (suc (suc m)) (omega arith) in
    let d1 = d ∙ shifted_bit x m 3 (suc (suc (suc m))) (omega arith) in
    sym (four_steps y h (w % 16 % 2) (w % 16 / 2 % 2) (w % 16 / 4 % 2) (w % 16 / 8 % 2) (omega arith) (omega arith) (omega arith) (omega arith))
    ∙ ap (λ v. step y (step y (step y (step y h v) (w % 16 / 2 % 2)) (w % 16 / 4 % 2)) (w % 16 / 8 % 2)) a
    ∙ ap (λ v. step y (step y (step y (step y h (w % 2)) v) (w % 16 / 4 % 2)) (w % 16 / 8 % 2)) b1
    ∙ ap (λ v. step y (step y (step y (step y h (w % 2)) (x / 2 ^ suc m % 2)) v) (w % 16 / 8 % 2)) c1
    ∙ ap (λ v. step y (step y (step y (step y h (w % 2)) (x / 2 ^ suc m % 2)) (x / 2 ^ suc (suc m) % 2)) v) d1
    ∙ ap (λ k. product_low y x k) (sym e)

-- the multiple by 1 is the number
pub once : (y : ℕ) → multiple y 8 ≡ y
once y =
    let none : (v : ℕ) → 0 * v ≡ 0 = λ v. omega arith in
    let whole : 1 * y ≡ y = omega arith in
    simp (none, whole, xor_zero_l)
