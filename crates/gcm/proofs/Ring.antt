-- Products are linear in both factors, and associative.
use Rattle.std.proofs.Common.{◌≡◌, ℕ, zero, suc, ◌+◌, ◌*◌, ◌/◌, ◌%◌, ◌^◌, ◌<◌, ◌≤◌, eqb, bit_xor, refl, subst, sym, ap, ◌∙◌, arith, eqb→eq}
use Rattle.std.proofs.lemmas.Nat.{mod_below, pow_pos, shr-shr, shr_below, shr_split, xor_comm, xor_mod, xor_shr}
use Rattle.std.proofs.lemmas.Nat.Bits.{bit_at-zero, bit_at_cat_low}
use Rattle.std.specs.Int.Bits.{xor_assoc, xor_zero_l, xor_zero_r}
use lib.Bits.{xor_shifted}
use Rattle.standards.specs.Ghash.{product, product_low, times_x}
use Rattle.standards.proofs.Bytes.{every_below}
use Rattle.standards.proofs.Products.{product_low_below, times_x_linear}
use Rattle.standards.proofs.Xor.{bits_times, exchange}
use Rattle.gcm.specs.Carries.{powers, rest}
use Rattle.gcm.specs.Multiples.{ArePowers, horner, sum4}
use Rattle.gcm.proofs.FourBits.{at_zero, push}

-- one bit more
one_more : (y x m : ℕ) → product_low y x (suc m) ≡ bit_xor (times_x (product_low y x m)) (x / 2 ^ m % 2 * y)
unfolding product_low
one_more y x m = refl

times_x_is : (u : ℕ) → times_x u ≡ bit_xor (u / 2) (u % 2 * 0xe1000000000000000000000000000000)
unfolding times_x
times_x_is u = refl

at_bit : (f g : ℕ → ℕ) → f 0 ≡ g 0 → (p : ℕ) → f p ≡ g p → (b : ℕ) → b < 2 → f (b * p) ≡ g (b * p)
at_bit f g o p e zero h =
    let z : 0 * p ≡ 0 = omega arith in
    ap f z ∙ o ∙ ap g (sym z)
at_bit f g o p e (suc zero) h =
    let z : 1 * p ≡ p = omega arith in
    ap f z ∙ e ∙ ap g (sym z)
at_bit f g o p e (suc (suc b)) h = absurd (omega arith)

-- linear in the first factor
bit_sum : (a b m : ℕ) → bit_xor a b / 2 ^ m % 2 ≡ bit_xor (a / 2 ^ m % 2) (b / 2 ^ m % 2)
bit_sum a b m = ap (λ v. v % 2) (xor_shr a b m) ∙ xor_mod (a / 2 ^ m) (b / 2 ^ m) 1

pub linear_first : (y a b m : ℕ) → product_low y (bit_xor a b) m ≡ bit_xor (product_low y a m) (product_low y b m)
unfolding product_low
linear_first y a b zero = refl
linear_first y a b (suc m) =
    let p = a / 2 ^ m % 2 in
    let q = b / 2 ^ m % 2 in
    ap (λ v. bit_xor (times_x v) (bit_xor a b / 2 ^ m % 2 * y)) (linear_first y a b m)
    ∙ ap (λ v. bit_xor v (bit_xor a b / 2 ^ m % 2 * y)) (times_x_linear (product_low y a m) (product_low y b m))
    ∙ ap (λ v. bit_xor (bit_xor (times_x (product_low y a m)) (times_x (product_low y b m))) v)
    (ap (λ v. v * y) (bit_sum a b m) ∙ bits_times p q y (omega arith) (omega arith))
    ∙ exchange (times_x (product_low y a m)) (times_x (product_low y b m)) (p * y) (q * y)

zero_first : (y m : ℕ) → product_low y 0 m ≡ 0
unfolding product_low
zero_first y zero = refl
zero_first y (suc m) =
    let e : 0 * y ≡ 0 = omega arith in
    ap (λ v. bit_xor (times_x v) (0 / 2 ^ m % 2 * y)) (zero_first y m)
    ∙ ap (λ v. bit_xor v (0 / 2 ^ m % 2 * y)) at_zero
    ∙ ap (λ v. bit_xor 0 (v * y)) (bit_at-zero m)
    ∙ ap (bit_xor 0) e

-- a factor of one bit
bit_first : (y b h m : ℕ) → b < 2 → product_low y (b * h) m ≡ b * product_low y h m
bit_first y zero h m k =
    let e : 0 * h ≡ 0 = omega arith in
    let d : 0 ≡ 0 * product_low y h m = omega arith in
    ap (λ v. product_low y v m) e ∙ zero_first y m ∙ d
bit_first y (suc zero) h m k =
    let e : 1 * h ≡ h = omega arith in
    let d : product_low y h m ≡ 1 * product_low y h m = omega arith in
    ap (λ v. product_low y v m) e ∙ d
bit_first y (suc (suc b)) h m k = absurd (omega arith)

power_more : (n z : ℕ) → powers (suc n) z ≡ times_x (powers n z)
unfolding powers
power_more n z = refl

powers_linear : (n a b : ℕ) → powers n (bit_xor a b) ≡ bit_xor (powers n a) (powers n b)
unfolding powers
powers_linear zero a b = refl
powers_linear (suc n) a b = ap times_x (powers_linear n a b) ∙ times_x_linear (powers n a) (powers n b)

sum4_linear : (a b c d p q r s : ℕ) → sum4 (bit_xor a p) (bit_xor b q) (bit_xor c r) (bit_xor d s) ≡ bit_xor (sum4 a b c d) (sum4 p q r s)
sum4_linear a b c d p q r s =
    ap (λ v. bit_xor (bit_xor v (bit_xor c r)) (bit_xor d s)) (exchange a p b q)
    ∙ ap (λ v. bit_xor v (bit_xor d s)) (exchange (bit_xor a b) (bit_xor p q) c r)
    ∙ exchange (bit_xor (bit_xor a b) c) (bit_xor (bit_xor p q) r) d s

pub rest_linear : (a b : ℕ) → rest (bit_xor a b) ≡ bit_xor (rest a) (rest b)
rest_linear a b =
    let ab = bit_xor a b in
    ap (λ v. sum4 v (powers 2 ab) (powers 1 ab) ab) (powers_linear 7 a b)
    ∙ ap (λ v. sum4 (bit_xor (powers 7 a) (powers 7 b)) v (powers 1 ab) ab) (powers_linear 2 a b)
    ∙ ap (λ v. sum4 (bit_xor (powers 7 a) (powers 7 b)) (bit_xor (powers 2 a) (powers 2 b)) v ab) (powers_linear 1 a b)
    ∙ sum4_linear (powers 7 a) (powers 2 a) (powers 1 a) a (powers 7 b) (powers 2 b) (powers 1 b) b

-- two linear functions that agree at the powers of 2
agree_at : (f g : ℕ → ℕ) → ((a b : ℕ) → f (bit_xor a b) ≡ bit_xor (f a) (f b)) → ((a b : ℕ) → g (bit_xor a b) ≡ bit_xor (g a) (g b))
    → f 0 ≡ g 0 → (k : ℕ) → ((i : ℕ) → i < k → f (2 ^ i) ≡ g (2 ^ i)) → (z : ℕ) → z < 2 ^ k → f z ≡ g z
agree_at f g F G o zero at z h =
    let e : z ≡ 0 = omega arith in
    ap f e ∙ o ∙ ap g (sym e)
agree_at f g F G o (suc k) at z h =
    let r = z % 2 ^ k in
    let b = z / 2 ^ k in
    let s : suc k ≡ 1 + k = omega arith in
    let low : r < 2 ^ k = mod_below z (2 ^ k) (pow_pos k) in
    let small : b < 2 = shr_below z 1 k (subst (λ n. z < 2 ^ n) s h) in
    let whole : bit_xor (b * 2 ^ k) r ≡ z = xor_shifted b k r low ∙ shr_split z k in
    let top : f (b * 2 ^ k) ≡ g (b * 2 ^ k) = at_bit f g o (2 ^ k) (at k (omega arith)) b small in
    ap f (sym whole) ∙ F (b * 2 ^ k) r
    ∙ ap (λ v. bit_xor v (f r)) top
    ∙ ap (λ v. bit_xor (g (b * 2 ^ k)) v) (agree_at f g F G o k (λ i l. at i (omega arith)) r low)
    ∙ sym (G (b * 2 ^ k) r) ∙ ap g whole

at_powers : (i : ℕ) → i < 128 → powers 128 (2 ^ i) ≡ rest (2 ^ i)
unfolding powers times_x
at_powers i l = eqb→eq _ _ (every_below (λ i. eqb (powers 128 (2 ^ i)) (rest (2 ^ i))) 128 tt i l)

at_nothing : powers 128 0 ≡ rest 0
unfolding powers times_x
at_nothing = refl

x128 : (z : ℕ) → z < 2 ^ 128 → powers 128 z ≡ rest z
x128 z h = agree_at (powers 128) rest (powers_linear 128) rest_linear at_nothing 128 at_powers z h

low_zero : (y h k m : ℕ) → m ≤ k → product_low y (h * 2 ^ k) m ≡ 0
unfolding product_low
low_zero y h k zero l = refl
low_zero y h k (suc m) l =
    let e : 0 * y ≡ 0 = omega arith in
    let z : h * 2 ^ k ≡ h * 2 ^ k + 0 = omega arith in
    ap (λ v. bit_xor (times_x v) (h * 2 ^ k / 2 ^ m % 2 * y)) (low_zero y h k m (omega arith))
    ∙ ap (λ v. bit_xor v (h * 2 ^ k / 2 ^ m % 2 * y)) at_zero
    ∙ ap (λ v. bit_xor 0 (v * y)) (ap (λ v. v / 2 ^ m % 2) z ∙ bit_at_cat_low h k 0 m (omega arith) ∙ bit_at-zero m)
    ∙ ap (bit_xor 0) e

abbrev next : ℕ → ℕ → ℕ → ℕ
next y u b = bit_xor (times_x u) (b * y)

top8 : (y u : ℕ) → u ≡ 0 → next y (next y (next y (next y (next y (next y (next y (next y u 1) 0) 0) 0) 0) 1) 1) 1 ≡ rest y
unfolding powers
top8 y u e =
    let z : 0 * y ≡ 0 = omega arith in
    let o : 1 * y ≡ y = omega arith in
    simp (e, z, o, at_zero, xor_zero_l, xor_zero_r, times_x_linear)

reduced : (y : ℕ) → product_low y 0xe1000000000000000000000000000000 128 ≡ rest y
unfolding product_low
reduced y = top8 y (product_low y 0xe1000000000000000000000000000000 120) (low_zero y 0xe1 120 120 (omega arith))

swap : (a b c : ℕ) → bit_xor (bit_xor a b) c ≡ bit_xor (bit_xor a c) b
swap a b c = xor_assoc a b c ∙ ap (bit_xor a) (xor_comm b c) ∙ sym (xor_assoc a c b)

halves : (z u m : ℕ) → product_low z u (suc m) ≡ bit_xor (product_low z (u / 2) m) (u % 2 * powers m z)
unfolding product_low powers
halves z u zero =
    let e : u / 1 ≡ u = omega arith in
    ap (λ v. bit_xor v (u / 1 % 2 * z)) at_zero ∙ ap (λ v. bit_xor 0 (v % 2 * z)) e
halves z u (suc m) =
    let a = u / 2 in
    let r = u % 2 in
    let s : suc m ≡ 1 + m = omega arith in
    let bit : u / 2 ^ suc m % 2 ≡ a / 2 ^ m % 2 = ap (λ v. v % 2) (ap (λ k. u / 2 ^ k) s ∙ sym (shr-shr u 1 m)) in
    ap (λ v. bit_xor (times_x v) (u / 2 ^ suc m % 2 * z)) (halves z u m)
    ∙ ap (λ v. bit_xor v (u / 2 ^ suc m % 2 * z)) (push (product_low z a m) r (powers m z) (omega arith))
    ∙ ap (λ v. bit_xor (bit_xor (times_x (product_low z a m)) (r * times_x (powers m z))) (v * z)) bit
    ∙ swap (times_x (product_low z a m)) (r * times_x (powers m z)) (a / 2 ^ m % 2 * z)

last_zero : (z a : ℕ) → a < 2 ^ 127 → product_low z a 128 ≡ times_x (product_low z a 127)
last_zero z a h =
    let e : a / 2 ^ 127 % 2 ≡ 0 = omega arith in
    let o : 0 * z ≡ 0 = omega arith in
    one_more z a 127 ∙ ap (λ v. bit_xor (times_x (product_low z a 127)) (v * z)) e ∙ ap (bit_xor (times_x (product_low z a 127))) o ∙ xor_zero_r _

-- the product with x may be taken in either factor
pub times_first : (z u : ℕ) → z < 2 ^ 128 → u < 2 ^ 128 → product_low z (times_x u) 128 ≡ times_x (product_low z u 128)
times_first z u hz hu =
    let a = u / 2 in
    let r = u % 2 in
    let c : ℕ = 0xe1000000000000000000000000000000 in
    ap (λ v. product_low z v 128) (times_x_is u)
    ∙ linear_first z a (r * c) 128
    ∙ ap (λ v. bit_xor (product_low z a 128) v) (bit_first z r c 128 (omega arith) ∙ ap (λ v. r * v) (reduced z ∙ sym (x128 z hz)))
    ∙ ap (λ v. bit_xor v (r * powers 128 z)) (last_zero z a (omega arith))
    ∙ ap (λ v. bit_xor (times_x (product_low z a 127)) (r * v)) (power_more 127 z)
    ∙ sym (push (product_low z a 127) r (powers 127 z) (omega arith))
    ∙ ap times_x (sym (halves z u 127))

pub associates : (a h k m : ℕ) → h < 2 ^ 128 → k < 2 ^ 128 → product_low k (product_low h a m) 128 ≡ product_low (product_low k h 128) a m
unfolding product_low
associates a h k zero hh hk = zero_first k 128
associates a h k (suc m) hh hk =
    let b = a / 2 ^ m % 2 in
    let l = product_low h a m in
    linear_first k (times_x l) (b * h) 128
    ∙ ap (λ v. bit_xor v (product_low k (b * h) 128)) (times_first k l hk (product_low_below h a m hh) ∙ ap times_x (associates a h k m hh hk))
    ∙ ap (λ v. bit_xor (times_x (product_low (product_low k h 128) a m)) v) (bit_first k b h 128 (omega arith))

-- the product of a sum
more : (h u b : ℕ) → h < 2 ^ 128 → product (bit_xor (product u h) b) h ≡ bit_xor (product u (product h h)) (product b h)
more h u b hh = linear_first h (product u h) b 128 ∙ ap (λ v. bit_xor v (product b h)) (associates u h h 128 hh hh)

-- Horner's rule, and the sum of the products with the powers
pub horner_is : (h u b c d : ℕ) → h < 2 ^ 128
    → let h2 = product h h in let h3 = product h2 h in
    horner h u b c d ≡ sum4 (product u (product h3 h)) (product b h3) (product c h2) (product d h)
horner_is h u b c d hh =
    let h2 = product h h in
    let h3 = product h2 h in
    let two = more h u b hh in
    let three = linear_first h (product (bit_xor (product u h) b) h) c 128
    ∙ ap (λ v. bit_xor (product v h) (product c h)) two
    ∙ ap (λ v. bit_xor v (product c h)) (linear_first h (product u h2) (product b h) 128
    ∙ ap (λ v. bit_xor v (product (product b h) h)) (associates u h2 h 128 (product_low_below h h 128 hh) hh)
    ∙ ap (λ v. bit_xor (product u h3) v) (associates b h h 128 hh hh)) in
    linear_first h (product (bit_xor (product (bit_xor (product u h) b) h) c) h) d 128
    ∙ ap (λ v. bit_xor (product v h) (product d h)) three
    ∙ ap (λ v. bit_xor v (product d h)) (linear_first h (bit_xor (product u h3) (product b h2)) (product c h) 128
    ∙ ap (λ v. bit_xor v (product (product c h) h)) (linear_first h (product u h3) (product b h2) 128
    ∙ ap (λ v. bit_xor v (product (product b h2) h)) (associates u h3 h 128 (product_low_below h h2 128 hh) hh)
    ∙ ap (λ v. bit_xor (product u (product h3 h)) v) (associates b h2 h 128 (product_low_below h h 128 hh) hh))
    ∙ ap (λ v. bit_xor (bit_xor (product u (product h3 h)) (product b h3)) v) (associates c h h 128 hh hh))

pub by_powers : (h h2 h3 h4 u b c d : ℕ) → ArePowers h h2 h3 h4 → sum4 (product u h4) (product b h3) (product c h2) (product d h) ≡ horner h u b c d
by_powers h h2 h3 h4 u b c d powers =
    let second = powers.second in
    let third = powers.third ∙ ap (λ v. product v h) second in
    let fourth = powers.fourth ∙ ap (λ v. product v h) third in
    ap (λ v. sum4 (product u v) (product b h3) (product c h2) (product d h)) fourth
    ∙ ap (λ v. sum4 (product u (product (product (product h h) h) h)) (product b v) (product c h2) (product d h)) third
    ∙ ap (λ v. sum4 (product u (product (product (product h h) h) h)) (product b (product (product h h) h)) (product c v) (product d h)) second
    ∙ sym (horner_is h u b c d powers.fits)

-- a linear step on each of four summands
steps4 : (f : ℕ → ℕ) → ((a b : ℕ) → f (bit_xor a b) ≡ bit_xor (f a) (f b)) → (a b c d p q r s : ℕ)
    → bit_xor (f (sum4 p q r s)) (sum4 a b c d) ≡ sum4 (bit_xor (f p) a) (bit_xor (f q) b) (bit_xor (f r) c) (bit_xor (f s) d)
steps4 f linear a b c d p q r s =
    ap (λ v. bit_xor v (sum4 a b c d)) (linear (bit_xor (bit_xor p q) r) s
    ∙ ap (λ v. bit_xor v (f s)) (linear (bit_xor p q) r ∙ ap (λ v. bit_xor v (f r)) (linear p q)))
    ∙ sym (sum4_linear (f p) (f q) (f r) (f s) a b c d)

-- k bits more of each of four factors, where `f` is the product with x ^ k and `m` the multiple by k bits
pub sums_step : (f : ℕ → ℕ) (m : ℕ → ℕ → ℕ) (size k : ℕ) → ((a b : ℕ) → f (bit_xor a b) ≡ bit_xor (f a) (f b))
    → ((y x n : ℕ) → bit_xor (f (product_low y x n)) (m y (x / 2 ^ n % size)) ≡ product_low y x (n + k)) → (p q r s a b c d n : ℕ)
    → bit_xor (f (sum4 (product_low p a n) (product_low q b n) (product_low r c n) (product_low s d n)))
    (sum4 (m p (a / 2 ^ n % size)) (m q (b / 2 ^ n % size)) (m r (c / 2 ^ n % size)) (m s (d / 2 ^ n % size)))
    ≡ sum4 (product_low p a (n + k)) (product_low q b (n + k)) (product_low r c (n + k)) (product_low s d (n + k))
sums_step f m size k linear more p q r s a b c d n =
    let w = m p (a / 2 ^ n % size) in
    let x = m q (b / 2 ^ n % size) in
    let y = m r (c / 2 ^ n % size) in
    let z = m s (d / 2 ^ n % size) in
    let qb = bit_xor (f (product_low q b n)) x in
    let rc = bit_xor (f (product_low r c n)) y in
    let sd = bit_xor (f (product_low s d n)) z in
    steps4 f linear w x y z (product_low p a n) (product_low q b n) (product_low r c n) (product_low s d n)
    ∙ ap (λ v. sum4 v qb rc sd) (more p a n)
    ∙ ap (λ v. sum4 (product_low p a (n + k)) v rc sd) (more q b n)
    ∙ ap (λ v. sum4 (product_low p a (n + k)) (product_low q b (n + k)) v sd) (more r c n)
    ∙ ap (λ v. sum4 (product_low p a (n + k)) (product_low q b (n + k)) (product_low r c (n + k)) v) (more s d n)
