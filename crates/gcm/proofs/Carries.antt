-- The part of a product from x ^ 128 on, which is kept apart and reduced once.
use Rattle.std.proofs.Common.{◌≡◌, ℕ, zero, suc, ◌+◌, ◌-◌, ◌*◌, ◌/◌, ◌%◌, ◌^◌, ◌<◌, ◌≤◌, eqb, get_or, bit_xor, List, refl, sym, ap, ap₂, ◌∙◌, subst, arith, eqb→eq, lit<}
use Rattle.std.proofs.lemmas.Nat.{field_of, mod_low, pow-add, pow_pos, shr-shr, xor_comm, xor_lt, xor_mod}
use Rattle.std.proofs.Math.Pow.{mod-mod-pow}
use Rattle.std.proofs.Math.Nat.{mul_assoc}
use Rattle.std.specs.Int.Bits.{xor_assoc}
use lib.Bits.{xor_shifted}
use Rattle.standards.proofs.Bytes.{every_below}
use Rattle.standards.proofs.Products.{times_x_linear}
use Rattle.standards.proofs.Xor.{exchange}
use Rattle.standards.specs.Ghash.{product_low, times_x}
use Rattle.gcm.specs.Carries.{AreEightBytes, IsSummed, bytes_of, carried, entries, powers, rest, sums}
use Rattle.gcm.specs.Multiples.{eight, four, multiple8}
use Rattle.gcm.proofs.FourBits.{halved}
use Rattle.gcm.proofs.EightBits.{eight_bits, eight_high, eight_linear}
use Rattle.gcm.proofs.Ring.{rest_linear, sums_step}

-- a part without its lowest bits is shifted by them
shifted_down : (n a : ℕ) → powers n (a * 2 ^ n) ≡ a
unfolding powers
shifted_down zero a = let e : a * 1 ≡ a = omega arith in e
shifted_down (suc n) a =
    let s : suc n ≡ 1 + n = omega arith in
    let e : a * 2 ^ suc n ≡ a * 2 * 2 ^ n = ap (λ k. a * 2 ^ k) s ∙ ap (λ v. a * v) (pow-add 2 1 n) ∙ sym (mul_assoc a 2 (2 ^ n)) in
    ap times_x (ap (powers n) e ∙ shifted_down n (a * 2)) ∙ halved a

pub reduced_is : (low : ℕ) → low % 256 ≡ 0 → bit_xor (bit_xor (bit_xor (low / 128) (low / 4)) (low / 2)) low ≡ rest low
reduced_is low e =
    let m = low / 256 in
    let seven : low ≡ m * 2 * 2 ^ 7 = omega (arith, e) in
    let two : low ≡ m * 64 * 2 ^ 2 = omega (arith, e) in
    let one : low ≡ m * 128 * 2 ^ 1 = omega (arith, e) in
    let a : low / 128 ≡ powers 7 low = omega (arith, e, sym (ap (powers 7) seven ∙ shifted_down 7 (m * 2))) in
    let b : low / 4 ≡ powers 2 low = omega (arith, e, sym (ap (powers 2) two ∙ shifted_down 2 (m * 64))) in
    let c : low / 2 ≡ powers 1 low = omega (arith, e, sym (ap (powers 1) one ∙ shifted_down 1 (m * 128))) in
    ap (λ v. bit_xor (bit_xor (bit_xor v (low / 4)) (low / 2)) low) a
    ∙ ap (λ v. bit_xor (bit_xor (bit_xor (powers 7 low) v) (low / 2)) low) b
    ∙ ap (λ v. bit_xor (bit_xor (bit_xor (powers 7 low) (powers 2 low)) v) low) c

-- the product with x goes before and after
turned : (z : ℕ) → times_x (rest z) ≡ rest (times_x z)
unfolding powers
turned z =
    times_x_linear (bit_xor (bit_xor (powers 7 z) (powers 2 z)) (powers 1 z)) z
    ∙ ap (λ v. bit_xor v (times_x z)) (times_x_linear (bit_xor (powers 7 z) (powers 2 z)) (powers 1 z) ∙ ap (λ v. bit_xor v (times_x (powers 1 z))) (times_x_linear (powers 7 z) (powers 2 z)))

turned_four : (z : ℕ) → four (rest z) ≡ rest (four z)
turned_four z =
    ap (λ v. times_x (times_x (times_x v))) (turned z)
    ∙ ap (λ v. times_x (times_x v)) (turned (times_x z))
    ∙ ap times_x (turned (times_x (times_x z)))
    ∙ turned (times_x (times_x (times_x z)))

low_byte_is : (r : ℕ) → r < 256 → eight r ≡ rest (r * 2 ^ 120)
unfolding powers times_x
low_byte_is r h = eqb→eq _ _ (every_below (λ r. eqb (eight r) (rest (r * 2 ^ 120))) 256 tt r h)

-- the high part, shifted by a byte
high_shifted : (high : ℕ) → eight high ≡ bit_xor (high / 256) (rest (high * 2 ^ 120 % 2 ^ 128))
high_shifted high =
    let r = high % 256 in
    let low : r < 256 = omega arith in
    let whole : high / 256 * 256 + r ≡ high = omega arith in
    let up : r * 2 ^ 120 ≡ high * 2 ^ 120 % 2 ^ 128 = omega arith in
    ap eight (sym (xor_shifted (high / 256) 8 r low ∙ whole))
    ∙ eight_linear (high / 256 * 256) r
    ∙ ap₂ bit_xor (eight_high (high / 256)) (low_byte_is r low ∙ ap rest up)

-- the low part, shifted by a byte
low_shifted : (low : ℕ) → low % 256 ≡ 0 → eight (rest low) ≡ rest (low / 256)
low_shifted low e =
    let whole : low ≡ low / 256 * 256 = omega (arith, e) in
    ap four (turned_four low) ∙ turned_four (four low) ∙ ap rest (ap eight whole ∙ eight_high (low / 256))

-- both parts shifted by a byte, and a summand
pub carry_step : (high low e : ℕ) → low % 256 ≡ 0 → bit_xor (bit_xor (high / 256) e) (rest (carried high low)) ≡ bit_xor (eight (bit_xor high (rest low))) e
carry_step high low e h =
    let a = high / 256 in
    let l = rest (low / 256) in
    let u = rest (high * 2 ^ 120 % 2 ^ 128) in
    ap (bit_xor (bit_xor a e)) (rest_linear (low / 256) (high * 2 ^ 120 % 2 ^ 128) ∙ xor_comm l u)
    ∙ exchange a e u l
    ∙ ap (bit_xor (bit_xor a u)) (xor_comm e l)
    ∙ sym (xor_assoc (bit_xor a u) l e)
    ∙ ap (λ v. bit_xor v e) (ap₂ bit_xor (sym (high_shifted high)) (sym (low_shifted low h)) ∙ sym (eight_linear high (rest low)))

-- the lowest byte, above all others
pub raised_room : (high k : ℕ) → k ≤ 120 → high * 2 ^ 120 % 2 ^ 128 % 2 ^ k ≡ 0
raised_room high k h =
    let all : 128 ≡ 128 - k + k = omega (arith, h) in
    let most : 120 ≡ 120 - k + k = omega (arith, h) in
    let plus : (n : ℕ) → n ≡ n + 0 = λ n. omega arith in
    ap (λ n. high * 2 ^ 120 % 2 ^ n % 2 ^ k) all ∙ mod-mod-pow (high * 2 ^ 120) (128 - k) k
    ∙ ap (λ v. high * v % 2 ^ k) (ap (λ n. 2 ^ n) most ∙ pow-add 2 (120 - k) k)
    ∙ ap (λ v. v % 2 ^ k) (sym (mul_assoc high (2 ^ (120 - k)) (2 ^ k)) ∙ plus (high * 2 ^ (120 - k) * 2 ^ k))
    ∙ mod_low (high * 2 ^ (120 - k)) k 0 (pow_pos k)

-- how many of the lowest bits of the low part are 0
carried_room : (high low k : ℕ) → k ≤ 120 → low % 2 ^ (k + 8) ≡ 0 → carried high low % 2 ^ k ≡ 0
carried_room high low k h e =
    let a : low / 256 % 2 ^ k ≡ 0 = sym (field_of low k 8) ∙ ap (λ v. v / 256) e in
    xor_mod (low / 256) (high * 2 ^ 120 % 2 ^ 128) k ∙ ap₂ bit_xor a (raised_room high k h)

pub lowest_eight : (low k : ℕ) → low % 2 ^ (k + 8) ≡ 0 → low % 256 ≡ 0
lowest_eight low k e = sym (mod-mod-pow low k 8) ∙ ap (λ v. v % 256) e

pub entries_step : (p q r s a b c d n : ℕ) → bit_xor (eight (sums p q r s a b c d n)) (entries p q r s a b c d n) ≡ sums p q r s a b c d (n + 8)
entries_step p q r s a b c d n =
    let w = bit_xor (multiple8 p (a / 2 ^ n % 256)) (multiple8 q (b / 2 ^ n % 256)) in
    ap (bit_xor (eight (sums p q r s a b c d n))) (sym (xor_assoc w (multiple8 r (c / 2 ^ n % 256)) (multiple8 s (d / 2 ^ n % 256))))
    ∙ sums_step eight multiple8 256 8 eight_linear eight_bits p q r s a b c d n

rest_zero : rest 0 ≡ 0
unfolding powers times_x
rest_zero = refl

none_yet : (p q r s a b c d : ℕ) → sums p q r s a b c d 0 ≡ 0
unfolding product_low times_x
none_yet p q r s a b c d = refl

-- before the first byte
pub none_summed : (p q r s a b c d : ℕ) (high low : List ℕ) → high ≡ bytes_of 0 → low ≡ bytes_of 0 → IsSummed p q r s a b c d 0 high low
none_summed p q r s a b c d high low high_is low_is = record {
  h = 0;
  l = 0;
  high_is = high_is;
  low_is = low_is;
  high_fits = lit< tt;
  low_fits = lit< tt;
  begins = λ e. refl;
  room = refl;
  both = ap (bit_xor 0) rest_zero ∙ sym (none_yet p q r s a b c d);
}

-- the same number of bytes
pub of_same : {p q r s a b c d i j : ℕ} {high low : List ℕ} → i ≡ j → IsSummed p q r s a b c d i high low → IsSummed p q r s a b c d j high low
of_same {p} {q} {r} {s} {a} {b} {c} {d} {i} {j} {high} {low} e held = subst (λ n. IsSummed p q r s a b c d n high low) e held

-- bytes k on of eight bytes from byte i on
rest_at : (x a i k : ℕ) → x ≡ a / 2 ^ (8 * i) % 2 ^ 64 → k < 8 → x / 2 ^ (8 * k) / 1 % 256 ≡ a / 2 ^ (8 * (i + k)) % 256
rest_at x a i k e below =
    let w = a / 2 ^ (8 * i) in
    let all : 64 ≡ 64 - 8 * k + 8 * k = omega (arith, below) in
    let more : 64 - 8 * k ≡ 56 - 8 * k + 8 = omega (arith, below) in
    let once : x / 2 ^ (8 * k) / 1 % 256 ≡ x / 2 ^ (8 * k) % 256 = omega arith in
    let both : 8 * i + 8 * k ≡ 8 * (i + k) = omega arith in
    once
    ∙ ap (λ v. v / 2 ^ (8 * k) % 256) (e ∙ ap (λ n. w % 2 ^ n) all)
    ∙ ap (λ v. v % 256) (field_of w (64 - 8 * k) (8 * k) ∙ ap (λ n. w / 2 ^ (8 * k) % 2 ^ n) more)
    ∙ mod-mod-pow (w / 2 ^ (8 * k)) (56 - 8 * k) 8
    ∙ ap (λ v. v % 256) (shr-shr a (8 * i) (8 * k) ∙ ap (λ n. a / 2 ^ n) both)

pub entries_at : (p q r s a b c d i k : ℕ) (x : List ℕ) → AreEightBytes a b c d i x → k < 8
    → entries p q r s (get_or x 0 0 / 2 ^ (8 * k)) (get_or x 1 0 / 2 ^ (8 * k)) (get_or x 2 0 / 2 ^ (8 * k)) (get_or x 3 0 / 2 ^ (8 * k)) 0
    ≡ entries p q r s a b c d (8 * (i + k))
entries_at p q r s a b c d i k x are below =
    let at : (n m : ℕ) → n ≡ m / 2 ^ (8 * i) % 2 ^ 64 → n / 2 ^ (8 * k) / 1 % 256 ≡ m / 2 ^ (8 * (i + k)) % 256 = λ n m e. rest_at n m i k e below in
    ap₂ bit_xor
    (ap₂ bit_xor (ap (multiple8 p) (at (get_or x 0 0) a are.of_a)) (ap (multiple8 q) (at (get_or x 1 0) b are.of_b)))
    (ap₂ bit_xor (ap (multiple8 r) (at (get_or x 2 0) c are.of_c)) (ap (multiple8 s) (at (get_or x 3 0) d are.of_d)))

-- the room that is left in the low part
room_next : (i h l : ℕ) → i < 16 → (i ≡ 0 → h ≡ 0) → l < 2 ^ 128 → l % 2 ^ (136 - 8 * i) ≡ 0 → carried h l % 2 ^ (136 - 8 * (i + 1)) ≡ 0
room_next zero h l below begins fits room =
    let none : l ≡ 0 = omega (arith, fits, room) in
    ap₂ (λ v w. carried v w % 2 ^ 128) (begins refl) none
room_next (suc j) h l below begins fits room =
    let i = suc j in
    let k = 128 - 8 * i in
    let e : 136 - 8 * i ≡ k + 8 = omega (arith, below) in
    let f : k ≡ 136 - 8 * (i + 1) = omega (arith, below) in
    let most : k ≤ 120 = omega arith in
    ap (λ n. carried h l % 2 ^ n) (sym f) ∙ carried_room h l k most (ap (λ n. l % 2 ^ n) (sym e) ∙ room)

-- a byte more
pub summed_next : (p q r s a b c d i : ℕ) (high low high2 low2 : List ℕ) (e : ℕ) (held : IsSummed p q r s a b c d i high low) → i < 16
    → e ≡ entries p q r s a b c d (8 * i) → e < 2 ^ 128 → high2 ≡ bytes_of (bit_xor (held.h / 256) e) → low2 ≡ bytes_of (carried held.h held.l)
    → IsSummed p q r s a b c d (i + 1) high2 low2
summed_next p q r s a b c d i high low high2 low2 e held below e_is e_fits high_is low_is =
    let h = held.h in
    let l = held.l in
    let k = 128 - 8 * i in
    let down : (n : ℕ) → n < 2 ^ 128 → n / 256 < 2 ^ 128 = λ n f. omega (arith, f) in
    let up : h * 2 ^ 120 % 2 ^ 128 < 2 ^ 128 = omega arith in
    let room : l % 2 ^ (k + 8) ≡ 0 = ap (λ n. l % 2 ^ n) (omega (arith, below)) ∙ held.room in
    let more : 8 * i + 8 ≡ 8 * (i + 1) = omega arith in
    record {
      h = bit_xor (h / 256) e;
      l = carried h l;
      high_is = high_is;
      low_is = low_is;
      high_fits = xor_lt 128 (h / 256) e (down h held.high_fits) e_fits;
      low_fits = xor_lt 128 (l / 256) (h * 2 ^ 120 % 2 ^ 128) (down l held.low_fits) up;
      begins = λ n. absurd (omega (arith, n));
      room = room_next i h l below held.begins held.low_fits held.room;
      both =
          carry_step h l e (lowest_eight l k room)
          ∙ ap₂ (λ v w. bit_xor (eight v) w) held.both e_is
          ∙ entries_step p q r s a b c d (8 * i)
          ∙ ap (sums p q r s a b c d) more;
    }
