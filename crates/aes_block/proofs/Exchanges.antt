-- Bits that change places, byte by byte.
use Rattle.std.proofs.Common.{◌≡◌, ℕ, Bool, zero, suc, ◌+◌, ◌-◌, ◌*◌, ◌/◌, ◌%◌, ◌^◌, ◌<◌, ◌&&◌, ◌==◌, T, true, false, refl, ◌≤◌, cond, eqb, leb, List, [], ◌∷◌, length, get_or, min, bit_and, bit_xor, replicate, sym, ap, ◌∙◌, subst, arith, eqb→eq, lit<, w8, Fits}
use Rattle.std.specs.Int.{bit_at}
use Rattle.std.proofs.Math.Facts.{leb_yes}
use Rattle.std.proofs.Math.Nat.{min-zero}
use Rattle.std.proofs.lemmas.Nat.{and_le_r, mod_below, shr-shr, xor_lt}
use Rattle.std.proofs.lemmas.Nat.Bits.{bit_at_and, bit_at_xor, bit_at-lt}
use Rattle.std.proofs.lemmas.Simd.{get_or-zip2, length-zip2, get_or-replicate, length-replicate}
use lib.Ieee.Fits.{and_l, and_r}
use lib.Lanes.{Each1, zip2}
use Rattle.standards.proofs.Bytes.{all_below, every_below}
use Rattle.aes_block.specs.Transposition.{IsSwap, IsVector}

-- bit i of a byte that is shifted up by n
abbrev up_bit : ℕ → ℕ → ℕ → ℕ
up_bit n x i = cond (leb n i) (bit_at x (i - n)) 0

-- what is exchanged: the bits of a mask where x, shifted down by n, and y differ
abbrev exchanged : ℕ → ℕ → ℕ → ℕ → ℕ
exchanged n mask x y = bit_and (bit_xor (x / 2 ^ n) y) mask

-- what is computed of n and its mask: a shift moves bits, the mask has the numbers without n, and shifted those with it
abbrev pub moves : ℕ → Bool
moves n = all_below (λ x. all_below (λ i. eqb (bit_at (x * 2 ^ n % 256) i) (up_bit n x i)) 8) 256

abbrev pub masks : ℕ → ℕ → Bool
masks n mask = all_below (λ i. eqb (bit_at mask i) (1 - i / n % 2) && eqb (up_bit n mask i) (i / n % 2)) 8

shifted : (n : ℕ) → T (moves n) → (x i : ℕ) → x < 256 → i < 8 → bit_at (x * 2 ^ n % 256) i ≡ up_bit n x i
shifted n h x i l m =
    eqb→eq _ _ (every_below (λ i. eqb (bit_at (x * 2 ^ n % 256) i) (up_bit n x i)) 8 (every_below (λ x. all_below (λ i. eqb (bit_at (x * 2 ^ n % 256) i) (up_bit n x i)) 8) 256 h x l) i m)

exchanged_bit : (n mask x y m : ℕ) → bit_at (exchanged n mask x y) m ≡ min ((bit_at x (n + m) + bit_at y m) % 2) (bit_at mask m)
exchanged_bit n mask x y m =
    bit_at_and (bit_xor (x / 2 ^ n) y) mask m
    ∙ ap (λ z. min z (bit_at mask m)) (bit_at_xor (x / 2 ^ n) y m ∙ ap (λ z. (z % 2 + bit_at y m) % 2) (shr-shr x n m))

-- a bit of the first takes that of the second where it is marked, and a bit of the second that of the first where it is not
taken : (p q m : ℕ) → p < 2 → q < 2 → m < 2 → (p + min ((p + q) % 2) m) % 2 ≡ cond (m == 1) q p
taken p q zero a b c = omega arith
taken p q (suc zero) a b c = omega arith
taken p q (suc (suc m)) a b c = absurd (omega arith)

given : (p q m : ℕ) → p < 2 → q < 2 → m < 2 → (q + min ((p + q) % 2) (1 - m)) % 2 ≡ cond (m == 1) q p
given p q zero a b c = omega arith
given p q (suc zero) a b c = omega arith
given p q (suc (suc m)) a b c = absurd (omega arith)

-- what is exchanged, shifted up: the same bits of x and y, where the mask is
up_exchanged : (n mask x y i : ℕ) → up_bit n (exchanged n mask x y) i ≡ min ((bit_at x i + bit_at y (i - n)) % 2) (up_bit n mask i)
up_exchanged n mask x y i = go (leb n i) refl
  where
    go : (up : Bool) → leb n i ≡ up → cond up (bit_at (exchanged n mask x y) (i - n)) 0 ≡ min ((bit_at x i + bit_at y (i - n)) % 2) (cond up (bit_at mask (i - n)) 0)
    go false e = sym (min-zero ((bit_at x i + bit_at y (i - n)) % 2))
    go true e =
        let high : n ≤ i = leb_yes (subst T (sym e) tt) in
        let back : n + (i - n) ≡ i = omega (arith, high) in
        exchanged_bit n mask x y (i - n) ∙ ap (λ k. min ((bit_at x k + bit_at y (i - n)) % 2) (bit_at mask (i - n))) back

first_bit : (n mask x y i : ℕ) → T (moves n) → T (masks n mask) → mask < 256 → i < 8
    → bit_at (bit_xor x (exchanged n mask x y * 2 ^ n % 256)) i ≡ cond (i / n % 2 == 1) (bit_at y (i - n)) (bit_at x i)
first_bit n mask x y i shifts marks few m =
    let t = exchanged n mask x y in
    let low : t < 256 = omega (arith, few, and_le_r (bit_xor (x / 2 ^ n) y) mask) in
    let mark : up_bit n mask i ≡ i / n % 2 = eqb→eq _ _ (and_r (eqb (bit_at mask i) (1 - i / n % 2)) _ (every_below (λ i. eqb (bit_at mask i) (1 - i / n % 2) && eqb (up_bit n mask i) (i / n % 2)) 8 marks i m)) in
    bit_at_xor x (t * 2 ^ n % 256) i
    ∙ ap (λ z. (bit_at x i + z) % 2) (shifted n shifts t i low m ∙ up_exchanged n mask x y i ∙ ap (λ z. min ((bit_at x i + bit_at y (i - n)) % 2) z) mark)
    ∙ taken (bit_at x i) (bit_at y (i - n)) (i / n % 2) (bit_at-lt x i) (bit_at-lt y (i - n)) (omega arith)

second_bit : (n mask x y i : ℕ) → T (masks n mask) → i < 8 → bit_at (bit_xor y (exchanged n mask x y)) i ≡ cond (i / n % 2 == 1) (bit_at y i) (bit_at x (i + n))
second_bit n mask x y i marks m =
    let mark : bit_at mask i ≡ 1 - i / n % 2 = eqb→eq _ _ (and_l (eqb (bit_at mask i) (1 - i / n % 2)) _ (every_below (λ i. eqb (bit_at mask i) (1 - i / n % 2) && eqb (up_bit n mask i) (i / n % 2)) 8 marks i m)) in
    let e : n + i ≡ i + n = omega arith in
    bit_at_xor y (exchanged n mask x y) i
    ∙ ap (λ z. (bit_at y i + z) % 2) (exchanged_bit n mask x y i ∙ ap (λ k. min ((bit_at x k + bit_at y i) % 2) (bit_at mask i)) e ∙ ap (λ z. min ((bit_at x (i + n) + bit_at y i) % 2) z) mark)
    ∙ given (bit_at x (i + n)) (bit_at y i) (i / n % 2) (bit_at-lt x (i + n)) (bit_at-lt y i) (omega arith)

abbrev pub parts : ℕ → ℕ → List ℕ → List ℕ → List ℕ
parts n mask a b = zip2 bit_and (zip2 bit_xor (zip2 (λ x y. x / 2 ^ y) a (replicate 16 n)) b) (replicate 16 mask)

sixteen : (f : ℕ → ℕ → ℕ) (a b : List ℕ) → length a ≡ 16 → length b ≡ 16 → length (zip2 f a b) ≡ 16
sixteen f a b p q = length-zip2 f a b (p ∙ sym q) ∙ p

at_parts : (n mask : ℕ) (a b : List ℕ) → length a ≡ 16 → length b ≡ 16 → (k : ℕ) → k < 16 → get_or (parts n mask a b) k 0 ≡ exchanged n mask (get_or a k 0) (get_or b k 0)
at_parts n mask a b p q k l =
    let rn : length (replicate 16 n) ≡ 16 = length-replicate {A = ℕ} 16 n in
    let rm : length (replicate 16 mask) ≡ 16 = length-replicate {A = ℕ} 16 mask in
    let s1 : length (zip2 (λ x y. x / 2 ^ y) a (replicate 16 n)) ≡ 16 = sixteen (λ x y. x / 2 ^ y) a (replicate 16 n) p rn in
    let s2 : length (zip2 bit_xor (zip2 (λ x y. x / 2 ^ y) a (replicate 16 n)) b) ≡ 16 = sixteen bit_xor (zip2 (λ x y. x / 2 ^ y) a (replicate 16 n)) b s1 q in
    get_or-zip2 bit_and (zip2 bit_xor (zip2 (λ x y. x / 2 ^ y) a (replicate 16 n)) b) (replicate 16 mask) k 0 0 0 (omega (arith, s2)) (omega (arith, rm))
    ∙ ap (λ z. bit_and (get_or (zip2 bit_xor (zip2 (λ x y. x / 2 ^ y) a (replicate 16 n)) b) k 0) z) (get_or-replicate 16 k mask 0 l)
    ∙ ap (λ z. bit_and z mask) (get_or-zip2 bit_xor (zip2 (λ x y. x / 2 ^ y) a (replicate 16 n)) b k 0 0 0 (omega (arith, s1)) (omega (arith, q)))
    ∙ ap (λ z. bit_and (bit_xor z (get_or b k 0)) mask) (get_or-zip2 (λ x y. x / 2 ^ y) a (replicate 16 n) k 0 0 0 (omega (arith, p)) (omega (arith, rn)))
    ∙ ap (λ z. bit_and (bit_xor (get_or a k 0 / 2 ^ z) (get_or b k 0)) mask) (get_or-replicate 16 k n 0 l)

length-parts : (n mask : ℕ) (a b : List ℕ) → length a ≡ 16 → length b ≡ 16 → length (parts n mask a b) ≡ 16
length-parts n mask a b p q =
    let rn : length (replicate 16 n) ≡ 16 = length-replicate {A = ℕ} 16 n in
    let rm : length (replicate 16 mask) ≡ 16 = length-replicate {A = ℕ} 16 mask in
    let s1 : length (zip2 (λ x y. x / 2 ^ y) a (replicate 16 n)) ≡ 16 = sixteen (λ x y. x / 2 ^ y) a (replicate 16 n) p rn in
    let s2 : length (zip2 bit_xor (zip2 (λ x y. x / 2 ^ y) a (replicate 16 n)) b) ≡ 16 = sixteen bit_xor (zip2 (λ x y. x / 2 ^ y) a (replicate 16 n)) b s1 q in
    sixteen bit_and (zip2 bit_xor (zip2 (λ x y. x / 2 ^ y) a (replicate 16 n)) b) (replicate 16 mask) s2 rm

-- two vectors after an exchange
pub swap_is : (n mask : ℕ) (a b : List ℕ) → T (moves n) → T (masks n mask) → mask < 256 → IsVector a → IsVector b
    → IsSwap n a b (zip2 bit_xor a (zip2 (λ x y. x * 2 ^ y % 256) (parts n mask a b) (replicate 16 n))) (zip2 bit_xor b (parts n mask a b))
swap_is n mask a b shifts marks few va vb =
    let p = va.size in
    let q = vb.size in
    let rn : length (replicate 16 n) ≡ 16 = length-replicate {A = ℕ} 16 n in
    let lt : length (parts n mask a b) ≡ 16 = length-parts n mask a b p q in
    let sh : length (zip2 (λ x y. x * 2 ^ y % 256) (parts n mask a b) (replicate 16 n)) ≡ 16 = sixteen (λ x y. x * 2 ^ y % 256) (parts n mask a b) (replicate 16 n) lt rn in
    let at_first = λ (k : ℕ) (l : k < 16).
    get_or-zip2 bit_xor a (zip2 (λ x y. x * 2 ^ y % 256) (parts n mask a b) (replicate 16 n)) k 0 0 0 (omega (arith, p)) (omega (arith, sh))
    ∙ ap (λ z. bit_xor (get_or a k 0) z)
    (get_or-zip2 (λ x y. x * 2 ^ y % 256) (parts n mask a b) (replicate 16 n) k 0 0 0 (omega (arith, lt)) (omega (arith, rn))
    ∙ ap (λ z. get_or (parts n mask a b) k 0 * 2 ^ z % 256) (get_or-replicate 16 k n 0 l)
    ∙ ap (λ z. z * 2 ^ n % 256) (at_parts n mask a b p q k l)) in
    let at_second = λ (k : ℕ) (l : k < 16).
    get_or-zip2 bit_xor b (parts n mask a b) k 0 0 0 (omega (arith, q)) (omega (arith, lt))
    ∙ ap (λ z. bit_xor (get_or b k 0) z) (at_parts n mask a b p q k l) in
    record {
      from_first = va;
      from_second = vb;
      is_first = record {
        size = sixteen bit_xor a (zip2 (λ x y. x * 2 ^ y % 256) (parts n mask a b) (replicate 16 n)) p sh;
        below = λ k l. subst (λ z. z < 256) (sym (at_first k l)) (xor_lt 8 (get_or a k 0) (exchanged n mask (get_or a k 0) (get_or b k 0) * 2 ^ n % 256) (va.below k l) (mod_below (exchanged n mask (get_or a k 0) (get_or b k 0) * 2 ^ n) 256 (lit< tt)));
      };
      is_second = record {
        size = sixteen bit_xor b (parts n mask a b) q lt;
        below = λ k l. subst (λ z. z < 256) (sym (at_second k l)) (xor_lt 8 (get_or b k 0) (exchanged n mask (get_or a k 0) (get_or b k 0)) (vb.below k l) (omega (arith, few, and_le_r (bit_xor (get_or a k 0 / 2 ^ n) (get_or b k 0)) mask)));
      };
      first = λ k i l m. ap (λ z. bit_at z i) (at_first k l) ∙ first_bit n mask (get_or a k 0) (get_or b k 0) i shifts marks few m;
      second = λ k i l m. ap (λ z. bit_at z i) (at_second k l) ∙ second_bit n mask (get_or a k 0) (get_or b k 0) i marks m;
    }

-- bytes of a vector
pub byte_below : (v : List ℕ) → Each1 (Fits w8) v → (k : ℕ) → get_or v k 0 < 256
byte_below [] h k = lit< tt
byte_below (x ∷ xs) h zero = h.0.fits
byte_below (x ∷ xs) h (suc k) = byte_below xs h.1 k

pub vector : (v : List ℕ) → length v ≡ 16 → Each1 (Fits w8) v → IsVector v
vector v e h = record { size = e; below = λ k l. byte_below v h k }
