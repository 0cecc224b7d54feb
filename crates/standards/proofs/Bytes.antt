-- Facts of all bytes, each computed at 0 to 255.
use Rattle.std.proofs.Common.{◌≡◌, ℕ, zero, suc, ◌+◌, ◌-◌, ◌<◌, Bool, true, ◌&&◌, T, eqb, ltb, List, get_or, subst, inl, inr, arith, eq-zero-or-pos, eqb→eq, ltb→lt}
use lib.Ieee.Fits.{and_l, and_r}
use Rattle.standards.specs.Aes.{affine_bit, affine_bits, inverse, power, sub_byte, times, times_terms}
use Rattle.standards.specs.AesInverse.{inv_affine_bit, inv_affine_bits, inv_sub_byte}

-- the test passes at each number below n
abbrev pub all_below : (ℕ → Bool) → ℕ → Bool
all_below p zero = true
all_below p (suc n) = p n && all_below p n

-- what passes at each number below n passes at i
pub every_below : (p : ℕ → Bool) (n : ℕ) → T (all_below p n) → (i : ℕ) → i < n → T (p i)
every_below p zero h i l = absurd (omega arith)
every_below p (suc n) h i l =
    elim (eq-zero-or-pos (n - i)) [
      | inl z ↦ let e : n ≡ i = omega arith in subst (λ x. T (p x)) e (and_l _ _ h)
      | inr g ↦ every_below p n (and_r (p n) _ h) i (omega arith)
    ]

-- two functions that agree where it is computed, at each byte, agree at each byte
pub agree : (f g : ℕ → ℕ) → T (all_below (λ x. eqb (f x) (g x)) 256) → (x : ℕ) → x < 256 → f x ≡ g x
agree f g h x l = eqb→eq _ _ (every_below (λ x. eqb (f x) (g x)) 256 h x l)

-- the table has f at each of its first 256 places
abbrev pub is_table_of : (ℕ → ℕ) → List ℕ → Bool
is_table_of f table = all_below (λ x. eqb (get_or table x 0) (f x)) 256

-- so a table that passes the test, as a crate computes it for its own with `tt`, has f of each byte
pub table_entry : (f : ℕ → ℕ) (table : List ℕ) → T (is_table_of f table) → (x : ℕ) → x < 256 → get_or table x 0 ≡ f x
table_entry f table = agree (λ x. get_or table x 0) f

-- SubBytes gives a byte
pub sub_byte_below : (x : ℕ) → x < 256 → sub_byte x < 256
unfolding sub_byte affine_bits affine_bit inverse power times times_terms
sub_byte_below x h = ltb→lt _ _ (every_below (λ x. ltb (sub_byte x) 256) 256 tt x h)

-- so does its inverse
pub inv_sub_byte_below : (x : ℕ) → x < 256 → inv_sub_byte x < 256
unfolding inv_sub_byte inv_affine_bits inv_affine_bit inverse power times times_terms
inv_sub_byte_below x h = ltb→lt _ _ (every_below (λ x. ltb (inv_sub_byte x) 256) 256 tt x h)

-- the power 254 is the multiplicative inverse
pub inverse_is : (x : ℕ) → x < 255 → times (x + 1) (inverse (x + 1)) ≡ 1
unfolding inverse power times times_terms
inverse_is x l = eqb→eq _ _ (every_below (λ x. eqb (times (x + 1) (inverse (x + 1))) 1) 255 tt x l)

-- InvSubBytes undoes SubBytes
pub inv_sub_byte-sub_byte : (x : ℕ) → x < 256 → inv_sub_byte (sub_byte x) ≡ x
unfolding inv_sub_byte inv_affine_bits inv_affine_bit sub_byte affine_bits affine_bit inverse power times times_terms
inv_sub_byte-sub_byte = agree (λ x. inv_sub_byte (sub_byte x)) (λ x. x) tt

-- SubBytes undoes InvSubBytes
pub sub_byte-inv_sub_byte : (x : ℕ) → x < 256 → sub_byte (inv_sub_byte x) ≡ x
unfolding inv_sub_byte inv_affine_bits inv_affine_bit sub_byte affine_bits affine_bit inverse power times times_terms
sub_byte-inv_sub_byte = agree (λ x. sub_byte (inv_sub_byte x)) (λ x. x) tt
