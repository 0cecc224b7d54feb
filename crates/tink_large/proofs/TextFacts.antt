-- The text piece by piece.
use Rattle.std.proofs.Common.{◌≡◌, ◌+◌, ℕ, zero, suc, [], ◌∷◌, ◌++◌, length, map, refl, sym, ap, ◌∙◌, arith, add-zero, zero-add}
use Rattle.std.specs.List.{range_with_len}
use Rattle.std.proofs.lemmas.List.FromFn.{length-map-range_with_len, map-range_with_len_more}
use Rattle.tink_large.specs.Large.{byte_at, text_from}

-- no bytes
pub text_from_none : (n at : ℕ) → text_from n at 0 ≡ []
unfolding text_from
text_from_none n at = refl

pub length-text_from : (n at count : ℕ) → length (text_from n at count) ≡ count
unfolding text_from
length-text_from n at count = length-map-range_with_len (byte_at n) at count

-- one byte more
pub text_from_more : (n at i place : ℕ) → at + i ≡ place → text_from n at (i + 1) ≡ text_from n at i ++ byte_at n place ∷ []
unfolding text_from
text_from_more n at i place e = map-range_with_len_more (byte_at n) at i place e

bytes_apart : (f : ℕ → ℕ) (at p q : ℕ) → map f (range_with_len at (p + q)) ≡ map f (range_with_len at p) ++ map f (range_with_len (at + p) q)
bytes_apart f at zero q = ap (λ (k : ℕ). map f (range_with_len at k)) (zero-add q) ∙ ap (λ (k : ℕ). map f (range_with_len k q)) (sym (add-zero at))
bytes_apart f at (suc p) q =
    let count : suc p + q ≡ suc (p + q) = omega arith in
    let place : (at + 1) + p ≡ at + suc p = omega arith in
    ap (λ (k : ℕ). map f (range_with_len at k)) count
    ∙ ap (λ xs. f at ∷ xs) (bytes_apart f (at + 1) p q ∙ ap (λ (k : ℕ). map f (range_with_len (at + 1) p) ++ map f (range_with_len k q)) place)

-- a piece, and what is behind it
pub text_from_apart : (n at p q all : ℕ) → all ≡ p + q → text_from n at all ≡ text_from n at p ++ text_from n (at + p) q
unfolding text_from
text_from_apart n at p q all e = ap (λ (k : ℕ). map (byte_at n) (range_with_len at k)) e ∙ bytes_apart (byte_at n) at p q
