-- Numbers as bytes, at every width: the two ways round, for both orders.
use Rattle.std.proofs.Common.{◌≡◌, ◌≤◌, ◌<◌, ◌+◌, ◌-◌, ◌*◌, ◌/◌, ◌%◌, ◌^◌, ℕ, zero, suc, List, [], ◌∷◌, ◌++◌, length, get_or, refl, ap, ap₂, sym, ◌∙◌, arith, eq-zero-or-pos, inl, inr}
use Rattle.std.specs.Prelude.{reverse, slice_index}
use Rattle.std.proofs.lemmas.List.{get_or-reverse, get_or_past, length-reverse, reverse-append, reverse-reverse}
use Rattle.std.proofs.Math.Nat.{div-div-eq-div-mul, mul_assoc, mul_comm, pow-succ'}
use Rattle.std.specs.Int.{Width, w8, w16, w32, w64, w128, byte_at, byte_len, byte_worth, bytes_high_first, bytes_low_first, from_be_bytes, from_le_bytes, sum_through, to_be_bytes, to_le_bytes}
use Rattle.standards.specs.Lists.{AreBytes}
use Rattle.standards.proofs.AreBytes.{AreBytes-cons, AreBytes-nil}

-- the number of bytes, the lowest first
unfoldable low_first : List ℕ → ℕ
low_first [] = 0
low_first (x ∷ xs) = x + 256 * low_first xs

worth_more : (k b : ℕ) → byte_worth (suc (suc k)) b ≡ 256 * byte_worth (suc k) b
worth_more k b = ap (λ p. b * p) (pow-succ' 256 (suc k)) ∙ sym (mul_assoc b 256 (256 ^ suc k)) ∙ ap (λ c. c * 256 ^ suc k) (mul_comm b 256) ∙ mul_assoc 256 b (256 ^ suc k)

sum_more : (x : ℕ) (xs : List ℕ) (k : ℕ) → sum_through (λ i. byte_worth i (get_or (x ∷ xs) i 0)) (suc k) ≡ x + 256 * sum_through (λ i. byte_worth i (get_or xs i 0)) k
sum_more x xs zero = omega arith
sum_more x xs (suc k) = omega (arith, sum_more x xs k, worth_more k (get_or xs (suc k) 0))

sum_is_low : (xs : List ℕ) (k : ℕ) → length xs ≡ suc k → sum_through (λ i. byte_worth i (get_or xs i 0)) k ≡ low_first xs
unfolding low_first
sum_is_low [] k e = absurd (omega arith)
sum_is_low (x ∷ []) zero e = omega arith
sum_is_low (x ∷ []) (suc k) e = absurd (omega arith)
sum_is_low (x ∷ y ∷ ys) zero e = absurd (omega arith)
sum_is_low (x ∷ y ∷ ys) (suc k) e = sum_more x (y ∷ ys) k ∙ ap (λ v. x + 256 * v) (sum_is_low (y ∷ ys) k (omega arith))

byte_on : (i n : ℕ) → byte_at (suc i) n ≡ byte_at i (n / 256)
byte_on zero n = refl
byte_on (suc i) n = ap (λ p. n / p % 256) (pow-succ' 256 (suc i)) ∙ ap (λ v. v % 256) (sym (div-div-eq-div-mul n 256 (256 ^ suc i)))

bytes_on : (i m n : ℕ) → bytes_low_first (suc i) m n ≡ bytes_low_first i m (n / 256)
bytes_on i zero n = refl
bytes_on i (suc m) n = ap₂ (λ b bs. b ∷ bs) (byte_on i n) (bytes_on (suc i) m n)

low_of_bytes : (m n : ℕ) → n < 256 ^ m → low_first (bytes_low_first 0 m n) ≡ n
unfolding low_first
low_of_bytes zero n h = omega arith
low_of_bytes (suc m) n h =
    let p = pow-succ' 256 m in
    let rest = ap low_first (bytes_on 0 m n) ∙ low_of_bytes m (n / 256) (omega (arith, p)) in
    omega (arith, rest)

bytes_of_low : (xs : List ℕ) → AreBytes xs → bytes_low_first 0 (length xs) (low_first xs) ≡ xs
unfolding low_first
bytes_of_low [] h = refl
bytes_of_low (x ∷ xs) h =
    let v = low_first xs in
    let byte = h 0 in
    let first : (x + 256 * v) % 256 ≡ x = omega (arith, byte) in
    let rest : (x + 256 * v) / 256 ≡ v = omega (arith, byte) in
    ap₂ (λ b bs. b ∷ bs) first (bytes_on 0 (length xs) (x + 256 * v) ∙ ap (bytes_low_first 0 (length xs)) rest ∙ bytes_of_low xs (λ i. h (suc i)))

low_below : (xs : List ℕ) → AreBytes xs → low_first xs < 256 ^ length xs
unfolding low_first
low_below [] h = omega arith
low_below (x ∷ xs) h = omega (arith, h 0, low_below xs (λ i. h (suc i)), pow-succ' 256 (length xs))

length-low : (i m n : ℕ) → length (bytes_low_first i m n) ≡ m
length-low i zero n = refl
length-low i (suc m) n = ap suc (length-low (suc i) m n)

byte_below : (i n : ℕ) → byte_at i n < 256
byte_below zero n = omega arith
byte_below (suc i) n = omega arith

low_are_bytes : (i m n : ℕ) → AreBytes (bytes_low_first i m n)
low_are_bytes i zero n = AreBytes-nil
low_are_bytes i (suc m) n = AreBytes-cons (byte_at i n) (bytes_low_first (suc i) m n) (byte_below i n) (low_are_bytes (suc i) m n)

high_are_bytes : (m n : ℕ) → AreBytes (bytes_high_first m n)
high_are_bytes zero n = AreBytes-nil
high_are_bytes (suc m) n = AreBytes-cons (byte_at m n) (bytes_high_first m n) (byte_below m n) (high_are_bytes m n)

-- ---- the highest first: the same bytes the other way round
bytes_push : (i m n : ℕ) → bytes_low_first i (suc m) n ≡ bytes_low_first i m n ++ byte_at (i + m) n ∷ []
bytes_push i zero n = let e : i ≡ i + 0 = omega arith in ap (λ j. byte_at j n ∷ []) e
bytes_push i (suc m) n = let e : suc i + m ≡ i + suc m = omega arith in ap (λ bs. byte_at i n ∷ bs) (bytes_push (suc i) m n ∙ ap (λ j. bytes_low_first (suc i) m n ++ byte_at j n ∷ []) e)

high_is_reversed : (m n : ℕ) → bytes_high_first m n ≡ reverse (bytes_low_first 0 m n)
high_is_reversed zero n = refl
high_is_reversed (suc m) n =
    let e : m ≡ 0 + m = omega arith in
    sym (ap reverse (bytes_push 0 m n) ∙ reverse-append (bytes_low_first 0 m n) (byte_at (0 + m) n ∷ []) ∙ ap₂ (λ j bs. byte_at j n ∷ bs) (sym e) (sym (high_is_reversed m n)))

sum_front : (f : ℕ → ℕ) (k : ℕ) → sum_through f (suc k) ≡ f 0 + sum_through (λ i. f (suc i)) k
sum_front f zero = refl
sum_front f (suc k) = omega (arith, sum_front f k)

sum_same : (f g : ℕ → ℕ) (k : ℕ) → ((i : ℕ) → i ≤ k → f i ≡ g i) → sum_through f k ≡ sum_through g k
sum_same f g zero h = h 0 (omega arith)
sum_same f g (suc k) h = ap₂ (λ a b. a + b) (sum_same f g k (λ i l. h i (omega arith))) (h (suc k) (omega arith))

sum_reversed : (f : ℕ → ℕ) (k : ℕ) → sum_through (λ i. f (k - i)) k ≡ sum_through f k
sum_reversed f zero = refl
sum_reversed f (suc k) =
    let none : suc k - suc k ≡ 0 = omega arith in
    let front = sum_same (λ i. f (suc k - i)) (λ i. f (suc (k - i))) k (λ i l. let e : suc k - i ≡ suc (k - i) = omega arith in ap f e) ∙ sum_reversed (λ i. f (suc i)) k in
    let last = ap f none in
    omega (arith, front, last, sum_front f k)

sum_is_high : (bs : List ℕ) (k : ℕ) → length bs ≡ suc k → sum_through (λ i. byte_worth (k - i) (get_or bs i 0)) k ≡ low_first (reverse bs)
sum_is_high bs k e =
    sum_same (λ i. byte_worth (k - i) (get_or bs i 0)) (λ i. byte_worth (k - i) (get_or (reverse bs) (k - i) 0)) k
    (λ i l. let at : length bs - 1 - (k - i) ≡ i = omega arith in ap (byte_worth (k - i)) (sym (get_or-reverse bs (k - i) 0 (omega arith) ∙ ap (λ j. get_or bs j 0) at)))
    ∙ sum_reversed (λ i. byte_worth i (get_or (reverse bs) i 0)) k
    ∙ sum_is_low (reverse bs) k (length-reverse bs ∙ e)

-- ---- at every width
le_back : (k n : ℕ) → n < 256 ^ suc k → sum_through (λ i. byte_worth i (slice_index (bytes_low_first 0 (suc k) n) i)) k ≡ n
le_back k n h = sum_is_low (bytes_low_first 0 (suc k) n) k (length-low 0 (suc k) n) ∙ low_of_bytes (suc k) n h

be_back : (k n : ℕ) → n < 256 ^ suc k → sum_through (λ i. byte_worth (k - i) (slice_index (bytes_high_first (suc k) n) i)) k ≡ n
be_back k n h =
    let low = bytes_low_first 0 (suc k) n in
    let high = bytes_high_first (suc k) n in
    sum_is_high high k (ap length (high_is_reversed (suc k) n) ∙ length-reverse low ∙ length-low 0 (suc k) n)
    ∙ ap low_first (ap reverse (high_is_reversed (suc k) n) ∙ reverse-reverse low)
    ∙ low_of_bytes (suc k) n h

le_forth : (k : ℕ) (bs : List ℕ) → length bs ≡ suc k → AreBytes bs → bytes_low_first 0 (suc k) (sum_through (λ i. byte_worth i (slice_index bs i)) k) ≡ bs
le_forth k bs e h = ap (bytes_low_first 0 (suc k)) (sum_is_low bs k e) ∙ ap (λ m. bytes_low_first 0 m (low_first bs)) (sym e) ∙ bytes_of_low bs h

AreBytes-reverse : (bs : List ℕ) → AreBytes bs → AreBytes (reverse bs)
AreBytes-reverse bs h i = elim (eq-zero-or-pos (length bs - i)) [
  | inr some ↦ let within : i < length bs = omega arith in rw (get_or-reverse bs i 0 within) (h (length bs - 1 - i))
  | inl none ↦ let past : length (reverse bs) ≤ i = omega (arith, length-reverse bs) in rw (get_or_past (reverse bs) i 0 past) (omega arith)
]

be_forth : (k : ℕ) (bs : List ℕ) → length bs ≡ suc k → AreBytes bs → bytes_high_first (suc k) (sum_through (λ i. byte_worth (k - i) (slice_index bs i)) k) ≡ bs
be_forth k bs e h =
    let back = reverse bs in
    ap (bytes_high_first (suc k)) (sum_is_high bs k e)
    ∙ high_is_reversed (suc k) (low_first back)
    ∙ ap (λ m. reverse (bytes_low_first 0 m (low_first back))) (sym (length-reverse bs ∙ e))
    ∙ ap reverse (bytes_of_low back (AreBytes-reverse bs h))
    ∙ reverse-reverse bs

le_below : (k : ℕ) (bs : List ℕ) → length bs ≡ suc k → AreBytes bs → sum_through (λ i. byte_worth i (slice_index bs i)) k < 256 ^ suc k
le_below k bs e h = rw (sum_is_low bs k e, ← e) (low_below bs h)

be_below : (k : ℕ) (bs : List ℕ) → length bs ≡ suc k → AreBytes bs → sum_through (λ i. byte_worth (k - i) (slice_index bs i)) k < 256 ^ suc k
be_below k bs e h = rw (sum_is_high bs k e, ← (length-reverse bs ∙ e)) (low_below (reverse bs) (AreBytes-reverse bs h))

-- a number has as many bytes as its width, low byte first
pub length-to_le_bytes : (w : Width) (n : ℕ) → length (to_le_bytes w n) ≡ byte_len w
length-to_le_bytes w n = length-low 0 (byte_len w) n

-- and high byte first
pub length-to_be_bytes : (w : Width) (n : ℕ) → length (to_be_bytes w n) ≡ byte_len w
length-to_be_bytes w n = ap length (high_is_reversed (byte_len w) n) ∙ length-reverse (bytes_low_first 0 (byte_len w) n) ∙ length-low 0 (byte_len w) n

-- the bytes of a number are bytes
pub AreBytes-to_le_bytes : (w : Width) (n : ℕ) → AreBytes (to_le_bytes w n)
AreBytes-to_le_bytes w n = low_are_bytes 0 (byte_len w) n

-- in either order
pub AreBytes-to_be_bytes : (w : Width) (n : ℕ) → AreBytes (to_be_bytes w n)
AreBytes-to_be_bytes w n = high_are_bytes (byte_len w) n

-- a number that fits is read back from its bytes, low byte first
pub from_le_bytes-to_le_bytes : (w : Width) (n : ℕ) → n < 2 ^ (8 * byte_len w) → from_le_bytes w (to_le_bytes w n) ≡ n
from_le_bytes-to_le_bytes w8 n h = le_back 0 n h
from_le_bytes-to_le_bytes w16 n h = le_back 1 n h
from_le_bytes-to_le_bytes w32 n h = le_back 3 n h
from_le_bytes-to_le_bytes w64 n h = le_back 7 n h
from_le_bytes-to_le_bytes w128 n h = le_back 15 n h

-- and high byte first
pub from_be_bytes-to_be_bytes : (w : Width) (n : ℕ) → n < 2 ^ (8 * byte_len w) → from_be_bytes w (to_be_bytes w n) ≡ n
from_be_bytes-to_be_bytes w8 n h = be_back 0 n h
from_be_bytes-to_be_bytes w16 n h = be_back 1 n h
from_be_bytes-to_be_bytes w32 n h = be_back 3 n h
from_be_bytes-to_be_bytes w64 n h = be_back 7 n h
from_be_bytes-to_be_bytes w128 n h = be_back 15 n h

-- bytes are had back from their number, low byte first
pub to_le_bytes-from_le_bytes : (w : Width) (bs : List ℕ) → length bs ≡ byte_len w → AreBytes bs → to_le_bytes w (from_le_bytes w bs) ≡ bs
to_le_bytes-from_le_bytes w8 bs e h = le_forth 0 bs e h
to_le_bytes-from_le_bytes w16 bs e h = le_forth 1 bs e h
to_le_bytes-from_le_bytes w32 bs e h = le_forth 3 bs e h
to_le_bytes-from_le_bytes w64 bs e h = le_forth 7 bs e h
to_le_bytes-from_le_bytes w128 bs e h = le_forth 15 bs e h

-- and high byte first
pub to_be_bytes-from_be_bytes : (w : Width) (bs : List ℕ) → length bs ≡ byte_len w → AreBytes bs → to_be_bytes w (from_be_bytes w bs) ≡ bs
to_be_bytes-from_be_bytes w8 bs e h = be_forth 0 bs e h
to_be_bytes-from_be_bytes w16 bs e h = be_forth 1 bs e h
to_be_bytes-from_be_bytes w32 bs e h = be_forth 3 bs e h
to_be_bytes-from_be_bytes w64 bs e h = be_forth 7 bs e h
to_be_bytes-from_be_bytes w128 bs e h = be_forth 15 bs e h

-- the number of as many bytes as the width has fits it, low byte first
pub from_le_bytes_below : (w : Width) (bs : List ℕ) → length bs ≡ byte_len w → AreBytes bs → from_le_bytes w bs < 2 ^ (8 * byte_len w)
from_le_bytes_below w8 bs e h = le_below 0 bs e h
from_le_bytes_below w16 bs e h = le_below 1 bs e h
from_le_bytes_below w32 bs e h = le_below 3 bs e h
from_le_bytes_below w64 bs e h = le_below 7 bs e h
from_le_bytes_below w128 bs e h = le_below 15 bs e h

-- and high byte first
pub from_be_bytes_below : (w : Width) (bs : List ℕ) → length bs ≡ byte_len w → AreBytes bs → from_be_bytes w bs < 2 ^ (8 * byte_len w)
from_be_bytes_below w8 bs e h = be_below 0 bs e h
from_be_bytes_below w16 bs e h = be_below 1 bs e h
from_be_bytes_below w32 bs e h = be_below 3 bs e h
from_be_bytes_below w64 bs e h = be_below 7 bs e h
from_be_bytes_below w128 bs e h = be_below 15 bs e h
