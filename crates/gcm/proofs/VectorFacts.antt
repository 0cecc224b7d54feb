-- The bytes of numbers of 128 bits, which are summed and shifted.
use Rattle.std.proofs.Common.{◌≡◌, ℕ, ◌+◌, ◌*◌, ◌/◌, ◌%◌, ◌^◌, ◌<◌, ◌≤◌, ◌++◌, List, [], ◌∷◌, bit_xor, replicate, refl, sym, ap, ap₂, ◌∙◌, arith, lit≤}
use Rattle.std.proofs.lemmas.Nat.{field_of, shr-shr, xor_comm, xor_mod, xor_shr}
use Rattle.std.specs.Int.Bits.{xor_zero_r}
use lib.Bits.{xor_shifted}
use lib.Lanes.{pick_l, zip2}
use Rattle.gcm.specs.Carries.{bytes_of, carried}
use Rattle.gcm.proofs.Carries.{raised_room}

cons2 : {x y : ℕ} {xs ys : List ℕ} → x ≡ y → xs ≡ ys → (x ∷ xs) ≡ (y ∷ ys)
cons2 e es = ap₂ (λ v vs. v ∷ vs) e es

-- a byte of a sum
xor_byte : (a b k : ℕ) → bit_xor (a / 2 ^ k % 256) (b / 2 ^ k % 256) ≡ bit_xor a b / 2 ^ k % 256
xor_byte a b k = sym (xor_mod (a / 2 ^ k) (b / 2 ^ k) 8) ∙ ap (λ v. v % 256) (sym (xor_shr a b k))

pub summed : (a b : ℕ) → zip2 bit_xor (bytes_of a) (bytes_of b) ≡ bytes_of (bit_xor a b)
summed a b =
    cons2 (sym (xor_mod a b 8)) (cons2 (xor_byte a b 8) (cons2 (xor_byte a b 16) (cons2 (xor_byte a b 24) (cons2 (xor_byte a b 32) (cons2 (xor_byte a b 40) (cons2 (xor_byte a b 48) (cons2 (xor_byte a b 56) (cons2 (xor_byte a b 64) (cons2 (xor_byte a b 72) (cons2 (xor_byte a b 80) (cons2 (xor_byte a b 88) (cons2 (xor_byte a b 96) (cons2 (xor_byte a b 104) (cons2 (xor_byte a b 112) (cons2 (xor_byte a b 120) (refl))))))))))))))))

-- a byte of what is shifted down by one
down_byte : (n k : ℕ) → n / 2 ^ (8 + k) % 256 ≡ n / 256 / 2 ^ k % 256
down_byte n k = ap (λ v. v % 256) (sym (shr-shr n 8 k))

-- the places behind the first of 17
abbrev pub AFTER_FIRST : List ℕ
AFTER_FIRST = 1 ∷ 2 ∷ 3 ∷ 4 ∷ 5 ∷ 6 ∷ 7 ∷ 8 ∷ 9 ∷ 10 ∷ 11 ∷ 12 ∷ 13 ∷ 14 ∷ 15 ∷ 16 ∷ []

pub shifted_down : (n : ℕ) → n < 2 ^ 128 → pick_l 0 (bytes_of n ++ replicate 16 0) AFTER_FIRST ≡ bytes_of (n / 256)
shifted_down n h =
    let last : 0 ≡ n / 256 / 2 ^ 120 % 256 = omega (arith, h) in
    cons2 (refl) (cons2 (down_byte n 8) (cons2 (down_byte n 16) (cons2 (down_byte n 24) (cons2 (down_byte n 32) (cons2 (down_byte n 40) (cons2 (down_byte n 48) (cons2 (down_byte n 56) (cons2 (down_byte n 64) (cons2 (down_byte n 72) (cons2 (down_byte n 80) (cons2 (down_byte n 88) (cons2 (down_byte n 96) (cons2 (down_byte n 104) (cons2 (down_byte n 112) (cons2 last refl)))))))))))))))

-- the carried part is the byte over the others
carried_is : (h l : ℕ) → l < 2 ^ 128 → carried h l ≡ h % 256 * 2 ^ 120 + l / 256
carried_is h l e =
    let low : l / 256 < 2 ^ 120 = omega (arith, e) in
    let up : h * 2 ^ 120 % 2 ^ 128 ≡ h % 256 * 2 ^ 120 = omega arith in
    ap (bit_xor (l / 256)) up ∙ xor_comm (l / 256) (h % 256 * 2 ^ 120) ∙ xor_shifted (h % 256) 120 (l / 256) low

-- the byte is above them
no_byte : (h k : ℕ) → 8 + k ≤ 120 → h * 2 ^ 120 % 2 ^ 128 % 2 ^ (8 + k) ≡ 0
no_byte h k below = raised_room h (8 + k) below

-- a byte of the others
carried_byte : (h l k : ℕ) → h * 2 ^ 120 % 2 ^ 128 / 2 ^ k % 256 ≡ 0 → l / 2 ^ (8 + k) % 256 ≡ carried h l / 2 ^ k % 256
carried_byte h l k none =
    let m = l / 256 in
    let up = h * 2 ^ 120 % 2 ^ 128 in
    down_byte l k ∙ sym (xor_zero_r (m / 2 ^ k % 256)) ∙ ap (bit_xor (m / 2 ^ k % 256)) (sym none) ∙ xor_byte m up k

pub carried_down : (h l : ℕ) → l < 2 ^ 128 → pick_l 0 (bytes_of l ++ bytes_of h) AFTER_FIRST ≡ bytes_of (carried h l)
carried_down h l e =
    let up = h * 2 ^ 120 % 2 ^ 128 in
    let whole = carried h l in
    let none0 : up / 1 % 256 ≡ 0 = omega arith in
    let first : l / 2 ^ 8 % 256 ≡ whole % 256 = carried_byte h l 0 none0 ∙ (let z : whole / 1 % 256 ≡ whole % 256 = omega arith in z) in
    let last : h % 256 ≡ whole / 2 ^ 120 % 256 = (let z : h % 256 ≡ (h % 256 * 2 ^ 120 + l / 256) / 2 ^ 120 % 256 = omega (arith, e) in z) ∙ ap (λ v. v / 2 ^ 120 % 256) (sym (carried_is h l e)) in
    let none8 : up / 2 ^ 8 % 256 ≡ 0 = sym (field_of up 8 8) ∙ ap (λ v. v / 2 ^ 8) (no_byte h 8 (lit≤ tt)) in
    let none16 : up / 2 ^ 16 % 256 ≡ 0 = sym (field_of up 8 16) ∙ ap (λ v. v / 2 ^ 16) (no_byte h 16 (lit≤ tt)) in
    let none24 : up / 2 ^ 24 % 256 ≡ 0 = sym (field_of up 8 24) ∙ ap (λ v. v / 2 ^ 24) (no_byte h 24 (lit≤ tt)) in
    let none32 : up / 2 ^ 32 % 256 ≡ 0 = sym (field_of up 8 32) ∙ ap (λ v. v / 2 ^ 32) (no_byte h 32 (lit≤ tt)) in
    let none40 : up / 2 ^ 40 % 256 ≡ 0 = sym (field_of up 8 40) ∙ ap (λ v. v / 2 ^ 40) (no_byte h 40 (lit≤ tt)) in
    let none48 : up / 2 ^ 48 % 256 ≡ 0 = sym (field_of up 8 48) ∙ ap (λ v. v / 2 ^ 48) (no_byte h 48 (lit≤ tt)) in
    let none56 : up / 2 ^ 56 % 256 ≡ 0 = sym (field_of up 8 56) ∙ ap (λ v. v / 2 ^ 56) (no_byte h 56 (lit≤ tt)) in
    let none64 : up / 2 ^ 64 % 256 ≡ 0 = sym (field_of up 8 64) ∙ ap (λ v. v / 2 ^ 64) (no_byte h 64 (lit≤ tt)) in
    let none72 : up / 2 ^ 72 % 256 ≡ 0 = sym (field_of up 8 72) ∙ ap (λ v. v / 2 ^ 72) (no_byte h 72 (lit≤ tt)) in
    let none80 : up / 2 ^ 80 % 256 ≡ 0 = sym (field_of up 8 80) ∙ ap (λ v. v / 2 ^ 80) (no_byte h 80 (lit≤ tt)) in
    let none88 : up / 2 ^ 88 % 256 ≡ 0 = sym (field_of up 8 88) ∙ ap (λ v. v / 2 ^ 88) (no_byte h 88 (lit≤ tt)) in
    let none96 : up / 2 ^ 96 % 256 ≡ 0 = sym (field_of up 8 96) ∙ ap (λ v. v / 2 ^ 96) (no_byte h 96 (lit≤ tt)) in
    let none104 : up / 2 ^ 104 % 256 ≡ 0 = sym (field_of up 8 104) ∙ ap (λ v. v / 2 ^ 104) (no_byte h 104 (lit≤ tt)) in
    let none112 : up / 2 ^ 112 % 256 ≡ 0 = sym (field_of up 8 112) ∙ ap (λ v. v / 2 ^ 112) (no_byte h 112 (lit≤ tt)) in
    cons2 (first) (cons2 (carried_byte h l 8 none8) (cons2 (carried_byte h l 16 none16) (cons2 (carried_byte h l 24 none24) (cons2 (carried_byte h l 32 none32) (cons2 (carried_byte h l 40 none40) (cons2 (carried_byte h l 48 none48) (cons2 (carried_byte h l 56 none56) (cons2 (carried_byte h l 64 none64) (cons2 (carried_byte h l 72 none72) (cons2 (carried_byte h l 80 none80) (cons2 (carried_byte h l 88 none88) (cons2 (carried_byte h l 96 none96) (cons2 (carried_byte h l 104 none104) (cons2 (carried_byte h l 112 none112) (cons2 last refl)))))))))))))))
