-- The laws of the paddings: whole blocks, and the message back.
use Rattle.std.proofs.Common.{◌≡◌, ℕ, zero, suc, ◌+◌, ◌-◌, ◌*◌, ◌/◌, ◌%◌, ◌≤◌, ◌<◌, Bool, true, false, ◌&&◌, ◌==◌, nat_lt, List, [], ◌∷◌, ◌++◌, Some, length, take, drop, replicate, get_or, ap, sym, ◌∙◌, refl, arith, inl, inr, length-append, eq-eqb}
use Rattle.std.proofs.lemmas.List.{append-nil, take_at, drop_at, get_or-replicate, get_or-append_right, length-replicate, take-append-drop, take-append-le, drop-append-le}
use Rattle.std.proofs.lemmas.Bool.{cases_lt}
use Rattle.std.proofs.lemmas.Bool.Decides.{eqb_tells, nat_tests}
use Rattle.std.proofs.Math.Nat.{mod-lt, mod_self, mod-eq_of_lt, div-add-mod, add-mod_right, mul-mod_right}
use Rattle.std.specs.List.{list_all}
use Rattle.std.specs.Prelude.{⊤}
use Rattle.cipher_modes.specs.Paddings.{missing, pkcs7_padding, zero_padding, no_padding, pkcs7_unpadded, zero_unpadded, no_unpadded, without_zeros, EndsInNoZero}

-- whole blocks

pub missing-whole : (B n : ℕ) → 1 ≤ B → (n + missing B n) % B ≡ 0
missing-whole B n b =
    let split : B * (n / B) + n % B ≡ n = div-add-mod n B in
    let below : n % B < B = mod-lt n b in
    let next : n + missing B n ≡ B * (n / B) + B = omega arith in
    ap (λ m. m % B) next ∙ (add-mod_right (B * (n / B)) B ∙ mul-mod_right B (n / B))

pub pkcs7_padding-whole : (B n : ℕ) (tail : List ℕ) → 1 ≤ B → pkcs7_padding B n ≡ Some tail → ((n + length tail) % B ≡ 0) × (n + missing B n ≡ n + length tail)
pkcs7_padding-whole B n tail b e =
    let is : replicate (missing B n) (missing B n) ≡ tail = cc in
    let size : length tail ≡ missing B n = ap length (sym is) ∙ length-replicate (missing B n) (missing B n) in
    (ap (λ m. (n + m) % B) size ∙ missing-whole B n b, ap (λ m. n + m) (sym size))

zeros-whole : (B n : ℕ) → 1 ≤ B → (n + missing B n % B) % B ≡ 0
zeros-whole B n b =
    let below : n % B < B = mod-lt n b in
    elim (eqb_tells (n % B) 0) [
      | inl h ↦
          let all : missing B n ≡ B = omega arith in
          let none : n + missing B n % B ≡ n = let m : missing B n % B ≡ 0 = ap (λ k. k % B) all ∙ mod_self B in omega arith in
          ap (λ m. m % B) none ∙ h.1
      | inr h ↦
          let some : 0 < n % B = omega arith in
          let less : missing B n < B = omega arith in
          ap (λ m. (n + m) % B) (mod-eq_of_lt less) ∙ missing-whole B n b
    ]

pub zero_padding-whole : (B n : ℕ) (tail : List ℕ) → 1 ≤ B → zero_padding B n ≡ Some tail → ((n + length tail) % B ≡ 0) × (n + missing B n % B ≡ n + length tail)
zero_padding-whole B n tail b e =
    let is : replicate (missing B n % B) 0 ≡ tail = cc in
    let size : length tail ≡ missing B n % B = ap length (sym is) ∙ length-replicate (missing B n % B) 0 in
    (ap (λ m. (n + m) % B) size ∙ zeros-whole B n b, ap (λ m. n + m) (sym size))

pub no_padding-whole : (B n : ℕ) (tail : List ℕ) → 1 ≤ B → no_padding B n ≡ Some tail → ((n + length tail) % B ≡ 0) × (n ≡ n + length tail)
no_padding-whole B n tail b e =
    elim (eqb_tells (n % B) 0) [
      | inl h ↦
          let e1 = rw h.0 at e in
          let is : [] ≡ tail = cc in
          let size : n + length tail ≡ n = let none : length tail ≡ 0 = ap length (sym is) in omega arith in
          (ap (λ m. m % B) size ∙ h.1, sym size)
      | inr h ↦ let e1 = rw h.0 at e in cc
    ]

-- the message back

pub no_padding-back : (B : ℕ) (message tail : List ℕ) → 1 ≤ B → ⊤ → no_padding B (length message) ≡ Some tail → no_unpadded B (message ++ tail) ≡ Some message
no_padding-back B message tail b _ e =
    elim (eqb_tells (length message % B) 0) [
      | inl h ↦
          let e1 = rw h.0 at e in
          let is : [] ≡ tail = cc in
          let all : message ++ tail ≡ message = ap (λ t. message ++ t) (sym is) ∙ append-nil message in rw (all, h.0) refl
      | inr h ↦ let e1 = rw h.0 at e in cc
    ]

all-replicate : (count n : ℕ) → list_all (λ x. x == n) (replicate count n) ≡ true
all-replicate zero n = refl
all-replicate (suc count) n = rw (eq-eqb n n refl) (all-replicate count n)

pub pkcs7_padding-back : (B : ℕ) (message tail : List ℕ) → 1 ≤ B → ⊤ → pkcs7_padding B (length message) ≡ Some tail → pkcs7_unpadded B (message ++ tail) ≡ Some message
pkcs7_padding-back B message tail b _ e =
    let n : ℕ = length message in
    let count : ℕ = missing B n in
    let below : n % B < B = mod-lt n b in
    let is : replicate count count ≡ tail = cc in
    let size : length tail ≡ count = ap length (sym is) ∙ length-replicate count count in
    let bytes : List ℕ = message ++ tail in
    let whole_size : length bytes ≡ n + count = length-append message tail ∙ ap (λ m. n + m) size in
    let place : length bytes - 1 - n ≡ count - 1 = omega arith in
    let last : get_or bytes (length bytes - 1) 0 ≡ count =
    get_or-append_right message tail n (length bytes - 1) 0 refl (omega arith) ∙ (ap (λ k. get_or tail k 0) place ∙ (ap (λ t. get_or t (count - 1) 0) (sym is) ∙ get_or-replicate count (count - 1) count 0 (omega arith))) in
    let end : length bytes - count ≡ n = omega arith in
    let rest : drop n bytes ≡ replicate count count = drop_at message tail n refl ∙ sym is in
    let front : take n bytes ≡ message = take_at message tail n refl in
    let whole : (length bytes % B == 0) ≡ true = eq-eqb (length bytes % B) 0 (ap (λ m. m % B) whole_size ∙ missing-whole B n b) in
    let some : nat_lt 0 count ≡ true = grind (arith, nat_tests) in
    let within : nat_lt count (B + 1) ≡ true = grind (arith, nat_tests) in
    rw (last, whole, some, within, end, rest, all-replicate count count, front) refl

-- zeros at the end

no_zero-tail : (x : ℕ) (xs : List ℕ) → EndsInNoZero (x ∷ xs) → EndsInNoZero xs
no_zero-tail x [] h = tt
no_zero-tail x (y ∷ xs) h = h

no_zero-drop : (n : ℕ) (xs : List ℕ) → EndsInNoZero xs → EndsInNoZero (drop n xs)
no_zero-drop zero xs h = h
no_zero-drop (suc n) [] h = tt
no_zero-drop (suc n) (x ∷ xs) h = no_zero-drop n xs (no_zero-tail x xs h)

and-false : (b : Bool) → (b && false) ≡ false
and-false true = refl
and-false false = refl

not_all_zeros : (x : ℕ) (xs zs : List ℕ) → EndsInNoZero (x ∷ xs) → list_all (λ y. y == 0) (x ∷ xs ++ zs) ≡ false
not_all_zeros x [] zs h = elim (eqb_tells x 0) [ inl e ↦ absurd (h e.1) | inr e ↦ rw e.0 refl ]
not_all_zeros x (y ∷ xs) zs h = rw (not_all_zeros y xs zs h) (and-false (x == 0))

all_zeros : (k : ℕ) → without_zeros (replicate k 0) ≡ []
all_zeros zero = refl
all_zeros (suc k) = rw (all-replicate k 0) refl

pub without_zeros-behind : (xs : List ℕ) (k : ℕ) → EndsInNoZero xs → without_zeros (xs ++ replicate k 0) ≡ xs
without_zeros-behind [] k h = all_zeros k
without_zeros-behind (x ∷ xs) k h = rw (not_all_zeros x xs (replicate k 0) h) (ap (λ ys. x ∷ ys) (without_zeros-behind xs k (no_zero-tail x xs h)))

pub zero_padding-back : (B : ℕ) (message tail : List ℕ) → 1 ≤ B → EndsInNoZero message → zero_padding B (length message) ≡ Some tail → zero_unpadded B (message ++ tail) ≡ Some message
zero_padding-back B message tail b h e =
    let n : ℕ = length message in
    let k : ℕ = missing B n % B in
    let few : k < B = mod-lt (missing B n) b in
    let is : replicate k 0 ≡ tail = cc in
    let size : length tail ≡ k = ap length (sym is) ∙ length-replicate k 0 in
    let bytes : List ℕ = message ++ tail in
    let whole_size : length bytes ≡ n + k = length-append message tail ∙ ap (λ m. n + m) size in
    let front : ℕ = length bytes - B in
    let within : front ≤ n = omega arith in
    let whole : (length bytes % B == 0) ≡ true = eq-eqb (length bytes % B) 0 (ap (λ m. m % B) whole_size ∙ zeros-whole B n b) in
    let first : take front bytes ≡ take front message = take-append-le front message tail within in
    let rest : drop front bytes ≡ drop front message ++ replicate k 0 = drop-append-le front message tail within ∙ ap (λ t. drop front message ++ t) (sym is) in
    rw (whole, first, rest, without_zeros-behind (drop front message) k (no_zero-drop front message h), take-append-drop) refl

-- some whole blocks are at least one
pub whole_least : (B n : ℕ) → 0 < n → n % B ≡ 0 → B ≤ n
whole_least B n some whole = elim (cases_lt n B) [ inl below ↦ absurd (let same : n % B ≡ n = mod-eq_of_lt below in omega arith) | inr least ↦ least ]
