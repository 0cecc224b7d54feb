-- Texts of decimal digits.
use Rattle.std.proofs.Common.{◌≡◌, ℕ, zero, suc, ◌<◌, ◌≤◌, ◌&&◌, ◌^◌, ℤ, pos, negsuc, neg_ℤ, OkIff, eqb, ltb, leb, List, [], ◌∷◌, length, drop, get_or, Bool, true, false, cond, Some, None, Result, Ok, Err, refl, sym, ap, ◌∙◌, subst, w64, to_z, of_z, int_lt, FitsSigned, arith}
use Rattle.std.proofs.lemmas.Bool.{lt-ltb, ltb-true, le-ltb, le-leb, leb-true, eqb-true, eqb-false}
use Rattle.std.proofs.lemmas.Int.{to_z-of_z}
use Rattle.std.proofs.lemmas.Str.Parse.{numerals_by_value, tells_all_ascii_digits, parse_digits, parse_signed_minus, parse_signed_plain, parse_signed_plus}
use Rattle.std.specs.Char.{is_ascii_digit}
use Rattle.std.specs.List.{list_all}
use Rattle.std.specs.Result.{result_ok}
use Rattle.std.specs.Str.{all_ascii_digits}
use Rattle.std.specs.Str.Parse.{ParsesSigned, ParsesUnsigned, digits_value}
use Rattle.tink_json.specs.Whole.{digits_number, is_negative}

pub same_test : (s : List ℕ) → list_all is_ascii_digit s ≡ all_ascii_digits s
same_test [] = refl
same_test (c ∷ s) = ap (λ b. is_ascii_digit c && b) (same_test s)

by_tests : {E : Type 0} (n v : ℕ) (a b : Bool) (r : Result ℕ E) → ltb 0 n ≡ a → ltb v (2 ^ 64) ≡ b → OkIff r ((0 < n) × (v < 2 ^ 64)) v
    → result_ok r ≡ cond (a && b) (Some v) None
by_tests n v a b (Ok x) p q h = rw (sym p, sym q, lt-ltb 0 n h.0.0, lt-ltb v (2 ^ 64) h.0.1) (ap Some h.1)
by_tests n v true true (Err e) p q h = absurd (h (ltb-true 0 n p, ltb-true v (2 ^ 64) q))
by_tests n v true false (Err e) p q h = refl
by_tests n v false b (Err e) p q h = refl

-- what `parse` answers of digits
pub digits_number-parse : {E : Type 0} (s : List ℕ) (r : Result ℕ E) → list_all is_ascii_digit s ≡ true → ParsesUnsigned 64 10 s r → result_ok r ≡ digits_number s
unfolding digits_number
digits_number-parse s r digits parsed =
    let own = numerals_by_value _ tells_all_ascii_digits in
    rw digits (by_tests (length s) (digits_value 10 s) _ _ r refl refl (parse_digits own 64 s r parsed (sym (same_test s) ∙ digits)))

-- a text with another byte
pub digits_number-other : (s : List ℕ) → list_all is_ascii_digit s ≡ false → digits_number s ≡ None
unfolding digits_number
digits_number-other s other = rw other refl

-- whether a signed number was read, and it is below 0
abbrev pub is_below_zero : {E : Type 0} → Result ℤ E → Bool
is_below_zero (Ok (pos n)) = false
is_below_zero (Ok (negsuc n)) = true
is_below_zero (Err e) = false

and_true : (b : Bool) → b ≡ (b && true)
and_true true = refl
and_true false = refl

sign_of : (E : Type 0) (v : ℕ) (z : ℤ) → z ≡ neg_ℤ (pos v) → is_below_zero {E = E} (Ok z) ≡ ltb 0 v
sign_of E zero z is = rw is refl
sign_of E (suc k) z is = rw is (sym (lt-ltb 0 (suc k) (omega arith)))

some_digits : (ds : List ℕ) → 0 < digits_value 10 ds → 0 < length ds
some_digits [] some = some
some_digits (d ∷ ds) some = omega arith

minus_by_tests : {E : Type 0} (ds : List ℕ) (a b c : Bool) (r : Result ℤ E) → list_all is_ascii_digit ds ≡ a → ltb 0 (digits_value 10 ds) ≡ b
    → leb (digits_value 10 ds) (2 ^ 63) ≡ c → OkIff r ((all_ascii_digits ds ≡ true) × (0 < length ds) × (digits_value 10 ds ≤ 2 ^ 63)) (neg_ℤ (pos (digits_value 10 ds)))
    → is_below_zero r ≡ (a && b && c)
minus_by_tests {E} ds a b c (Ok z) p q u h = rw (sym p, same_test ds, h.0.0, sym q, sym u, le-leb (digits_value 10 ds) (2 ^ 63) h.0.2) (sign_of E (digits_value 10 ds) z h.1 ∙ and_true (ltb 0 (digits_value 10 ds)))
minus_by_tests ds true true true (Err e) p q u h =
    absurd (h (sym (same_test ds) ∙ p, some_digits ds (ltb-true 0 (digits_value 10 ds) q), leb-true (digits_value 10 ds) (2 ^ 63) u))
minus_by_tests ds true true false (Err e) p q u h = refl
minus_by_tests ds true false c (Err e) p q u h = refl
minus_by_tests ds false b c (Err e) p q u h = refl

not_below_zero : {E : Type 0} (P : Type 0) (n : ℕ) (r : Result ℤ E) → OkIff r P (pos n) → is_below_zero r ≡ false
not_below_zero P n (Ok z) h = rw h.1 refl
not_below_zero P n (Err e) h = refl

-- what `parse` answers of a signed number
pub is_negative-parse : {E : Type 0} (s : List ℕ) (r : Result ℤ E) → ParsesSigned w64 10 s r → is_below_zero r ≡ is_negative s
unfolding is_negative
is_negative-parse s r parsed = by_sign (eqb (get_or s 0 0) 45) refl
  where
    by_plus : (t : Bool) → eqb (get_or s 0 0) 43 ≡ t → (get_or s 0 0 ≡ 45 → ⊥) → is_below_zero r ≡ false
    by_plus true plus other = not_below_zero _ _ r (parse_signed_plus (numerals_by_value _ tells_all_ascii_digits) w64 s r parsed (eqb-true _ _ plus))
    by_plus false plus other = not_below_zero _ _ r (parse_signed_plain (numerals_by_value _ tells_all_ascii_digits) w64 s r parsed (eqb-false _ _ plus) other)

    by_sign : (t : Bool) → eqb (get_or s 0 0) 45 ≡ t → is_below_zero r ≡ (t && list_all is_ascii_digit (drop 1 s) && ltb 0 (digits_value 10 (drop 1 s)) && leb (digits_value 10 (drop 1 s)) (2 ^ 63))
    by_sign true minus = minus_by_tests (drop 1 s) _ _ _ r refl refl refl (parse_signed_minus (numerals_by_value _ tells_all_ascii_digits) w64 s r parsed (eqb-true _ _ minus))
    by_sign false minus = by_plus (eqb (get_or s 0 0) 43) refl (eqb-false _ _ minus)

fits_of : {E : Type 0} (s : List ℕ) (n : ℤ) (r : Result ℤ E) → r ≡ Ok n → ParsesSigned w64 10 s r → FitsSigned w64 n
fits_of s n r is parsed = let found = subst (ParsesSigned w64 10 s) is parsed in subst (FitsSigned w64) (sym found.1) found.0.1

below_is : (E : Type 0) (z : ℤ) → int_lt z (pos 0) ≡ is_below_zero {E = E} (Ok z)
below_is E (pos n) = le-ltb n 0 (omega arith)
below_is E (negsuc n) = refl

-- the test of a signed number that `parse` gave
pub is_negative-parse_ok : {E : Type 0} (s : List ℕ) (n : ℤ) (r : Result ℤ E) → r ≡ Ok n → ParsesSigned w64 10 s r → int_lt (to_z w64 (of_z w64 n)) (pos 0) ≡ is_negative s
is_negative-parse_ok {E} s n r is parsed =
    ap (λ z. int_lt z (pos 0)) (to_z-of_z w64 n (fits_of s n r is parsed)) ∙ below_is E n ∙ ap is_below_zero (sym is) ∙ is_negative-parse s r parsed
