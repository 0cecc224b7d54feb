-- What the tests of PKCS #7 tell.
use Rattle.std.proofs.Common.{◌≡◌, ℕ, ◌-◌, ◌+◌, ◌%◌, ◌≤◌, ◌<◌, ◌==◌, true, false, nat_lt, sym, ◌∙◌, inl, inr, List, [], ◌∷◌, length, take, drop, get_or, Some, None, refl, eq-eqb, length-take, arith, ◌≢◌}
use Rattle.std.proofs.lemmas.Bool.Decides.{nat_tests, eqb_tells}
use Rattle.std.proofs.Math.Nat.{mod-eq_of_lt}
use Rattle.std.specs.List.{list_all}
use Rattle.cipher_modes.specs.Paddings.{pkcs7_unpadded}

pub pkcs7-accepts : (B : ℕ) (bytes : List ℕ) (count : ℕ) → count ≡ get_or bytes (length bytes - 1) 0 → length bytes % B ≡ 0 → count ≢ 0 → count ≤ B
    → list_all (λ x. x == count) (drop (length bytes - count) bytes) ≡ true → pkcs7_unpadded B bytes ≡ Some (take (length bytes - count) bytes)
pkcs7-accepts B bytes count last whole some within alike =
    let is_whole : (length bytes % B == 0) ≡ true = eq-eqb (length bytes % B) 0 whole in
    let is_some : nat_lt 0 count ≡ true = grind (arith, nat_tests) in
    let is_within : nat_lt count (B + 1) ≡ true = grind (arith, nat_tests) in
    rw (← last, is_whole, is_some, is_within, alike) refl

pub pkcs7-refuses : (B : ℕ) (bytes : List ℕ) (count : ℕ) → count ≡ get_or bytes (length bytes - 1) 0 → length bytes % B ≡ 0 → count ≢ 0 → count ≤ B
    → list_all (λ x. x == count) (drop (length bytes - count) bytes) ≡ false → pkcs7_unpadded B bytes ≡ None
pkcs7-refuses B bytes count last whole some within alike =
    let is_whole : (length bytes % B == 0) ≡ true = eq-eqb (length bytes % B) 0 whole in
    let is_some : nat_lt 0 count ≡ true = grind (arith, nat_tests) in
    let is_within : nat_lt count (B + 1) ≡ true = grind (arith, nat_tests) in
    rw (← last, is_whole, is_some, is_within, alike) refl

pub some_bytes : (bytes : List ℕ) → get_or bytes (length bytes - 1) 0 ≢ 0 → 0 < length bytes
some_bytes [] h = absurd (h refl)
some_bytes (x ∷ xs) h = omega arith

pub pkcs7-none : (B : ℕ) (bytes : List ℕ) → 1 ≤ B → (length bytes == 0) ≡ true → pkcs7_unpadded B bytes ≡ None
pkcs7-none B [] some h = let whole : 0 % B ≡ 0 = mod-eq_of_lt some in rw (eq-eqb (0 % B) 0 whole) refl
pkcs7-none B (x ∷ xs) some h =
    elim (eqb_tells (length (x ∷ xs)) 0) [
      | inl e ↦ let no : length (x ∷ xs) ≡ 0 = e.1 in absurd (omega arith)
      | inr e ↦ let no : false ≡ true = sym e.0 ∙ h in cc
    ]

pub cut_before : (bytes : List ℕ) (count : ℕ) → length bytes - count ≡ length (take (length bytes - count) bytes)
cut_before bytes count = simp length-take (omega arith)
