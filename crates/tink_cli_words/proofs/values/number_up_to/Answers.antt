use Rattle.std.proofs.Common.{◌≡◌, ◌∙◌, ◌+◌, ◌-◌, ◌*◌, ◌<◌, ◌≤◌, ◌&&◌, ℕ, List, [], ◌∷◌, Bool, true, false, Option, Some, None, length, if◌then◌else◌, refl, sym, subst, arith}
use Rattle.std.specs.Prelude.{nat_le, option_and_then}
use Rattle.std.proofs.lemmas.Bool.Decides.{nat_tests}
use Rattle.tink_cli_words.specs.Values.{are_digits, is_digit, number_up_to, value_on, with_digits}
use Rattle.tink_cli_words.proofs.values.number_up_to.Goals as goal

-- more digits make no number smaller
grows : (n : ℕ) (bs : List ℕ) → n ≤ value_on n bs
grows n [] = omega arith
grows n (b ∷ bs) = let more : n * 10 + (b - 48) ≤ value_on (n * 10 + (b - 48)) bs = grows (n * 10 + (b - 48)) bs in omega arith

within : (n most : ℕ) → n ≤ most → nat_le n most ≡ true
within n most h = grind (arith, nat_tests)

is_within : (n most : ℕ) → nat_le n most ≡ true → n ≤ most
is_within n most h = grind (arith, nat_tests)

beyond : (n m most : ℕ) → nat_le n most ≡ false → n ≤ m → nat_le m most ≡ false
beyond n m most h more = grind (arith, nat_tests)

-- what the digits of a number write, where it is not too large
abbrev answer : ℕ → Bool → ℕ → Option ℕ
answer most digits n = if digits && nat_le n most then Some n else None

too_large : (most n : ℕ) (digits : Bool) → nat_le n most ≡ false → None ≡ answer most digits n
too_large most n true large = subst (λ b. None ≡ (if true && b then Some n else None)) (sym large) refl
too_large most n false large = refl

-- one digit more
one_more : (most n : ℕ) (bs : List ℕ) (digit fits : Bool) → nat_le n most ≡ fits → (fits ≡ true → with_digits most n bs ≡ answer most (are_digits bs) (value_on n bs)) → option_and_then (λ next. with_digits most next bs) (if digit && fits then Some n else None) ≡ answer most (digit && are_digits bs) (value_on n bs)
one_more most n bs false fits e rest = refl
one_more most n bs true true e rest = rest refl
one_more most n bs true false e rest = too_large most (value_on n bs) (are_digits bs) (beyond n (value_on n bs) most e (grows n bs))

-- the digits are read one by one: a number that is too large stays too large
read_all : (most n : ℕ) (bs : List ℕ) → n ≤ most → with_digits most n bs ≡ answer most (are_digits bs) (value_on n bs)
read_all most n [] small = subst (λ b. Some n ≡ (if b then Some n else None)) (sym (within n most small)) refl
read_all most n (b ∷ bs) small =
    let next = n * 10 + (b - 48) in
    one_more most next bs (is_digit b) (nat_le next most) refl (λ fits. read_all most next bs (is_within next most fits))

number : (most : ℕ) (bs : List ℕ) → 0 < length bs → with_digits most 0 bs ≡ number_up_to most bs
number most [] some = absurd (omega arith)
number most (b ∷ bs) some = read_all most 0 (b ∷ bs) (omega arith)

pub returns-clause-number : goal.returns-clause-number
returns-clause-number c =
    let is_empty = c.is_empty.ensures in
    let full = c.if-is_empty.false in
    let some : 0 < length c.args.digits.now = grind (arith, nat_tests) in
    c.read_digits.ensures.number ∙ number c.args.most c.args.digits.now some
