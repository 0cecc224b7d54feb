-- The values of options.
use Rattle.std.specs.Prelude.{◌+◌, ◌-◌, ◌*◌, ◌^◌, ◌&&◌, nat_le, ℕ, List, [], ◌∷◌, Bool, true, Option, Some, None, codes, if◌then◌else◌, option_and_then}
use Rattle.tink_cli_words.specs.Words.{named_in}
use Rattle.tink_cli_words.specs.declared.values.FormatName.{FormatName}
use Rattle.tink_cli_words.specs.declared.values.FormatName.TheVariants.{Json, Binary}
use Rattle.tink_cli_words.specs.declared.values.PrefixName.{PrefixName}
use Rattle.tink_cli_words.specs.declared.values.PrefixName.TheVariants.{Tink, Raw, Legacy, Crunchy}

-- a byte is a decimal digit
abbrev pub is_digit : ℕ → Bool
is_digit b = nat_le 48 b && nat_le b 57

-- a number with one digit more, where it is at most `most`
abbrev pub with_digit : ℕ → ℕ → ℕ → Option ℕ
with_digit most n b = if is_digit b && nat_le (n * 10 + (b - 48)) most then Some (n * 10 + (b - 48)) else None

-- a number with more digits
abbrev pub with_digits : ℕ → ℕ → List ℕ → Option ℕ
with_digits most n [] = Some n
with_digits most n (b ∷ bs) = option_and_then (λ next. with_digits most next bs) (with_digit most n b)

-- all bytes are decimal digits
abbrev pub are_digits : List ℕ → Bool
are_digits [] = true
are_digits (b ∷ bs) = is_digit b && are_digits bs

-- the number that more digits behind those of a number write
abbrev pub value_on : ℕ → List ℕ → ℕ
value_on n [] = n
value_on n (b ∷ bs) = value_on (n * 10 + (b - 48)) bs

-- the number that one or more decimal digits write, where it is at most `most`
abbrev pub number_up_to : ℕ → List ℕ → Option ℕ
number_up_to most [] = None
number_up_to most (b ∷ bs) = if are_digits (b ∷ bs) && nat_le (value_on 0 (b ∷ bs)) most then Some (value_on 0 (b ∷ bs)) else None

-- the number of 64 bits that a text writes
abbrev pub number_of : Option (List ℕ) → Option ℕ
number_of text = option_and_then (λ digits. number_up_to (2 ^ 64 - 1) digits) text

-- the number of 32 bits that a text writes
abbrev pub id_of : Option (List ℕ) → Option ℕ
id_of text = option_and_then (λ digits. number_up_to (2 ^ 32 - 1) digits) text

-- the format that a text names
abbrev pub format_of : Option (List ℕ) → Option FormatName
format_of text = option_and_then (λ name. named_in ((codes "json", Json) ∷ (codes "binary", Binary) ∷ []) name) text

-- the output prefix that a text names
abbrev pub prefix_of : Option (List ℕ) → Option PrefixName
prefix_of text = option_and_then (λ name. named_in ((codes "tink", Tink) ∷ (codes "raw", Raw) ∷ (codes "legacy", Legacy) ∷ (codes "crunchy", Crunchy) ∷ []) name) text
