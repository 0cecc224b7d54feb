-- Numbers that are whole and fit 64 bits, as they stand in a text.
use Rattle.std.specs.Prelude.{ℕ, ◌^◌, ◌&&◌, ◌||◌, nat_eq, nat_lt, nat_le, List, drop, length, get_or, Bool, true, if◌then◌else◌, Option, Some, None, is_some}
use Rattle.std.specs.Char.{is_ascii_digit}
use Rattle.std.specs.List.{list_all}
use Rattle.std.specs.Str.{is_utf8}
use Rattle.std.specs.Str.Parse.{digits_value}
use Rattle.json.specs.Lex.{tokens}
use Rattle.json.specs.Token.{Token, number}

-- the number of a text of decimal digits, where it is below 2^64
unfoldable pub digits_number : List ℕ → Option ℕ
digits_number s = if list_all is_ascii_digit s && nat_lt 0 (length s) && nat_lt (digits_value 10 s) (2 ^ 64) then Some (digits_value 10 s) else None

-- a minus before decimal digits, of a number from 1 to 2^63
unfoldable pub is_negative : List ℕ → Bool
is_negative s = nat_eq (get_or s 0 0) 45 && list_all is_ascii_digit (drop 1 s) && nat_lt 0 (digits_value 10 (drop 1 s)) && nat_le (digits_value 10 (drop 1 s)) (2 ^ 63)

-- digits, or a minus and digits: no fraction, no exponent, no -0
abbrev pub is_whole : List ℕ → Bool
is_whole s = is_some (digits_number s) || is_negative s

abbrev pub is_whole_token : Token → Bool
is_whole_token (number s) = is_whole s
is_whole_token _ = true

-- the text is UTF-8, and each number that stands in it is whole
unfoldable pub are_whole : List ℕ → Bool
are_whole text = is_utf8 text && list_all is_whole_token (tokens text)
