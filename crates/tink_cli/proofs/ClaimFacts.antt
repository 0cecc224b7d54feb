-- What the program over the streams of the process spells, it claims.
use Rattle.std.proofs.Common.{◌≡◌, ◌^◌, ◌-◌, ◌∙◌, sym, inl, inr, ◌==◌, true, false, ℕ, List, [], ◌∷◌, refl, arith, Ok, rules}
use Rattle.std.specs.Prelude.{All, decimal}
use Rattle.std.specs.List.{list_all}
use Rattle.std.specs.Char.{is_ascii_hexdigit}
use Rattle.std.proofs.lemmas.Bool.{true≢false}
use Rattle.std.proofs.lemmas.List.Elements.{All-head, All-tail}
use Rattle.std.specs.Str.Parse.{IsNumeral}
use Rattle.std.proofs.lemmas.Fmt.{decimal_is_IsNumeral}
use Rattle.hex.specs.Hex.{decode_of, is_hex_digit}
use Rattle.hex.proofs.HexLemmas.{decode_of-ok}
use Rattle.tink_cli_words.specs.Words.{is_option}
use Rattle.tink_program.specs.Words.{Asked, IsBytesWord, IsNumberWord, SpellNothing, Spells}
use Rattle.tink_program.specs.Words.Asked.{Making, Measuring, Opening, Ranging, Rewrapping, Rotating, Sealing, Signing, Verifying}
use Rattle.tink_cli.specs.Claims.{has_no_keyset, is_keyset, is_of_streams}

-- a digit is no dash
not_dash : (b : ℕ) → is_hex_digit b ≡ true → (b == 45) ≡ false
not_dash b digit = search rules

hex_is_no_option : (word bytes : List ℕ) → decode_of word ≡ Ok bytes → is_option word ≡ false
hex_is_no_option [] bytes is = refl
hex_is_no_option (b ∷ []) bytes is = refl
hex_is_no_option (b ∷ c ∷ cs) bytes is = not_dash b ((decode_of-ok (b ∷ c ∷ cs) bytes is).1 0 b (omega arith))

numeral_is_no_option : (word : List ℕ) → IsNumeral 10 word → is_option word ≡ false
numeral_is_no_option [] is = refl
numeral_is_no_option (b ∷ []) is = refl
numeral_is_no_option (b ∷ c ∷ cs) is = search rules

-- so no word that such a line has is an option
bytes_word : (word bytes : List ℕ) → IsBytesWord word bytes → is_option word ≡ false
bytes_word word bytes (inl dash) = rw dash.0 refl
bytes_word word bytes (inr digits) = hex_is_no_option word bytes digits.1

number_word : (word : List ℕ) (n : ℕ) → IsNumberWord (2 ^ 64 - 1) word n → is_option word ≡ false
number_word word n is = rw is.digits (numeral_is_no_option (decimal n) (decimal_is_IsNumeral n (omega (arith, is.small))).0)

pub claimed : (words : List (List ℕ)) (a : Asked) → Spells words a → is_of_streams words ≡ true
claimed words (Sealing keyset aad seed) spells = rw spells.spelled refl
claimed words (Opening keyset aad) spells = rw spells.spelled refl
claimed words (Making template seed) spells = rw spells.spelled refl
claimed words (Rotating keyset template seed) spells =
    rw (
      spells.spelled,
      bytes_word spells.keyset_word keyset spells.keyset_is,
      hex_is_no_option spells.seed_word seed spells.seed_is.1,
      spells.seed_is.0,
    ) refl
claimed words (Measuring n) spells = rw spells.spelled refl
claimed words (Ranging keyset aad start len) spells =
    rw (
      spells.spelled,
      bytes_word spells.keyset_word keyset spells.keyset_is,
      bytes_word spells.aad_word aad spells.aad_is,
      number_word spells.start_word start spells.start_is,
      number_word spells.len_word len spells.len_is,
    ) refl
claimed words (Signing keyset) spells = rw (spells.spelled, bytes_word spells.keyset_word keyset spells.keyset_is) refl
claimed words (Verifying keyset) spells = rw (spells.spelled, bytes_word spells.keyset_word keyset spells.keyset_is) refl
claimed words (Rewrapping sides seed) spells =
    rw (
      spells.spelled,
      bytes_word spells.from_word sides.from spells.from_is,
      bytes_word spells.from_aad_word sides.from_aad spells.from_aad_is,
      bytes_word spells.to_word sides.to spells.to_is,
      bytes_word spells.to_aad_word sides.to_aad spells.to_aad_is,
      hex_is_no_option spells.seed_word seed spells.seed_is.1,
    ) refl

-- a line that spells a command has a keyset, if a command over files has its name
digit : (b : ℕ) → is_hex_digit b ≡ true → is_ascii_hexdigit b ≡ true
digit b is = search rules

abbrev IsDigit : ℕ → Type 0
IsDigit b = is_hex_digit b ≡ true

digits : (word : List ℕ) → All IsDigit word → list_all is_ascii_hexdigit word ≡ true
digits [] all = refl
digits (b ∷ bs) all = rw (digit b (All-head IsDigit b bs all), digits bs (All-tail IsDigit b bs all)) refl

keyset_word : (word bytes : List ℕ) → IsBytesWord word bytes → is_keyset word ≡ true
keyset_word word bytes (inl dash) = rw dash.0 refl
keyset_word word bytes (inr hex) = rw (digits word (decode_of-ok word bytes hex.1).1) refl

has_keyset : (words : List (List ℕ)) (a : Asked) → Spells words a → has_no_keyset words ≡ false
has_keyset words (Sealing keyset aad seed) spells = rw spells.spelled refl
has_keyset words (Opening keyset aad) spells = rw spells.spelled refl
has_keyset words (Making template seed) spells = rw spells.spelled refl
has_keyset words (Rotating keyset template seed) spells = rw (spells.spelled, keyset_word spells.keyset_word keyset spells.keyset_is) refl
has_keyset words (Measuring n) spells = rw spells.spelled refl
has_keyset words (Ranging keyset aad start len) spells = rw (spells.spelled, keyset_word spells.keyset_word keyset spells.keyset_is) refl
has_keyset words (Signing keyset) spells = rw (spells.spelled, keyset_word spells.keyset_word keyset spells.keyset_is) refl
has_keyset words (Verifying keyset) spells = rw (spells.spelled, keyset_word spells.keyset_word keyset spells.keyset_is) refl
has_keyset words (Rewrapping sides seed) spells = rw (spells.spelled, keyset_word spells.from_word sides.from spells.from_is) refl

pub spells_nothing : (words : List (List ℕ)) → has_no_keyset words ≡ true → SpellNothing words
spells_nothing words lacks a spells = true≢false (sym lacks ∙ has_keyset words a spells)
