-- Numbers, and the words that write them.
use Rattle.std.proofs.Common.{◌≡◌, ◌<◌, ◌^◌, true, ℕ, List, decimal, sym, ◌∙◌, ap, arith, Ok, Err}
use Rattle.std.specs.Prelude.{Result}
use Rattle.std.specs.Str.{bytes_eq}
use Rattle.std.specs.Str.Parse.{ParsesUnsigned}
use Rattle.std.proofs.lemmas.Fmt.{parse-decimal}
use Rattle.std.proofs.lemmas.Slice.Eq.{bytes_eq-Decides}
use Rattle.tink_program_core.specs.Words.{IsNumberWord}

-- a number is read from its digits
number_parses : {E : Type 0} (most : ℕ) (word : List ℕ) (n : ℕ) (r : Result ℕ E) → most < 2 ^ 64 → IsNumberWord most word n → ParsesUnsigned 64 10 word r → r ≡ Ok n
number_parses most word n r fits is parses = parse-decimal 64 n word r (omega (arith, fits, is.small)) (omega (arith, fits, is.small)) is.digits parses

-- no number has a word that none is read from
pub not_parsed : {E : Type 0} (most : ℕ) (word : List ℕ) (n : ℕ) (r : Result ℕ E) (e : E) → r ≡ Err e → ParsesUnsigned 64 10 word r → most < 2 ^ 64 → IsNumberWord most word n → ⊥
not_parsed most word n r e refused parses fits is = let same = sym refused ∙ number_parses most word n r fits is parses in cc same

-- the number that is read from a number's word
pub number_read : {E : Type 0} (most : ℕ) (word : List ℕ) (n m : ℕ) (r : Result ℕ E) → r ≡ Ok m → ParsesUnsigned 64 10 word r → most < 2 ^ 64 → IsNumberWord most word n → n ≡ m
number_read most word n m r read parses fits is = let same = sym read ∙ number_parses most word n r fits is parses in cc same

-- printed it is the word
pub printed_word : {E : Type 0} (most : ℕ) (word printed : List ℕ) (n m : ℕ) (r : Result ℕ E) → r ≡ Ok m → ParsesUnsigned 64 10 word r → printed ≡ decimal m → most < 2 ^ 64 → IsNumberWord most word n
    → bytes_eq printed word ≡ true
printed_word most word printed n m r read parses digits fits is =
    (bytes_eq-Decides printed word).1 (digits ∙ ap decimal (sym (number_read most word n m r read parses fits is)) ∙ sym is.digits)
