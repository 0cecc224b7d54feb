use Rattle.std.proofs.Common.{sym, ap, ◌∙◌}
use Rattle.std.specs.Char.{is_ascii_digit}
use Rattle.std.specs.List.{list_all}
use Rattle.tink_json.proofs.NumberLemmas.{digits_number-other, digits_number-parse}
use Rattle.tink_json.proofs.fields.digits_of_text.Goals as goal

pub returns-then-are_digits : goal.returns-then-are_digits
returns-then-are_digits c =
    let digits = ap (list_all is_ascii_digit) (sym c.as_bytes.ensures.value) ∙ sym c.are_digits.ensures ∙ c.if-are_digits.true in
    c.ok.ensures.value ∙ digits_number-parse _ _ digits c.parse.ensures.value.0

pub returns : goal.returns
returns c =
    let other = ap (list_all is_ascii_digit) (sym c.as_bytes.ensures.value) ∙ sym c.are_digits.ensures ∙ c.if-are_digits.false in
    sym (digits_number-other _ other)
