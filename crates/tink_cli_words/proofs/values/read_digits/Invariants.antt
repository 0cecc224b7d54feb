use Rattle.std.proofs.Common.{◌≡◌, ◌≤◌, drop}
use Rattle.tink_cli_words.specs.Values.{with_digits}
use Rattle.tink_cli_words.proofs.values.read_digits.Given as goal

-- what is left to be read
abbrev pub invariant-digits : goal.invariant-digits
invariant-digits l = record {
  same : with_digits l.most l.number (drop l.digit-index l.digits) ≡ with_digits l.most 0 l.digits;
  bound : l.number ≤ l.most;
}
