-- Values that are read from their pretty text.
use Rattle.std.proofs.Common.{◌≡◌, inl, inr, ℕ, zero, suc, ◌+◌, ◌*◌, ◌^◌, ◌<◌, ◌≤◌, ◌/◌, ◌%◌, ℤ, pos, negsuc, List, [], ◌∷◌, ◌++◌, map, length, drop, Bool, true, false, cond, ◌&&◌, nat_lt, Option, Some, None, option_map, option_and_then, max, decimal, refl, sym, ap, ◌∙◌, subst, arith, append-nil, lt-ltb, le-leb, ltb-true}
use Rattle.std.specs.Fmt.{signed_decimal}
use Rattle.std.specs.List.{list_all, AllByRecursion}
use Rattle.std.specs.Str.{IsUtf8, IsAscii}
use Rattle.std.specs.Char.{is_ascii_digit}
use Rattle.std.specs.Str.{all_ascii_digits}
use Rattle.std.specs.Str.Parse.{digits_value}
use Rattle.std.proofs.lemmas.Bool.{and_parts}
use Rattle.std.proofs.lemmas.Fmt.{decimal_nonempty, digits_decimal, digits_value-decimal, decimal_by_steps}
use Rattle.std.proofs.lemmas.Str.{IsUtf8-append, IsUtf8-nil}
use Rattle.std.proofs.lemmas.Str.Parse.{numerals_by_value, tells_all_ascii_digits}
use Rattle.json.specs.Token.{Token}
use Rattle.json.specs.Tree as tree
use Rattle.json.specs.Lex.{tokens}
use Rattle.json.specs.Layout.{pretty}
use Rattle.json.specs.Json as json
use Rattle.json.proofs.Printed.Trees.{value-json_tokens}
use Rattle.json.proofs.Printed.Decimals.{IsNumber-decimal, IsNumber-signed_decimal}
use Rattle.json.proofs.Printed.Utf8.{are_ascii, IsUtf8-are_ascii, IsUtf8-quoted, IsUtf8-key}
use Rattle.serde_json.specs.Data.{Data, null, boolean, number, string, array, object, unsigned, negative, Items, no_items, item}
use Rattle.serde_json.specs.Read.{read, max_depth, of_json, of_items, number_of}
use Rattle.serde_json.specs.View.{items_of}
use Rattle.serde_json.specs.Written.{outline, items_outline}
use Rattle.serde_json.proofs.Numbers.{number_of-decimal, number_of-negative}
use Rattle.tink_json.specs.Whole.{digits_number, is_negative, is_whole, is_whole_token, are_whole}
use Rattle.tink_json.specs.Written.{pretty_text}
use Rattle.tink_json.proofs.NumberLemmas.{same_test}
use Rattle.tink_json.proofs.PrettyLemmas.{IsSound, AreSound, AreSound-append, sound-printable, sound-whole, sound-utf8, tokens-pretty}

-- a value that its own tokens give, of no more than k brackets
pub record IsGiven (d : Data) (k : ℕ) : Type 0 where
  pub value : of_json (outline d) ≡ Some d
  pub tokens : AreSound (tree.json_tokens (outline d))
  pub depth : tree.depth (outline d) ≤ k

-- ---- such a value is read from its pretty text

pub read-pretty : (d : Data) (k : ℕ) → IsGiven d k → k ≤ max_depth → read (pretty_text d) ≡ Some d
read-pretty d k g shallow =
    let ts = tree.json_tokens (outline d) in
    ap (λ us. option_and_then of_json (option_and_then (λ p. json.if_last p.0 p.1) (json.value max_depth us)))
    (tokens-pretty ts (sound-printable ts g.tokens) ∙ sym (append-nil ts))
    ∙ ap (λ o. option_and_then of_json (option_and_then (λ p. json.if_last p.0 p.1) o)) (value-json_tokens (outline d) max_depth [] (omega (arith, g.depth)))
    ∙ g.value

-- ---- strings and numbers

pub given_string : (s : List ℕ) → IsUtf8 s → IsGiven (string s) 0
unfolding AreSound
given_string s utf8 = record {
  value = refl;
  tokens = (record { printable = tt; whole = refl; utf8 = IsUtf8-quoted s utf8 }, tt);
  depth = omega arith;
}

ascii-append : (xs ys : List ℕ) → are_ascii xs ≡ true → are_ascii ys ≡ true → are_ascii (xs ++ ys) ≡ true
ascii-append [] ys p q = q
ascii-append (x ∷ xs) ys p q = let both = and_parts (nat_lt x 128) (are_ascii xs) p in rw both.0 (ascii-append xs ys both.1 q)

ascii-digit : (d : ℕ) → d < 10 → are_ascii ((48 + d) ∷ []) ≡ true
ascii-digit d small = rw (lt-ltb (48 + d) 128 (omega arith)) refl

ascii-decimal : (n : ℕ) → n < 2 ^ 64 → are_ascii (decimal n) ≡ true
ascii-decimal n h = decimal_by_steps (λ n ds. are_ascii ds ≡ true) ascii-digit (λ n ds big front. ascii-append ds _ front (ascii-digit (n % 10) (omega arith))) n h

digits-decimal : (n : ℕ) → n < 2 ^ 64 → (list_all is_ascii_digit (decimal n) ≡ true) × (digits_value 10 (decimal n) ≡ n)
digits-decimal n h =
    let own = numerals_by_value _ tells_all_ascii_digits in
    (same_test (decimal n) ∙ digits_decimal own n h, digits_value-decimal own n h)

pub digits_number-decimal : (n : ℕ) → n < 2 ^ 64 → digits_number (decimal n) ≡ Some n
unfolding digits_number
digits_number-decimal n h =
    let d = digits-decimal n h in
    rw (d.0, d.1, lt-ltb 0 _ (decimal_nonempty n h), lt-ltb n (2 ^ 64) h) refl

pub given_unsigned : (n : ℕ) → n < 2 ^ 64 → IsGiven (number (unsigned n)) 0
unfolding AreSound
given_unsigned n h = record {
  value = ap (option_map number) (number_of-decimal n h);
  tokens = (record { printable = IsNumber-decimal n h; whole = rw (digits_number-decimal n h) refl; utf8 = IsUtf8-are_ascii _ (ascii-decimal n h) }, tt);
  depth = omega arith;
}

negative-is : (n : ℕ) → suc n ≤ 2 ^ 63 → is_negative (45 ∷ decimal (suc n)) ≡ true
unfolding is_negative
negative-is n h =
    let d = digits-decimal (suc n) (omega arith) in
    rw (d.0, d.1, lt-ltb 0 (suc n) (omega arith), le-leb (suc n) (2 ^ 63) h) refl

minus-is_no_digits : (n : ℕ) → digits_number (45 ∷ decimal n) ≡ None
unfolding digits_number
minus-is_no_digits n = refl

pub given_negative : (n : ℕ) → n < 2 ^ 31 → IsGiven (number (negative (negsuc n))) 0
unfolding AreSound
given_negative n h = record {
  value = ap (option_map number) (number_of-negative n (omega arith));
  tokens = (
    record {
      printable = IsNumber-signed_decimal (negsuc n) (omega arith);
      whole = rw (minus-is_no_digits (suc n), negative-is n (omega arith)) refl;
      utf8 = IsUtf8-are_ascii _ (ascii-decimal (suc n) (omega arith));
    },
    tt,
  );
  depth = omega arith;
}

-- ---- arrays

given_items : (ds : List Data) (k : ℕ) → AllByRecursion (λ d. IsGiven d k) ds
    → (of_items (items_outline (items_of ds)) ≡ Some (items_of ds)) × AreSound (tree.items_tokens (items_outline (items_of ds))) × (tree.items_depth (items_outline (items_of ds)) ≤ k)
unfolding AreSound
given_items [] k h = (refl, (record { printable = tt; whole = refl; utf8 = IsUtf8-are_ascii _ refl }, tt), omega arith)
given_items (d ∷ ds) k h =
    let rest = given_items ds k h.1 in
    (rw (h.0.value, rest.0) refl, AreSound-append _ _ h.0.tokens rest.1, omega (arith, h.0.depth, rest.2))

pub given_array : (ds : List Data) (k : ℕ) → AllByRecursion (λ d. IsGiven d k) ds → IsGiven (array (items_of ds)) (suc k)
unfolding AreSound
given_array ds k h =
    let g = given_items ds k h in
    record {
      value = ap (option_map array) g.0;
      tokens = (record { printable = tt; whole = refl; utf8 = IsUtf8-are_ascii _ refl }, g.1);
      depth = omega (arith, g.2);
    }

-- ---- the tokens of an object

pub begun : (ts : List Token) → AreSound ts → AreSound (Token.begin_object ∷ ts)
unfolding AreSound
begun ts h = (record { printable = tt; whole = refl; utf8 = IsUtf8-are_ascii _ refl }, h)

pub ended : AreSound (Token.end_object ∷ [])
unfolding AreSound
ended = (record { printable = tt; whole = refl; utf8 = IsUtf8-are_ascii _ refl }, tt)

pub membered : (k : List ℕ) (ts us : List Token) → are_ascii k ≡ true → AreSound ts → AreSound us → AreSound (Token.key k ∷ (ts ++ us))
unfolding AreSound
membered k ts us ascii h more = (record { printable = tt; whole = refl; utf8 = IsUtf8-key k (IsUtf8-are_ascii k ascii) }, AreSound-append ts us h more)
