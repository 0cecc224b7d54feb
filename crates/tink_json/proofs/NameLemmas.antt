-- Enums that are read from what they are written as.
use Rattle.std.proofs.Common.{◌≡◌, ℕ, ◌^◌, ◌<◌, ℤ, pos, negsuc, List, [], ◌∷◌, Bool, true, false, cond, ◌&&◌, nat_lt, bytes_eq, Option, Some, None, option_and_then, refl, sym, ap, ◌∙◌, subst, arith, lt-ltb, ltb-true}
use Rattle.std.specs.Ordering.{int_eq}
use Rattle.std.specs.Str.{IsUtf8}
use Rattle.std.specs.Option.{option_or}
use Rattle.std.specs.Prelude.{is_some}
use Rattle.json.proofs.Printed.Utf8.{are_ascii, IsUtf8-are_ascii}
use Rattle.serde_json.specs.Data.{Data, number, string}
use Rattle.serde_json.specs.Find.{as_null, as_number, as_str, as_i64, of_integer}
use Rattle.tink_json.specs.Fields.{enum, to_i32}
use Rattle.tink_json.specs.Names.{Names, named, numbered, statuses, prefixes, materials}
use Rattle.tink_json.specs.Written.{enum_value, name_or}
use Rattle.tink_json.proofs.ValueLemmas.{IsGiven, given_string, given_unsigned, given_negative}
use Rattle.wire_format.specs.Values.{fits_enum}
use Rattle.tink_json.proofs.IntegerLemmas.{int_eq-is}

-- names in ASCII, each of which has the number beside it in the whole table
abbrev AreNames : Names → Names → Type 0
AreNames all [] = Unit {0}
AreNames all (n ∷ names) = (are_ascii n.0 ≡ true) × (numbered all n.0 ≡ Some n.1) × AreNames all names

-- the name of a number has this number
named-numbered : (all names : Names) (n : ℤ) (name : List ℕ) → AreNames all names → named names n ≡ Some name → (are_ascii name ≡ true) × (numbered all name ≡ Some n)
named-numbered all [] n name h e = absurd (cc)
named-numbered all (r ∷ names) n name h e = go (int_eq n r.1) refl (λ found. named-numbered all names n name h.2 found)
  where
    go : (b : Bool) → int_eq n r.1 ≡ b → (named names n ≡ Some name → (are_ascii name ≡ true) × (numbered all name ≡ Some n))
        → (are_ascii name ≡ true) × (numbered all name ≡ Some n)
    go true same later =
        let first : Some r.0 ≡ Some name = sym (ap (λ b. cond b (Some r.0) (named names n)) same) ∙ e in
        let is : r.0 ≡ name = cc in
        (subst (λ s. are_ascii s ≡ true) is h.0, subst (λ s. numbered all s ≡ Some n) is (h.1 ∙ ap Some (sym (int_eq-is n r.1 same))))
    go false other later = later (sym (ap (λ b. cond b (Some r.0) (named names n)) other) ∙ e)

-- what is told of an enum that is written
pub record IsEnum (names : Names) (n : ℤ) (d : Data) : Type 0 where
  pub given : IsGiven d 0
  pub there : is_some (as_null d) ≡ false
  pub read : enum names d ≡ Some n

enum-number : (names : Names) (n : ℤ) → fits_enum n ≡ true → IsEnum names n (number (of_integer n))
enum-number names (pos n) fits =
    let small : n < 2 ^ 31 = ltb-true _ _ fits in
    record { given = given_unsigned n (omega arith); there = refl; read = rw (lt-ltb n (2 ^ 63) (omega arith), lt-ltb n (2 ^ 31) small) refl }
enum-number names (negsuc n) fits =
    let small : n < 2 ^ 31 = ltb-true _ _ fits in
    record { given = given_negative n small; there = refl; read = rw (lt-ltb n (2 ^ 31) small) refl }

enum-of : (names : Names) (n : ℤ) (o : Option (List ℕ)) → AreNames names names → named names n ≡ o → fits_enum n ≡ true → IsEnum names n (name_or n o)
enum-of names n None h e fits = enum-number names n fits
enum-of names n (Some name) h e fits =
    let is = named-numbered names names n name h e in
    record { given = given_string name (IsUtf8-are_ascii name is.0); there = refl; read = is.1 }

enum-is : (names : Names) (n : ℤ) → AreNames names names → fits_enum n ≡ true → IsEnum names n (enum_value names n)
enum-is names n h fits = enum-of names n (named names n) h refl fits

pub status-is : (n : ℤ) → fits_enum n ≡ true → IsEnum statuses n (enum_value statuses n)
status-is n fits = enum-is statuses n ((refl, refl, (refl, refl, (refl, refl, (refl, refl, tt))))) fits

pub prefix-is : (n : ℤ) → fits_enum n ≡ true → IsEnum prefixes n (enum_value prefixes n)
prefix-is n fits = enum-is prefixes n ((refl, refl, (refl, refl, (refl, refl, (refl, refl, (refl, refl, tt)))))) fits

pub material-is : (n : ℤ) → fits_enum n ≡ true → IsEnum materials n (enum_value materials n)
material-is n fits = enum-is materials n ((refl, refl, (refl, refl, (refl, refl, (refl, refl, (refl, refl, tt)))))) fits
