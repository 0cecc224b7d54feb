-- Words, and tables of names.
use Rattle.std.specs.Prelude.{map, drop, position, Vec, ◌==◌, ◌&&◌, ℕ, List, [], ◌∷◌, Bool, false, Option, Some, None, if◌then◌else◌, bytes_eq}
use Rattle.std.specs.List.{list_all}
use Rattle.std.specs.Char.{is_ascii_digit}
use Rattle.std.specs.Borrow.{Bor}

-- whether a word is this one
abbrev pub is : List ℕ → List ℕ → Bool
is word text = bytes_eq word text

-- the value of the first row with a name
abbrev pub value_named : {A : Type 0} → List (Bor (List ℕ) × A) → List ℕ → Option A
value_named [] name = None
value_named (row ∷ rows) name = if is name row.0.now then Some row.1 else value_named rows name

abbrev pub named_in : {A : Type 0} → List (List ℕ × A) → List ℕ → Option A
named_in [] name = None
named_in (row ∷ rows) name = if is name row.0 then Some row.1 else named_in rows name

-- a word that begins with a dash, and is more
abbrev pub is_option : List ℕ → Bool
is_option (b ∷ c ∷ bs) = b == 45
is_option _ = false

-- a word that begins with two dashes
abbrev pub is_long : List ℕ → Bool
is_long (b ∷ c ∷ bs) = (b == 45) && (c == 45)
is_long _ = false

-- a dash and one or more decimal digits
abbrev pub is_negative : List ℕ → Bool
is_negative word = is_option word && list_all is_ascii_digit (drop 1 word)

-- where the first `=` stands
abbrev pub equals_at : List ℕ → Option ℕ
equals_at word = position (λ b. b == 61) word

-- the bytes of each word
abbrev pub byte_words : {A : Type 0} → List (Vec ℕ A) → List (List ℕ)
byte_words words = map (λ w. w.items) words
