-- How the fields of one number, or of several, are read and written, with the laws that tie the two.
use Rattle.std.specs.Prelude.{◌≡◌, ℕ, ◌<◌, ◌≤◌, ◌^◌, List, [], ◌∷◌, Option, Some, Bool, true, nat_eq, nat_lt, ◌&&◌, if◌then◌else◌}
use Rattle.std.specs.List.{AllByRecursion}
use Rattle.wire_format.specs.Grammar.{Content, Field}
use Rattle.wire_format.specs.Reading.{◌>>=◌, fields_of}
use Rattle.wire_format.specs.Writing.{is_small, IsWritable}

-- one step for each of a list
unfoldable pub folded : {S X : Type 0} → (S → X → Option S) → S → List X → Option S
folded step s [] = Some s
folded step s (x ∷ xs) = step s x >>= λ t. folded step t xs

pub record IsWithin (low high : ℕ) (f : Field) : Type 0 where
  pub low_most : low ≤ f.number
  pub high_most : f.number ≤ high

-- numbers that never fall, from a number on
abbrev pub IsRising : ℕ → List Field → Type 0
IsRising n [] = Unit {0}
IsRising n (f ∷ fs) = (n ≤ f.number) × IsRising f.number fs

-- How what stands at one number is read and written.
pub record Kind (A : Type 0) : Type 0 where
  -- the value where nothing stands there
  pub start : A
  -- the value after one more content
  pub add : A → Content → Option A
  -- what stands once a content was refused
  pub refused : A → A
  -- the value of all contents, in the words of Message
  pub read : List Content → Option A
  -- the contents that are written
  pub write : A → List Content
  -- a value that can be written: its numbers fit, its texts are UTF-8
  pub fits : A → Bool
  -- content by content is the same as all at once
  pub reads : (cs : List Content) → folded add start cs ≡ read cs
  -- what is written is read as the same value
  pub back : (a : A) → fits a ≡ true → folded add start (write a) ≡ Some a
  pub sound : (a : A) → fits a ≡ true → AllByRecursion (λ c. is_small c ≡ true) (write a)

-- The same for the fields from one number to another. Other fields change nothing.
pub record Column (A : Type 0) : Type 0 where
  pub low : ℕ
  pub high : ℕ
  pub start : A
  pub step : A → Field → Option A
  pub refused : A → Field → A
  pub read : List Field → Option A
  pub write : A → List Field
  pub fits : A → Bool
  pub ordered : low ≤ high
  pub reads : (fs : List Field) → folded step start fs ≡ read fs
  pub below : (a : A) (f : Field) → f.number < low → step a f ≡ Some a
  pub above : (a : A) (f : Field) → high < f.number → step a f ≡ Some a
  pub within : (a : A) → AllByRecursion (IsWithin low high) (write a)
  pub rising : (a : A) → IsRising low (write a)
  pub back : (a : A) → fits a ≡ true → folded step start (write a) ≡ Some a
  pub sound : (a : A) → fits a ≡ true → AllByRecursion IsWritable (write a)

-- one more field of number n
abbrev pub kept : {A : Type 0} → ℕ → (A → Content → Option A) → A → Field → Option A
kept n add a f = if nat_eq f.number n then add a f.content else Some a

-- what stands once a field of number n was refused
abbrev pub kept_refused : {A : Type 0} → ℕ → (A → A) → A → Field → A
kept_refused n refused a f = if nat_eq f.number n then refused a else a

-- a content at a number
abbrev pub at : ℕ → Content → Field
at n c = record { number = n; content = c }

-- one more field, for two columns
abbrev pub both : {A B : Type 0} → (A → Field → Option A) → (B → Field → Option B) → A × B → Field → Option (A × B)
both s t p f = s p.0 f >>= λ x. t p.1 f >>= λ y. Some (x, y)

-- one more field, for a message that is seen as the values of its columns
abbrev pub seen : {T M : Type 0} → (T → Field → Option T) → (T → M) → (M → T) → M → Field → Option M
seen step of to m f = step (to m) f >>= λ t. Some (of t)

-- the fields that the bytes spell, read into a value
abbrev pub read_into : {S : Type 0} → (S → Field → Option S) → S → List ℕ → Option S
read_into step s bytes = fields_of bytes >>= λ fs. folded step s fs

-- numbers are from 1 to 2^29 - 1
abbrev pub is_number : ℕ → Bool
is_number n = nat_lt 0 n && nat_lt n (2 ^ 29)
