-- The first entry of a set that accepts an input.
use Rattle.std.specs.Prelude.{◌≡◌, ℕ, List, [], ◌∷◌, Option, Some, None, Result, Ok, Err, if◌then◌else◌, length, nat_lt, take, drop, filter}
use Rattle.std.specs.Str.{bytes_eq}
use Rattle.tink_io.specs.declared.error.Kind.{Kind}
use Rattle.tink_sets.specs.declared.entry.TypedEntry.{TypedEntry}

-- the value of the first of a list that gives one
abbrev pub first_value : {E A : Type 0} → (E → Result A Kind) → List E → Option A
first_value f [] = None
first_value f (x ∷ xs) = elim (f x) [ Ok v ↦ Some v | Err _ ↦ first_value f xs ]

-- the first value that is there
abbrev pub or_else : {A : Type 0} → Option A → Option A → Option A
or_else None later = later
or_else (Some v) later = Some v

-- a value, or a refusal
abbrev pub value_or : {A : Type 0} → Kind → Option A → Result A Kind
value_or none None = Err none
value_or none (Some v) = Ok v

-- the entries of a list that have a prefix, in its order
abbrev pub entries_of : {Q : Type 0} → List (TypedEntry Q) → List ℕ → List (TypedEntry Q)
entries_of es prefix = filter (λ e. bytes_eq e.prefix prefix) es

-- `answer` is what an entry answers on an input, `group` the entries of a prefix.
module _ {Q A : Type 0} (answer : TypedEntry Q → List ℕ → Result A Kind) (group : List ℕ → List (TypedEntry Q)) where
  -- what the entries of the five-byte prefix give for the rest, where the input is longer than that
  abbrev pub prefixed_value : List ℕ → Option A
  prefixed_value input =
      if nat_lt 5 (length input) then first_value (λ e. answer e (drop 5 input)) (group (take 5 input)) else None

  -- what the entries without a prefix give for the whole input
  abbrev pub raw_value : List ℕ → Option A
  raw_value input = first_value (λ e. answer e input) (group [])

  -- the first that accepts: entries of the prefix on the rest, then those without one on the whole; `none` where none
  -- does
  abbrev pub accepted : Kind → List ℕ → Result A Kind
  accepted none input = value_or none (or_else (prefixed_value input) (raw_value input))

  -- the same for inputs that have a byte behind a prefix; any other is refused
  abbrev pub accepted_behind_prefix : Kind → List ℕ → Result A Kind
  accepted_behind_prefix none input = if nat_lt 5 (length input) then accepted none input else Err none

-- An entry accepts an input as this value, where it accepts it at all: behind its prefix, or whole where it has none.
pub record AcceptsNoOther {Q A : Type 0} (answer : TypedEntry Q → List ℕ → Result A Kind) (value : A) (input : List ℕ) (e : TypedEntry Q) : Type 0 where
  pub behind : e.prefix ≡ take 5 input → (other : A) → answer e (drop 5 input) ≡ Ok other → other ≡ value
  pub whole : e.prefix ≡ [] → (other : A) → answer e input ≡ Ok other → other ≡ value
