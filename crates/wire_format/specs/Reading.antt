-- Reading fields from left to right. GrammarLaws: what is read is what the grammar says.
use Rattle.std.specs.Prelude.{ℕ, zero, suc, ◌+◌, ◌-◌, ◌*◌, ◌/◌, ◌%◌, ◌^◌, List, [], ◌∷◌, length, take, drop, Option, Some, None, nat_lt, nat_eq, if◌then◌else◌}
use Rattle.wire_format.specs.Grammar.{Content, Field}
use Rattle.wire_format.specs.Grammar.Content.{Varint, Eight, Body, Four}

infixl 10 ◌>>=◌
abbrev pub ◌>>=◌ : {A B : Type 0} → Option A → (A → Option B) → Option B
None >>= f = None
(Some x) >>= f = f x

-- a byte of 128 or more, and the number of the bytes after it, and what follows
abbrev pub with_low : ℕ → Option (ℕ × List ℕ) → Option (ℕ × List ℕ)
with_low b None = None
with_low b (Some x) = if nat_lt (b - 128 + 128 * x.0) (2 ^ 64) then Some (b - 128 + 128 * x.0, x.1) else None

-- the number that at most k bytes in front stand for, and what follows
unfoldable pub varint_in : ℕ → List ℕ → Option (ℕ × List ℕ)
varint_in zero bytes = None
varint_in (suc k) [] = None
varint_in (suc k) (b ∷ bytes) = if nat_lt b 128 then Some (b, bytes) else with_low b (varint_in k bytes)

abbrev pub varint_at : List ℕ → Option (ℕ × List ℕ)
varint_at bytes = varint_in 10 bytes

-- so many bytes, and what follows
unfoldable pub bytes_at : ℕ → List ℕ → Option (List ℕ × List ℕ)
bytes_at n bytes = if nat_lt (length bytes) n then None else Some (take n bytes, drop n bytes)

-- the content of a type
unfoldable pub content_at : ℕ → List ℕ → Option (Content × List ℕ)
content_at type bytes =
    if nat_eq type 0 then (varint_at bytes >>= λ x. Some (Varint x.0, x.1))
    else if nat_eq type 1 then (bytes_at 8 bytes >>= λ x. Some (Eight x.0, x.1))
    else if nat_eq type 2 then (varint_at bytes >>= λ n. bytes_at n.0 n.1 >>= λ x. Some (Body x.0, x.1))
    else if nat_eq type 5 then (bytes_at 4 bytes >>= λ x. Some (Four x.0, x.1))
    else None

-- the first field, and what follows
unfoldable pub field_at : List ℕ → Option (Field × List ℕ)
field_at bytes = do
  key ← varint_at bytes
  if nat_lt key.0 8 then None else if nat_lt key.0 (2 ^ 32) then (content_at (key.0 % 8) key.1 >>= λ x. Some (record { number = key.0 / 8; content = x.0 }, x.1)) else None

-- at most n fields, which are all of the bytes
unfoldable pub fields_in : ℕ → List ℕ → Option (List Field)
fields_in n [] = Some []
fields_in zero (b ∷ bytes) = None
fields_in (suc n) (b ∷ bytes) = field_at (b ∷ bytes) >>= λ x. fields_in n x.1 >>= λ fs. Some (x.0 ∷ fs)

-- the fields that the bytes spell
unfoldable pub fields_of : List ℕ → Option (List Field)
fields_of bytes = fields_in (length bytes) bytes
