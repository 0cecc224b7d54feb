-- What a message reads from its fields, kind by kind, and the bytes of a message.
use Rattle.std.specs.Prelude.{ℕ, ◌%◌, ◌^◌, List, [], ◌∷◌, ◌++◌, Option, Some, None, nat_eq, if◌then◌else◌, ℤ}
use Rattle.std.specs.Int.{cast_signed, w32}
use Rattle.std.specs.Str.{is_utf8}
use Rattle.wire_format.specs.Grammar.{Content, Field}
use Rattle.wire_format.specs.Grammar.Content.{Varint, Eight, Body, Four}
use Rattle.wire_format.specs.Reading.{◌>>=◌, fields_of}
use Rattle.wire_format.specs.Writing.{spelling}

-- what stands at a number, in order
unfoldable pub contents : ℕ → List Field → List Content
contents n [] = []
contents n (f ∷ fs) = if nat_eq f.number n then f.content ∷ contents n fs else contents n fs

-- each of them read; one that is refused refuses all
unfoldable pub each : {A : Type 0} → (Content → Option A) → List Content → Option (List A)
each read [] = Some []
each read (c ∷ cs) = read c >>= λ x. each read cs >>= λ xs. Some (x ∷ xs)

unfoldable pub last_or : {A : Type 0} → A → List A → A
last_or a [] = a
last_or a (x ∷ xs) = last_or x xs

-- One content as a value. It is refused where its type is another one than the field's.

-- a number of 32 bits: the low 32 of a varint
abbrev pub as_number : Content → Option ℕ
as_number (Varint n) = Some (n % 2 ^ 32)
as_number (Eight b) = None
as_number (Body b) = None
as_number (Four b) = None

-- an enum's number: the low 32 bits as a signed number
abbrev pub as_enum : Content → Option ℤ
as_enum (Varint n) = Some (cast_signed w32 (n % 2 ^ 32))
as_enum (Eight b) = None
as_enum (Body b) = None
as_enum (Four b) = None

abbrev pub as_bytes : Content → Option (List ℕ)
as_bytes (Varint n) = None
as_bytes (Eight b) = None
as_bytes (Body b) = Some b
as_bytes (Four b) = None

-- bytes that are UTF-8
abbrev pub as_text : Content → Option (List ℕ)
as_text c = as_bytes c >>= λ b. if is_utf8 b then Some b else None

-- the fields that a body spells, which has to be in the grammar by itself
abbrev pub as_fields : Content → Option (List Field)
as_fields c = as_bytes c >>= λ b. fields_of b

-- All contents of one number as a value.

-- a scalar, bytes or a text: the last one, or the default
abbrev pub scalar : {A : Type 0} → A → (Content → Option A) → List Content → Option A
scalar default read cs = each read cs >>= λ xs. Some (last_or default xs)

-- a repeated message: all of them, in order
abbrev pub repeated : {M : Type 0} → (List Field → Option M) → List Content → Option (List M)
repeated message cs = each (λ c. as_fields c >>= message) cs

unfoldable pub all_fields : List (List Field) → List Field
all_fields [] = []
all_fields (b ∷ bs) = b ++ all_fields bs

abbrev pub joined : {M : Type 0} → (List Field → Option M) → List (List Field) → Option (Option M)
joined message [] = Some None
joined message (b ∷ bs) = message (all_fields (b ∷ bs)) >>= λ m. Some (Some m)

-- a single message: read from the joined fields of all its bodies, and absent where there is none
abbrev pub single : {M : Type 0} → (List Field → Option M) → List Content → Option (Option M)
single message cs = each as_fields cs >>= joined message

-- the message that the bytes spell, if they spell one
abbrev pub decoded : {M : Type 0} → (List Field → Option M) → List ℕ → Option M
decoded message bytes = fields_of bytes >>= message

-- the bytes of a message
abbrev pub encoded : {M : Type 0} → (M → List Field) → M → List ℕ
encoded write m = spelling (write m)
