-- What stands at one number: how one more content changes it, what is written of it, and what fits.
use Rattle.std.specs.Prelude.{ℕ, ◌^◌, List, [], ◌∷◌, ◌++◌, length, Option, Some, None, Bool, true, nat_eq, nat_lt, ◌&&◌, if◌then◌else◌, ℤ, pos, negsuc}
use Rattle.std.specs.Str.{is_utf8}
use Rattle.wire_format.specs.Grammar.{Content, Field}
use Rattle.wire_format.specs.Grammar.Content.{Varint, Body}
use Rattle.wire_format.specs.Reading.{◌>>=◌}
use Rattle.wire_format.specs.Writing.{spelling}
use Rattle.wire_format.specs.Message.{as_fields}
use Rattle.wire_format.specs.Columns.{Column, folded}

-- the last one stands
abbrev pub replaced : {A : Type 0} → (Content → Option A) → A → Content → Option A
replaced read a c = read c

-- a number, left out where it is 0
abbrev pub unless_zero : ℕ → List Content
unless_zero n = if nat_eq n 0 then [] else Varint n ∷ []

-- a number of 32 bits
abbrev pub fits_number : ℕ → Bool
fits_number n = nat_lt n (2 ^ 32)

-- a signed number of 32 bits
abbrev pub fits_enum : ℤ → Bool
fits_enum (pos n) = nat_lt n (2 ^ 31)
fits_enum (negsuc n) = nat_lt n (2 ^ 31)

-- bytes or a text, left out where there are none
abbrev pub unless_empty : List ℕ → List Content
unless_empty [] = []
unless_empty (b ∷ bs) = Body (b ∷ bs) ∷ []

abbrev pub fits_bytes : List ℕ → Bool
fits_bytes b = nat_lt (length b) (2 ^ 64)

abbrev pub fits_text : List ℕ → Bool
fits_text b = is_utf8 b && fits_bytes b

-- a body as a message
abbrev pub as_message : {M : Type 0} → (List Field → Option M) → Content → Option M
as_message read c = as_fields c >>= read

-- one more message of a list
abbrev pub pushed : {M : Type 0} → (List Field → Option M) → List M → Content → Option (List M)
pushed read ms c = as_message read c >>= λ m. Some (ms ++ m ∷ [])

-- a message's body
abbrev pub body : {M : Type 0} → Column M → M → Content
body c m = Body (spelling (c.write m))

abbrev pub fits_body : {M : Type 0} → Column M → M → Bool
fits_body c m = c.fits m && nat_lt (length (spelling (c.write m))) (2 ^ 64)

-- each message fits
abbrev pub fit_bodies : {M : Type 0} → Column M → List M → Bool
fit_bodies c [] = true
fit_bodies c (m ∷ ms) = fits_body c m && fit_bodies c ms

-- the message that stands there, or the empty one
abbrev pub or_start : {M : Type 0} → M → Option M → M
or_start start None = start
or_start start (Some m) = m

-- one more body goes on with the message that stands there
abbrev pub merged : {M : Type 0} → (M → Field → Option M) → M → Option M → Content → Option (Option M)
merged step start o c = as_fields c >>= λ fs. folded step (or_start start o) fs >>= λ m. Some (Some m)

-- a message that is there is written even where it is empty
abbrev pub option_body : {M : Type 0} → Column M → Option M → List Content
option_body c None = []
option_body c (Some m) = body c m ∷ []

abbrev pub fits_option : {M : Type 0} → Column M → Option M → Bool
fits_option c None = true
fits_option c (Some m) = fits_body c m
