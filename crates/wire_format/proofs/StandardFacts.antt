-- The format's own examples (protobuf.dev, "Encoding") and the edges of a varint, by computing.
use Rattle.std.proofs.Common.{◌≡◌, ◌++◌, ◌^◌, ◌-◌, ◌∷◌, [], replicate, Some, None, refl}
use Rattle.wire_format.specs.Grammar.Content.{Varint, Body}
use Rattle.wire_format.specs.Reading.{varint_in, bytes_at, content_at, field_at, fields_in, fields_of, varint_at}
use Rattle.wire_format.specs.Writing.{varint_within, varint, field, spelling}
use Rattle.wire_format.specs.Columns.{at}

-- number 150 at 1
first_message : fields_of (0x08 ∷ 0x96 ∷ 0x01 ∷ []) ≡ Some (at 1 (Varint 150) ∷ [])
unfolding fields_of fields_in field_at content_at bytes_at varint_in
first_message = refl

-- the text "testing" at 2
second_message : fields_of (0x12 ∷ 0x07 ∷ 0x74 ∷ 0x65 ∷ 0x73 ∷ 0x74 ∷ 0x69 ∷ 0x6e ∷ 0x67 ∷ []) ≡ Some (at 2 (Body (0x74 ∷ 0x65 ∷ 0x73 ∷ 0x74 ∷ 0x69 ∷ 0x6e ∷ 0x67 ∷ [])) ∷ [])
unfolding fields_of fields_in field_at content_at bytes_at varint_in
second_message = refl

first_written : spelling (at 1 (Varint 150) ∷ []) ≡ 0x08 ∷ 0x96 ∷ 0x01 ∷ []
unfolding spelling field varint varint_within
first_written = refl

-- -2 as a number of 64 bits
minus_two : varint (2 ^ 64 - 2) ≡ 0xfe ∷ replicate 8 0xff ++ 0x01 ∷ []
unfolding varint varint_within
minus_two = refl

-- the largest, one above it, and 1 in ten bytes
largest : varint_at (replicate 9 0xff ++ 0x01 ∷ []) ≡ Some (2 ^ 64 - 1, [])
unfolding varint_in
largest = refl

too_large : varint_at (replicate 9 0xff ++ 0x02 ∷ []) ≡ None
unfolding varint_in
too_large = refl

one_in_ten_bytes : varint_at (0x81 ∷ replicate 8 0x80 ++ 0x00 ∷ []) ≡ Some (1, [])
unfolding varint_in
one_in_ten_bytes = refl

eleven_bytes : varint_at (0x81 ∷ replicate 9 0x80 ++ 0x00 ∷ []) ≡ None
unfolding varint_in
eleven_bytes = refl
