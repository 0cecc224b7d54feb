-- The kinds of fields: a number of 32 bits, an enum, bytes, text, a repeated message and a single message.
use Rattle.std.specs.Prelude.{ℕ, List, [], map, Option, None, ℤ, pos}
use Rattle.std.specs.Int.{cast_unsigned, w64}
use Rattle.std.specs.Str.{is_utf8}
use Rattle.wire_format.specs.Message.{as_number, as_enum, as_bytes, as_text, scalar, repeated, single}
use Rattle.wire_format.specs.Columns.{Kind, Column}
use Rattle.wire_format.specs.ColumnLaws.{and_right}
use Rattle.wire_format.specs.Values.{replaced, unless_zero, fits_number, fits_enum, unless_empty, fits_bytes, fits_text, pushed, body, fit_bodies, merged, option_body, fits_option}
use Rattle.wire_format.specs.ValueLaws.{scalar-folded, number_back, number_sound, enum_back, enum_sound, bytes_back, bytes_sound, text_back, repeated_reads, repeated_back, repeated_sound, single_reads, single_back, single_sound}

abbrev pub number : Kind ℕ
number = record {
  start = 0;
  add = replaced as_number;
  refused = λ a. a;
  read = scalar 0 as_number;
  write = unless_zero;
  fits = fits_number;
  reads = scalar-folded as_number 0;
  back = number_back;
  sound = number_sound;
}

abbrev pub enum : Kind ℤ
enum = record {
  start = pos 0;
  add = replaced as_enum;
  refused = λ a. a;
  read = scalar (pos 0) as_enum;
  write = λ z. unless_zero (cast_unsigned w64 z);
  fits = fits_enum;
  reads = scalar-folded as_enum (pos 0);
  back = enum_back;
  sound = enum_sound;
}

abbrev pub bytes : Kind (List ℕ)
bytes = record {
  start = [];
  add = replaced as_bytes;
  refused = λ a. a;
  read = scalar [] as_bytes;
  write = unless_empty;
  fits = fits_bytes;
  reads = scalar-folded as_bytes [];
  back = bytes_back;
  sound = bytes_sound;
}

abbrev pub text : Kind (List ℕ)
text = record {
  start = [];
  add = replaced as_text;
  refused = λ a. a;
  read = scalar [] as_text;
  write = unless_empty;
  fits = fits_text;
  reads = scalar-folded as_text [];
  back = text_back;
  sound = λ b h. bytes_sound b (and_right (is_utf8 b) (fits_bytes b) h);
}

abbrev pub list_of : {M : Type 0} → Column M → Kind (List M)
list_of c = record {
  start = [];
  add = pushed c.read;
  refused = λ a. a;
  read = repeated c.read;
  write = map (body c);
  fits = fit_bodies c;
  reads = repeated_reads c.read;
  back = repeated_back c [];
  sound = repeated_sound c;
}

abbrev pub option_of : {M : Type 0} → Column M → Kind (Option M)
option_of c = record {
  start = None;
  add = merged c.step c.start;
  refused = λ _. None;
  read = single c.read;
  write = option_body c;
  fits = fits_option c;
  reads = single_reads c;
  back = single_back c;
  sound = single_sound c;
}
