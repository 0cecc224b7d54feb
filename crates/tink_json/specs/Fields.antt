-- What values of JSON are read as fields (the JSON mapping of Protocol Buffers).
use Rattle.std.specs.Prelude.{ℕ, ◌^◌, nat_lt, ℤ, pos, negsuc, List, [], ◌∷◌, if◌then◌else◌, Option, Some, None, is_some, option_and_then, option_map}
use Rattle.std.specs.Option.{option_or}
use Rattle.wire_format.specs.Reading.{◌>>=◌}
use Rattle.base64.specs.Engines.{standard}
use Rattle.base64.specs.GeneralPurpose.{decoded_of}
use Rattle.serde_json.specs.Data.{Data, Items, no_items, item}
use Rattle.serde_json.specs.Find.{get, as_null, as_number, as_str, as_array, as_object, as_u64, as_i64}
use Rattle.tink_json.specs.Names.{Names, numbered}
use Rattle.tink_json.specs.Whole.{digits_number}

-- the value is an object
abbrev pub an_object : Data → Option (Unit {0})
an_object d = option_map (λ _. tt) (as_object d)

-- a member, by its name in lower camel case, and else by that in snake case; absent where it is null
abbrev pub member_of : List ℕ → List ℕ → Data → Option Data
member_of camel snake d = option_and_then (λ m. if is_some (as_null m) then None else Some m) (option_or (get camel d) (get snake d))

-- what a member is read as, and what stands for an absent one
abbrev pub or_default : {T : Type 0} → T → (Data → Option T) → Option Data → Option T
or_default default form None = Some default
or_default default form (Some d) = form d

-- bytes: base 64 with padding (RFC 4648, section 4)
abbrev pub bytes : Data → Option (List ℕ)
bytes d = option_and_then (decoded_of standard) (as_str d)

abbrev pub to_u32 : ℕ → Option ℕ
to_u32 n = if nat_lt n (2 ^ 32) then Some n else None

-- the number of a text of decimal digits, where it fits 32 bits
abbrev pub number_text : List ℕ → Option ℕ
number_text s = option_and_then to_u32 (digits_number s)

-- a number of 32 bits, as a whole number or its digits
abbrev pub number : Data → Option ℕ
number d = option_or (option_and_then to_u32 (option_and_then as_u64 (as_number d))) (option_and_then number_text (as_str d))

abbrev pub to_i32 : ℤ → Option ℤ
to_i32 (pos n) = if nat_lt n (2 ^ 31) then Some (pos n) else None
to_i32 (negsuc n) = if nat_lt n (2 ^ 31) then Some (negsuc n) else None

-- an enum, as a whole number or a name
abbrev pub enum : Names → Data → Option ℤ
enum names d = option_or (option_and_then to_i32 (option_and_then as_i64 (as_number d))) (option_and_then (numbered names) (as_str d))

-- a message that may be absent
abbrev pub maybe : {T : Type 0} → (Data → Option T) → Data → Option (Option T)
maybe form d = option_map Some (form d)

-- the items of a list
abbrev pub items : {T : Type 0} → (Data → Option T) → Items → Option (List T)
items form no_items = Some []
items form (item d ds) = do
  x ← form d
  xs ← items form ds
  Some (x ∷ xs)

abbrev pub list : {T : Type 0} → (Data → Option T) → Data → Option (List T)
list form d = option_and_then (items form) (as_array d)

-- fields: what stands in a member of an object, by its two names

unfoldable pub text_field : List ℕ → List ℕ → Data → Option (List ℕ)
text_field camel snake d = or_default [] as_str (member_of camel snake d)

unfoldable pub bytes_field : List ℕ → List ℕ → Data → Option (List ℕ)
bytes_field camel snake d = or_default [] bytes (member_of camel snake d)

unfoldable pub number_field : List ℕ → List ℕ → Data → Option ℕ
number_field camel snake d = or_default 0 number (member_of camel snake d)

unfoldable pub enum_field : Names → List ℕ → List ℕ → Data → Option ℤ
enum_field names camel snake d = or_default (pos 0) (enum names) (member_of camel snake d)

unfoldable pub message_field : {T : Type 0} → (Data → Option T) → List ℕ → List ℕ → Data → Option (Option T)
message_field form camel snake d = or_default None (maybe form) (member_of camel snake d)

unfoldable pub list_field : {T : Type 0} → (Data → Option T) → List ℕ → List ℕ → Data → Option (List T)
list_field form camel snake d = or_default [] (list form) (member_of camel snake d)
