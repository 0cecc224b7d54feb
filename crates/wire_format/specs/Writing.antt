-- Writing fields, each varint as short as it can be. GrammarLaws: what is written spells its fields.
use Rattle.std.specs.Prelude.{◌≡◌, ℕ, zero, suc, ◌+◌, ◌*◌, ◌/◌, ◌%◌, ◌^◌, ◌<◌, List, [], ◌∷◌, ◌++◌, length, Bool, true, nat_lt, nat_eq, if◌then◌else◌}
use Rattle.std.specs.List.{flat_map}
use Rattle.wire_format.specs.Grammar.{Content, Field, type_of}
use Rattle.wire_format.specs.Grammar.Content.{Varint, Eight, Body, Four}

-- the shortest varint of a number below 128^k
unfoldable pub varint_within : ℕ → ℕ → List ℕ
varint_within zero v = []
varint_within (suc k) v = if nat_lt v 128 then v ∷ [] else (v % 128 + 128) ∷ varint_within k (v / 128)

unfoldable pub varint : ℕ → List ℕ
varint v = varint_within 10 v

abbrev pub content : Content → List ℕ
content (Varint n) = varint n
content (Eight b) = b
content (Body b) = varint (length b) ++ b
content (Four b) = b

-- a field as it is written
unfoldable pub field : Field → List ℕ
field f = varint (f.number * 8 + type_of f.content) ++ content f.content

unfoldable pub spelling : List Field → List ℕ
spelling fs = flat_map field fs

-- what fits a field
abbrev pub is_small : Content → Bool
is_small (Varint n) = nat_lt n (2 ^ 64)
is_small (Eight b) = nat_eq (length b) 8
is_small (Body b) = nat_lt (length b) (2 ^ 64)
is_small (Four b) = nat_eq (length b) 4

pub record IsWritable (f : Field) : Type 0 where
  pub numbered : 0 < f.number
  pub small : f.number < 2 ^ 29
  pub content : is_small f.content ≡ true
