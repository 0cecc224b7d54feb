-- What the data of every manager meets.
use Rattle.std.specs.Prelude.{pos, int_le, Bool, IsTrue, ◌&&◌}
use Rattle.tink_proto.specs.declared.messages.keys.KeyData.{KeyData}

-- a material from 0 to 4
abbrev pub has_known_material : KeyData → Bool
has_known_material d = int_le (pos 0) d.key_material_type && int_le d.key_material_type (pos 4)

abbrev pub IsOfKnownMaterial : KeyData → Type 0
IsOfKnownMaterial d = IsTrue (has_known_material d)
