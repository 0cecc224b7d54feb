-- The numbers of the enums.
use Rattle.std.specs.Prelude.{◌≡◌, ℤ, pos, Result, Ok, Err}
use Rattle.tink_proto.specs.declared.enums.KeyStatusType.{KeyStatusType}
use Rattle.tink_proto.specs.declared.enums.KeyStatusType.TheVariants.{UnknownStatus, Enabled, Disabled, Destroyed}
use Rattle.tink_proto.specs.declared.enums.OutputPrefixType.{OutputPrefixType}
use Rattle.tink_proto.specs.declared.enums.OutputPrefixType.TheVariants.{UnknownPrefix, Tink, Legacy, Raw, Crunchy}
use Rattle.tink_proto.specs.declared.enums.KeyMaterialType.{KeyMaterialType}
use Rattle.tink_proto.specs.declared.enums.KeyMaterialType.TheVariants.{UnknownKeymaterial, Symmetric, AsymmetricPrivate, AsymmetricPublic, Remote}
use Rattle.tink_proto.specs.declared.enums.HashType.{HashType}
use Rattle.tink_proto.specs.declared.enums.HashType.TheVariants.{UnknownHash, Sha1, Sha384, Sha256, Sha512, Sha224}
use Rattle.tink_proto.specs.declared.enums.UnknownValue.{UnknownValue}

abbrev pub status_number : KeyStatusType → ℤ
status_number UnknownStatus = pos 0
status_number Enabled = pos 1
status_number Disabled = pos 2
status_number Destroyed = pos 3

abbrev pub prefix_number : OutputPrefixType → ℤ
prefix_number UnknownPrefix = pos 0
prefix_number Tink = pos 1
prefix_number Legacy = pos 2
prefix_number Raw = pos 3
prefix_number Crunchy = pos 4

abbrev pub material_number : KeyMaterialType → ℤ
material_number UnknownKeymaterial = pos 0
material_number Symmetric = pos 1
material_number AsymmetricPrivate = pos 2
material_number AsymmetricPublic = pos 3
material_number Remote = pos 4

abbrev pub hash_number : HashType → ℤ
hash_number UnknownHash = pos 0
hash_number Sha1 = pos 1
hash_number Sha384 = pos 2
hash_number Sha256 = pos 3
hash_number Sha512 = pos 4
hash_number Sha224 = pos 5

-- the value that has the number, and an error exactly where none has it
abbrev pub IsNumbered : {E : Type 0} → (E → ℤ) → ℤ → Result E UnknownValue → Type 0
IsNumbered number n (Ok e) = number e ≡ n
IsNumbered {E} number n (Err _) = (e : E) → number e ≡ n → ⊥
