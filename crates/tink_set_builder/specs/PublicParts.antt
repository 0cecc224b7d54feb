-- The public parts of private keys.
use Rattle.std.specs.Prelude.{ℕ, List, Bool, Option, Some, None, Result, Ok, Err, if◌then◌else◌}
use Rattle.std.specs.Ordering.{int_eq}
use Rattle.tink_io.specs.declared.error.Kind.{Kind}
use Rattle.tink_io.specs.declared.error.Kind.TheVariants.{InvalidKeyset, NotPrivate, NoPrivateKeys, UnsupportedKeyType}
use Rattle.tink_proto.specs.declared.enums.KeyMaterialType.TheVariants.{AsymmetricPrivate}
use Rattle.tink_proto.specs.declared.messages.keys.Key.{Key}
use Rattle.tink_proto.specs.declared.messages.keys.KeyData.{KeyData}
use Rattle.tink_proto.specs.Enums.{material_number}
use Rattle.tink_registry.specs.Listed.{manager_of}

module _ {M : Type 0} (url : M → List ℕ) where
  -- the public part that a manager gives of a key's value
  abbrev pub public_value : (M → Bool) → (M → List ℕ → Result KeyData Kind) → List ℕ → Option M → Result KeyData Kind
  public_value has_public gives value None = Err UnsupportedKeyType
  public_value has_public gives value (Some m) = if has_public m then gives m value else Err NoPrivateKeys

  -- the public part of a key's data
  abbrev pub public_data : (M → Bool) → (M → List ℕ → Result KeyData Kind) → List M → Option KeyData → Result KeyData Kind
  public_data has_public gives managers None = Err InvalidKeyset
  public_data has_public gives managers (Some d) =
      if int_eq d.key_material_type (material_number AsymmetricPrivate)
      then public_value has_public gives d.value (manager_of url d.type_url managers)
      else Err NotPrivate

-- a key with other data
abbrev pub with_data : Key → Result KeyData Kind → Result Key Kind
with_data k (Ok d) = Ok (record k { key_data = Some d })
with_data k (Err kind) = Err kind
