-- The types of hashes by their numbers.
use Rattle.std.specs.Prelude.{ℤ, if◌then◌else◌}
use Rattle.std.specs.Ordering.{int_eq}
use Rattle.tink_proto.specs.Enums.{hash_number}
use Rattle.tink_proto.specs.declared.enums.HashType.{HashType}
use Rattle.tink_proto.specs.declared.enums.HashType.TheVariants.{UnknownHash, Sha1, Sha224, Sha256, Sha384, Sha512}

-- the type of a number, the unknown one where no other has it
abbrev pub hash_type_of : ℤ → HashType
hash_type_of n =
    if int_eq n (hash_number Sha1) then Sha1
    else (if int_eq n (hash_number Sha224) then Sha224
    else (if int_eq n (hash_number Sha256) then Sha256
    else (if int_eq n (hash_number Sha384) then Sha384
    else (if int_eq n (hash_number Sha512) then Sha512
    else UnknownHash))))
