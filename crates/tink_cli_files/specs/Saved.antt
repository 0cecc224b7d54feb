-- What becomes of a file that is made.
use Rattle.std.specs.Prelude.{◌≡◌, ◌⊎◌, ℕ, List, Bool, Result, Ok, Err, if◌then◌else◌}
use Rattle.std.specs.Str.{is_utf8}
use Rattle.std.specs.declared.option.Option.{Option}
use Rattle.tink_io.specs.Faults.{Rose}
use Rattle.tink_io.specs.declared.error.Kind.{Kind}
use Rattle.tink_io.specs.declared.error.Kind.TheVariants.{OutOfMemory, UnknownTemplate, WriteFault}
use Rattle.tink_io.specs.declared.error.TinkError.{TinkError}
use Rattle.tink_proto.specs.declared.enums.OutputPrefixType.{OutputPrefixType}
use Rattle.tink_proto.specs.declared.messages.keys.Keyset.{Keyset}
use Rattle.tink_keysets.specs.Encrypted.{chained}
use Rattle.tink_keysets.specs.Valid.{valid_keyset}
use Rattle.tink_keygen.specs.Growing.{grown_beside_by, left_alike_by, left_beside_by, left_prefixed_by, prefixed_by, rotated_alike_by}
use Rattle.tink_keygen.specs.Rotating.{left_by, rotated_by}
use Rattle.tink_io.specs.Places.{IsSaved}
use Rattle.tink_keyset_io.specs.Files.{filed, format_of, wire_of}
use Rattle.tink_keyset_io.specs.declared.key_files.formats.Format.{Format}
use Rattle.tink_cli_files.specs.Masters.{valid_in_file}
use Rattle.tink_cli_files.specs.declared.made_files.Growth.{Growth}
use Rattle.tink_cli_files.specs.declared.made_files.Growth.TheVariants.{Add, Rotate, RotateToAny}

-- The known bytes are shown behind what the draft had.
pub record IsSavedAsTold (told : Result (List ℕ) Kind) (draft : Option (List ℕ)) (replaces : Bool) (before after : Option (Option (List ℕ))) : Type 0 where
  pub bytes : List ℕ
  pub made : told ≡ Ok bytes
  pub saved : IsSaved draft bytes replaces before after

-- no bytes are made, there is no memory, or the draft could not be written or shown
abbrev pub IsNotSaved : Result (List ℕ) Kind → Kind → ℕ → ℕ → Type 0
IsNotSaved told kind i j = (kind ≡ OutOfMemory) ⊎ (told ≡ Err kind) ⊎ ((kind ≡ WriteFault) × Rose i j)

-- what a call answers that saves given bytes: by a refusal, what was shown stays
abbrev pub Saves : Result (List ℕ) Kind → Result (Unit {0}) TinkError → Option (List ℕ) → Bool → Option (Option (List ℕ)) → Option (Option (List ℕ)) → ℕ → ℕ → Type 0
Saves told (Ok _) draft replaces before after i j = IsSavedAsTold told draft replaces before after
Saves told (Err e) draft replaces before after i j = IsNotSaved told e.kind i j × (after ≡ before)

-- the bytes of a template's name, if they are text: no template has another name
abbrev pub name_of : List ℕ → Result (List ℕ) Kind
name_of template = if is_utf8 template then Ok template else Err UnknownTemplate

-- what a step leaves of the draws: all of them if there is nothing to do it with
abbrev pub left_of : {S : Type 0} → List ℕ → (S → List ℕ) → Result S Kind → List ℕ
left_of draws leaves (Err kind) = draws
left_of draws leaves (Ok v) = leaves v

-- the file of a new keyset by the template of a name, with this output prefix type if there is one
abbrev pub new_file : List ℕ → Option OutputPrefixType → Format → List ℕ → Result (List ℕ) Kind
new_file template prefix format draws = chained (filed format) (chained (λ name. prefixed_by prefix name draws) (name_of template))

-- the draws that are left of it
abbrev pub left_of_new : List ℕ → Option OutputPrefixType → List ℕ → List ℕ
left_of_new template prefix draws = left_of draws (λ name. left_prefixed_by prefix name draws) (name_of template)

-- the keyset that bytes spell, with a new key by the template of a name
abbrev pub grown_as : Growth → List ℕ → List ℕ → List ℕ → Result Keyset Kind
grown_as Add bytes draws name = grown_beside_by name (valid_keyset bytes) draws
grown_as Rotate bytes draws name = rotated_alike_by name (valid_keyset bytes) draws
grown_as RotateToAny bytes draws name = rotated_by name (valid_keyset bytes) draws

abbrev pub left_as : Growth → List ℕ → List ℕ → List ℕ → List ℕ
left_as Add bytes draws name = left_beside_by name (valid_keyset bytes) draws
left_as Rotate bytes draws name = left_alike_by name (valid_keyset bytes) draws
left_as RotateToAny bytes draws name = left_by name (valid_keyset bytes) draws

-- the same, of the bytes of the name
abbrev pub grown_named : Growth → List ℕ → List ℕ → List ℕ → Result Keyset Kind
grown_named growth bytes template draws = chained (grown_as growth bytes draws) (name_of template)

abbrev pub left_of_name : Growth → List ℕ → List ℕ → List ℕ → List ℕ
left_of_name growth bytes template draws = left_of draws (left_as growth bytes draws) (name_of template)

-- the same, of the keyset of a file
abbrev pub grown_keyset : Growth → List ℕ → List ℕ → List ℕ → Result Keyset Kind
grown_keyset growth file template draws = chained (λ bytes. grown_named growth bytes template draws) (wire_of file)

abbrev pub left_of_growth : Growth → List ℕ → List ℕ → List ℕ → List ℕ
left_of_growth growth file template draws = left_of draws (λ bytes. left_of_name growth bytes template draws) (wire_of file)

-- the same as a file of the same format
abbrev pub grown_file : Growth → List ℕ → List ℕ → List ℕ → Result (List ℕ) Kind
grown_file growth file template draws = chained (filed (format_of file)) (grown_keyset growth file template draws)

-- an enabled key of another primitive may be there only if this is given
abbrev pub growth_of : Bool → Growth
growth_of to_any = if to_any then RotateToAny else Rotate

-- a file with a new primary key by the template of a name
abbrev pub rotated_file : List ℕ → List ℕ → Bool → List ℕ → Result (List ℕ) Kind
rotated_file file template to_any draws = grown_file (growth_of to_any) file template draws

-- a file with a new key that is not the primary one
abbrev pub added_file : List ℕ → List ℕ → List ℕ → Result (List ℕ) Kind
added_file file template draws = grown_file Add file template draws

-- the valid keyset of a file, as a file of this format
abbrev pub converted_file : List ℕ → Format → Result (List ℕ) Kind
converted_file file format = chained (filed format) (valid_in_file file)
