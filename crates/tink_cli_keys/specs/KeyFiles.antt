-- What the commands on files of keys have done.
use Rattle.std.specs.Prelude.{◌≡◌, ℕ, List, Option, Some, None, Result, Ok, Bool, true, false, take, drop}
use Rattle.tink_cli_words.specs.LineRead.{LineRead}
use Rattle.tink_cli_words.specs.declared.form.Action.{Action}
use Rattle.tink_cli_words.specs.declared.form.Action.TheVariants as actions
use Rattle.tink_cli_words.specs.declared.values.FormatName.{FormatName}
use Rattle.tink_cli_words.specs.declared.values.FormatName.TheVariants as formats
use Rattle.tink_cli_words.specs.declared.values.PrefixName.{PrefixName}
use Rattle.tink_cli_words.specs.declared.values.PrefixName.TheVariants as names
use Rattle.tink_io.specs.declared.error.Kind.{Kind}
use Rattle.tink_proto.specs.declared.enums.OutputPrefixType.{OutputPrefixType}
use Rattle.tink_proto.specs.declared.enums.OutputPrefixType.TheVariants.{Crunchy, Legacy, Raw, Tink}
use Rattle.tink_keysets.specs.Encrypted.{chained}
use Rattle.tink_keyset_io.specs.Edited.{edited_file}
use Rattle.tink_keyset_io.specs.Files.{wire_of}
use Rattle.tink_keyset_io.specs.Listed.{listed}
use Rattle.tink_keyset_io.specs.ListedJson.{listed_json}
use Rattle.tink_keyset_io.specs.declared.key_files.editing.Edit.{Edit}
use Rattle.tink_keyset_io.specs.declared.key_files.editing.Edit.TheVariants.{Delete, Destroy, Disable, Enable, Promote}
use Rattle.tink_keyset_io.specs.declared.key_files.formats.Format.{Format}
use Rattle.tink_keyset_io.specs.declared.key_files.formats.Format.TheVariants.{Binary, Json}
use Rattle.tink_cli_files.specs.Saved.{added_file, converted_file, new_file, rotated_file}
use Rattle.tink_cli_jobs.specs.Loading.{named, whole_of}
use Rattle.tink_cli_jobs.specs.Outputs.{KeepsOtherFiles}
use Rattle.tink_system.specs.States.{SystemState}
use Rattle.tink_cli_keys.specs.Saving.{IsAppended, IsSavedNew, readable}
use Rattle.tink_cli_keys.specs.declared.keys.Change.{Change}
use Rattle.tink_cli_keys.specs.declared.keys.Change.TheVariants as changes
use Rattle.tink_cli_keys.specs.declared.keys.Growth.{Growth}
use Rattle.tink_cli_keys.specs.declared.keys.Growth.TheVariants.{Add, Rotate, RotateToAny}

-- the format that a word names, and JSON if there is no word
abbrev pub format_named : Option FormatName → Format
format_named None = Json
format_named (Some formats.Json) = Json
format_named (Some formats.Binary) = Binary

-- the output prefix type that a word names
abbrev pub prefix_named : Option PrefixName → Option OutputPrefixType
prefix_named None = None
prefix_named (Some names.Tink) = Some Tink
prefix_named (Some names.Raw) = Some Raw
prefix_named (Some names.Legacy) = Some Legacy
prefix_named (Some names.Crunchy) = Some Crunchy

-- what a command does with a key
abbrev pub own_edit : Action → Option Edit
own_edit actions.Promote = Some Promote
own_edit actions.Enable = Some Enable
own_edit actions.Disable = Some Disable
own_edit actions.Destroy = Some Destroy
own_edit actions.Delete = Some Delete
own_edit _ = None

-- how a command adds a key
abbrev pub growth_by : Bool → Growth
growth_by true = RotateToAny
growth_by false = Rotate

abbrev pub own_growth : Action → Bool → Growth
own_growth actions.Add is_any = Add
own_growth _ is_any = growth_by is_any

-- a file with one more key
abbrev pub grown_file : Growth → List ℕ → List ℕ → List ℕ → Result (List ℕ) Kind
grown_file Add template draws file = added_file file template draws
grown_file Rotate template draws file = rotated_file file template false draws
grown_file RotateToAny template draws file = rotated_file file template true draws

-- a file with its change
abbrev pub changed_file : Change → List ℕ → Result (List ℕ) Kind
changed_file (changes.Edit edit id) file = edited_file file edit id
changed_file (changes.Grow growth template draws) file = grown_file growth template.now draws file

-- a keyset's keys, as lines or as an array of JSON
abbrev pub listed_as : Bool → List ℕ → Result (List ℕ) Kind
listed_as true keyset = listed_json keyset
listed_as false keyset = listed keyset

-- those of a file
abbrev pub listed_file : Bool → List ℕ → Result (List ℕ) Kind
listed_file json file = chained (λ keyset. listed_as json keyset) (wire_of file)

-- The file of a name is what is made of it, and can be read again. Every other file stays.
pub record IsChanged (makes : List ℕ → Result (List ℕ) Kind) (path : List ℕ) (old new : SystemState) : Type 0 where
  pub file : List ℕ
  pub was : old.file path ≡ Some file
  pub made : List ℕ
  pub by : readable (makes file) ≡ Ok made
  pub is : new.file path ≡ Some made
  pub others : KeepsOtherFiles old new path

-- the first key of the id that the words name was changed
pub record IsEdited (action : Action) (line : LineRead) (old new : SystemState) : Type 0 where
  pub path : List ℕ
  pub path_is : line.first ≡ Some path
  pub id : ℕ
  pub id_is : line.id ≡ Some id
  pub edit : Edit
  pub edit_is : own_edit action ≡ Some edit
  pub changed : IsChanged (λ file. edited_file file edit id) path old new

-- a key was added, by the template that the words name and the next random bytes
pub record IsGrown (action : Action) (line : LineRead) (old new : SystemState) : Type 0 where
  pub path : List ℕ
  pub path_is : line.first ≡ Some path
  pub template : List ℕ
  pub template_is : line.second ≡ Some template
  pub changed : IsChanged (grown_file (own_growth action line.any) template (take 1024 old.random)) path old new
  pub random : new.random ≡ drop 1024 old.random

-- a new file has a key by the template that the words name and the next random bytes
pub record IsNew (line : LineRead) (old new : SystemState) (got got_after : Option (List ℕ)) : Type 0 where
  pub template : List ℕ
  pub template_is : line.first ≡ Some template
  pub output : List ℕ
  pub output_is : line.output ≡ Some output
  pub put : IsSavedNew (new_file template (prefix_named line.prefix) (format_named line.format) (take 1024 old.random)) old new output got got_after
  pub random : new.random ≡ drop 1024 old.random

-- the keys of the file that the words name are listed on standard output
pub record AreListed (line : LineRead) (s : SystemState) (got got_after : Option (List ℕ)) : Type 0 where
  pub path : List ℕ
  pub path_is : line.first ≡ Some path
  pub listed : (before : List ℕ) → got ≡ Some before → IsAppended (chained (λ file. listed_file line.json file) (whole_of s (named (Some path)))) before got_after

-- a new file has the keyset of the file that the words name, in their format
pub record IsConverted (line : LineRead) (old new : SystemState) (got got_after : Option (List ℕ)) : Type 0 where
  pub path : List ℕ
  pub path_is : line.first ≡ Some path
  pub output : List ℕ
  pub output_is : line.output ≡ Some output
  pub put : IsSavedNew (chained (λ file. converted_file file (format_named line.format)) (whole_of old (named (Some path)))) old new output got got_after
