-- Which words a command takes.
use Rattle.std.specs.Prelude.{◌||◌, ℕ, List, [], ◌∷◌, Bool, true, false, Option, codes}
use Rattle.tink_cli_words.specs.Words.{named_in}
use Rattle.tink_cli_words.specs.Options.{has, is_everywhere}
use Rattle.tink_cli_words.specs.declared.options.OptionName.{OptionName}
use Rattle.tink_cli_words.specs.declared.options.OptionName.TheVariants as options
use Rattle.tink_cli_words.specs.declared.wrong.Operand.TheVariants as operands
use Rattle.tink_cli_words.specs.declared.form.Part.{Part}
use Rattle.tink_cli_words.specs.declared.form.Part.TheVariants.{Given, First, Second}
use Rattle.tink_cli_words.specs.declared.form.Action.{Action}
use Rattle.tink_cli_words.specs.declared.form.Action.TheVariants.{New, Add, Keys, Templates, Rotate, Promote, Enable, Disable, Destroy, Delete, Convert, Encrypt, Decrypt, Check, Info, Rewrap, Range, Sign, Verify, Wrap, Unwrap, Help, Version}

-- the names of the commands
unfoldable pub action_names : List (List ℕ × Action)
action_names =
    (codes "new", New) ∷ (codes "add", Add) ∷ (codes "keys", Keys) ∷ (codes "templates", Templates)
    ∷ (codes "rotate", Rotate) ∷ (codes "promote", Promote) ∷ (codes "enable", Enable)
    ∷ (codes "disable", Disable) ∷ (codes "destroy", Destroy) ∷ (codes "delete", Delete)
    ∷ (codes "convert", Convert) ∷ (codes "encrypt", Encrypt) ∷ (codes "decrypt", Decrypt)
    ∷ (codes "check", Check) ∷ (codes "info", Info) ∷ (codes "rewrap", Rewrap) ∷ (codes "range", Range)
    ∷ (codes "sign", Sign) ∷ (codes "verify", Verify) ∷ (codes "wrap", Wrap) ∷ (codes "unwrap", Unwrap)
    ∷ (codes "help", Help) ∷ (codes "--help", Help) ∷ (codes "-h", Help)
    ∷ (codes "version", Version) ∷ (codes "--version", Version) ∷ (codes "-V", Version) ∷ []

-- the command of a name
abbrev pub action_named : List ℕ → Option Action
action_named name = named_in action_names name

-- the name of a command
abbrev pub action_name : Action → List ℕ
action_name New = codes "new"
action_name Add = codes "add"
action_name Keys = codes "keys"
action_name Templates = codes "templates"
action_name Rotate = codes "rotate"
action_name Promote = codes "promote"
action_name Enable = codes "enable"
action_name Disable = codes "disable"
action_name Destroy = codes "destroy"
action_name Delete = codes "delete"
action_name Convert = codes "convert"
action_name Encrypt = codes "encrypt"
action_name Decrypt = codes "decrypt"
action_name Check = codes "check"
action_name Info = codes "info"
action_name Rewrap = codes "rewrap"
action_name Range = codes "range"
action_name Sign = codes "sign"
action_name Verify = codes "verify"
action_name Wrap = codes "wrap"
action_name Unwrap = codes "unwrap"
action_name Help = codes "help"
action_name Version = codes "version"

-- the keys that a stream or a token is read by
abbrev pub key_options : List OptionName → List OptionName
key_options more = options.Keys ∷ options.Aad ∷ options.Master ∷ options.MasterAad ∷ more

-- the file that a stream is written to
abbrev pub to_file : List OptionName
to_file = options.Output ∷ options.Force ∷ options.NoClobber ∷ []

-- the options that a command takes besides those that each command takes
abbrev pub options_of : Action → List OptionName
options_of New = options.Output ∷ options.Format ∷ options.Prefix ∷ []
options_of Keys = options.Json ∷ []
options_of Rotate = options.Any ∷ []
options_of Convert = options.Output ∷ options.Format ∷ []
options_of Encrypt = key_options to_file
options_of Decrypt = key_options to_file
options_of Check = key_options []
options_of Info = key_options []
options_of Rewrap = key_options (options.To ∷ options.ToAad ∷ to_file)
options_of Range = key_options (options.Start ∷ options.Length ∷ to_file)
options_of Sign = options.Keys ∷ options.Master ∷ options.MasterAad ∷ options.Output ∷ options.NoClobber ∷ []
options_of Verify = options.Keys ∷ options.Master ∷ options.MasterAad ∷ options.Output ∷ options.NoClobber ∷ []
options_of Wrap = options.Keys ∷ options.Output ∷ options.Aad ∷ options.Format ∷ []
options_of Unwrap = options.Keys ∷ options.Output ∷ options.Aad ∷ options.Format ∷ []
options_of _ = []

-- a command takes an option
abbrev pub takes : Action → OptionName → Bool
takes action option = is_everywhere option || has (options_of action) option

-- what adds a key, and what changes one
abbrev pub add_parts : List Part
add_parts = First operands.Keys ∷ Second operands.Template ∷ []

abbrev pub edit_parts : List Part
edit_parts = First operands.Keys ∷ Second operands.Id ∷ []

abbrev pub key_parts : List Part → List Part
key_parts more = Given options.Keys ∷ more

-- what a command must have, in the order of its usage line
abbrev pub parts_of : Action → List Part
parts_of New = First operands.Template ∷ Given options.Output ∷ []
parts_of Add = add_parts
parts_of Keys = First operands.Keys ∷ []
parts_of Templates = []
parts_of Rotate = add_parts
parts_of Promote = edit_parts
parts_of Enable = edit_parts
parts_of Disable = edit_parts
parts_of Destroy = edit_parts
parts_of Delete = edit_parts
parts_of Convert = First operands.Keys ∷ Given options.Output ∷ Given options.Format ∷ []
parts_of Encrypt = key_parts []
parts_of Decrypt = key_parts []
parts_of Check = key_parts []
parts_of Info = key_parts (First operands.In ∷ [])
parts_of Rewrap = key_parts (Given options.To ∷ [])
parts_of Range = key_parts (Given options.Start ∷ Given options.Length ∷ First operands.In ∷ [])
parts_of Sign = key_parts []
parts_of Verify = key_parts []
parts_of Wrap = key_parts (Given options.Output ∷ First operands.Keys ∷ [])
parts_of Unwrap = key_parts (Given options.Output ∷ First operands.Wrapped ∷ [])
parts_of Help = []
parts_of Version = []

-- a command takes the id of a key
abbrev pub takes_id : Action → Bool
takes_id Promote = true
takes_id Enable = true
takes_id Disable = true
takes_id Destroy = true
takes_id Delete = true
takes_id _ = false

-- how many words a command takes beside the options
abbrev pub operands_of : Action → ℕ
operands_of Templates = 0
operands_of Version = 0
operands_of Add = 2
operands_of Rotate = 2
operands_of Promote = 2
operands_of Enable = 2
operands_of Disable = 2
operands_of Destroy = 2
operands_of Delete = 2
operands_of _ = 1
