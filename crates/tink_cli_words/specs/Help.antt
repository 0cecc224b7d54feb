-- The help of each command.
use Rattle.std.specs.Prelude.{ℕ, List, Option, Some, None}
use Rattle.tink_cli_words.specs.declared.help.TheConstants as pages
use Rattle.tink_cli_words.specs.declared.form.Action.{Action}
use Rattle.tink_cli_words.specs.declared.form.Action.TheVariants.{New, Add, Keys, Templates, Rotate, Promote, Enable, Disable, Destroy, Delete, Convert, Encrypt, Decrypt, Check, Info, Rewrap, Range, Sign, Verify, Wrap, Unwrap, Help, Version}

-- the help of a command, or of all
abbrev pub help_of : Option Action → List ℕ
help_of None = pages.ALL.now
help_of (Some New) = pages.NEW.now
help_of (Some Add) = pages.ADD.now
help_of (Some Keys) = pages.KEYS.now
help_of (Some Templates) = pages.TEMPLATES.now
help_of (Some Rotate) = pages.ROTATE.now
help_of (Some Promote) = pages.EDIT.now
help_of (Some Enable) = pages.EDIT.now
help_of (Some Disable) = pages.EDIT.now
help_of (Some Destroy) = pages.EDIT.now
help_of (Some Delete) = pages.EDIT.now
help_of (Some Convert) = pages.CONVERT.now
help_of (Some Encrypt) = pages.STREAM.now
help_of (Some Decrypt) = pages.STREAM.now
help_of (Some Check) = pages.CHECK.now
help_of (Some Info) = pages.INFO.now
help_of (Some Rewrap) = pages.REWRAP.now
help_of (Some Range) = pages.RANGE.now
help_of (Some Sign) = pages.TOKEN.now
help_of (Some Verify) = pages.TOKEN.now
help_of (Some Wrap) = pages.WRAP.now
help_of (Some Unwrap) = pages.WRAP.now
help_of (Some Help) = pages.HELP.now
help_of (Some Version) = pages.HELP.now
