-- The usage lines.
use Rattle.std.specs.Prelude.{ℕ, List, codes}
use Rattle.tink_cli_words.specs.declared.form.Action.{Action}
use Rattle.tink_cli_words.specs.declared.form.Action.TheVariants.{New, Add, Keys, Templates, Rotate, Promote, Enable, Disable, Destroy, Delete, Convert, Encrypt, Decrypt, Check, Info, Rewrap, Range, Sign, Verify, Wrap, Unwrap, Help, Version}

-- how a command is used
abbrev pub usage_of : Action → List ℕ
usage_of New = codes "tink new TEMPLATE -o KEYS [--format json|binary] [--prefix PREFIX]"
usage_of Add = codes "tink add KEYS TEMPLATE"
usage_of Keys = codes "tink keys [--json] KEYS"
usage_of Templates = codes "tink templates"
usage_of Rotate = codes "tink rotate [--any] KEYS TEMPLATE"
usage_of Promote = codes "tink promote KEYS ID"
usage_of Enable = codes "tink enable KEYS ID"
usage_of Disable = codes "tink disable KEYS ID"
usage_of Destroy = codes "tink destroy KEYS ID"
usage_of Delete = codes "tink delete KEYS ID"
usage_of Convert = codes "tink convert KEYS -o NEWKEYS --format json|binary"
usage_of Encrypt = codes "tink encrypt -k KEYS [--aad TEXT] [--master MASTER] [-o OUT] [IN]"
usage_of Decrypt = codes "tink decrypt -k KEYS [--aad TEXT] [--master MASTER] [-o OUT] [IN]"
usage_of Check = codes "tink check -k KEYS [--aad TEXT] [--master MASTER] [IN]"
usage_of Info = codes "tink info -k KEYS [--aad TEXT] [--master MASTER] IN"
usage_of Rewrap = codes "tink rewrap -k KEYS [--aad TEXT] -t NEWKEYS [--to-aad TEXT] [-o OUT] [IN]"
usage_of Range = codes "tink range -k KEYS [--aad TEXT] --start N --length N [-o OUT] IN"
usage_of Sign = codes "tink sign -k KEYS [--master MASTER] [-o OUT] [IN]"
usage_of Verify = codes "tink verify -k KEYS [--master MASTER] [-o OUT] [IN]"
usage_of Wrap = codes "tink wrap -k MASTER -o WRAPPED [--aad TEXT] [--format json|binary] KEYS"
usage_of Unwrap = codes "tink unwrap -k MASTER -o KEYS [--aad TEXT] [--format json|binary] WRAPPED"
usage_of Help = codes "tink help [COMMAND]"
usage_of Version = codes "tink version"
