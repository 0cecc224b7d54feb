-- The words beside the options.
use Rattle.std.specs.Prelude.{ℕ, List, codes}
use Rattle.tink_cli_words.specs.declared.wrong.Operand.{Operand}
use Rattle.tink_cli_words.specs.declared.wrong.Operand.TheVariants.{Keys, Template, Id, In, Wrapped, Command}

-- the name of an operand in a usage line
abbrev pub operand_name : Operand → List ℕ
operand_name Keys = codes "KEYS"
operand_name Template = codes "TEMPLATE"
operand_name Id = codes "ID"
operand_name In = codes "IN"
operand_name Wrapped = codes "WRAPPED"
operand_name Command = codes "COMMAND"
