-- What a contract sees of a line.
use Rattle.std.specs.Prelude.{ℕ, List, Bool, Option}
use Rattle.tink_cli_words.specs.declared.form.Action.{Action}
use Rattle.tink_cli_words.specs.declared.values.FormatName.{FormatName}
use Rattle.tink_cli_words.specs.declared.values.PrefixName.{PrefixName}

-- the values of the options, up to two words beside them, and which options without a value are given
pub record LineRead : Type 0 where
  pub keys : Option (List ℕ)
  pub output : Option (List ℕ)
  pub aad : Option (List ℕ)
  pub to : Option (List ℕ)
  pub to_aad : Option (List ℕ)
  pub master : Option (List ℕ)
  pub master_aad : Option (List ℕ)
  pub first : Option (List ℕ)
  pub second : Option (List ℕ)
  pub format : Option FormatName
  pub prefix : Option PrefixName
  pub start : Option ℕ
  pub length : Option ℕ
  pub id : Option ℕ
  pub topic : Option Action
  pub quiet : Bool
  pub help : Bool
  pub force : Bool
  pub no_clobber : Bool
  pub any : Bool
  pub json : Bool
