-- The texts that are read of words.
use Rattle.std.specs.Prelude.{ℕ, List, Bool, true, false, Option, Some, None}
use Rattle.tink_cli_words.specs.declared.options.OptionName.{OptionName}
use Rattle.tink_cli_words.specs.declared.options.OptionName.TheVariants.{Keys, Output, Aad, Format, To, ToAad, Start, Length, Master, MasterAad, Prefix, Quiet, Help, Force, NoClobber, Any, Json}
use Rattle.tink_cli_words.specs.declared.reading.Flags.{Flags}

-- the option whose value comes next with its word, the values of the options, and up to two words beside them
pub record TextsRead : Type 0 where
  pub next : Option (OptionName × List ℕ)
  pub keys : Option (List ℕ)
  pub output : Option (List ℕ)
  pub aad : Option (List ℕ)
  pub format : Option (List ℕ)
  pub to : Option (List ℕ)
  pub to_aad : Option (List ℕ)
  pub start : Option (List ℕ)
  pub length : Option (List ℕ)
  pub master : Option (List ℕ)
  pub master_aad : Option (List ℕ)
  pub prefix : Option (List ℕ)
  pub first : Option (List ℕ)
  pub second : Option (List ℕ)
  pub flags : Flags
  pub options_end : Bool

abbrev pub no_flags : Flags
no_flags = record { quiet = false; help = false; force = false; no_clobber = false; any = false; json = false }

abbrev pub nothing_read : TextsRead
nothing_read = record {
  next = None;
  keys = None;
  output = None;
  aad = None;
  format = None;
  to = None;
  to_aad = None;
  start = None;
  length = None;
  master = None;
  master_aad = None;
  prefix = None;
  first = None;
  second = None;
  flags = no_flags;
  options_end = false;
}

-- the value of an option
abbrev pub value_of : TextsRead → OptionName → Option (List ℕ)
value_of t Keys = t.keys
value_of t Output = t.output
value_of t Aad = t.aad
value_of t Format = t.format
value_of t To = t.to
value_of t ToAad = t.to_aad
value_of t Start = t.start
value_of t Length = t.length
value_of t Master = t.master
value_of t MasterAad = t.master_aad
value_of t Prefix = t.prefix
value_of t _ = None

-- the same with an option that has no value
abbrev pub with_flag : TextsRead → OptionName → TextsRead
with_flag t Quiet = record t { flags = record (t.flags) { quiet = true } }
with_flag t Help = record t { flags = record (t.flags) { help = true } }
with_flag t Force = record t { flags = record (t.flags) { force = true } }
with_flag t NoClobber = record t { flags = record (t.flags) { no_clobber = true } }
with_flag t Any = record t { flags = record (t.flags) { any = true } }
with_flag t Json = record t { flags = record (t.flags) { json = true } }
with_flag t _ = t

-- the same with the value of an option
abbrev pub with_value : TextsRead → OptionName → List ℕ → TextsRead
with_value t Keys value = record t { next = None; keys = Some value }
with_value t Output value = record t { next = None; output = Some value }
with_value t Aad value = record t { next = None; aad = Some value }
with_value t Format value = record t { next = None; format = Some value }
with_value t To value = record t { next = None; to = Some value }
with_value t ToAad value = record t { next = None; to_aad = Some value }
with_value t Start value = record t { next = None; start = Some value }
with_value t Length value = record t { next = None; length = Some value }
with_value t Master value = record t { next = None; master = Some value }
with_value t MasterAad value = record t { next = None; master_aad = Some value }
with_value t Prefix value = record t { next = None; prefix = Some value }
with_value t _ value = record t { next = None }
