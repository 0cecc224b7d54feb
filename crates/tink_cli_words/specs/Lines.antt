-- What the words behind a command's name say, and why they are wrong.
pub use Rattle.tink_cli_words.specs.LineRead.{LineRead}
pub use Rattle.tink_cli_words.specs.Words.{is, is_option, byte_words}
use Rattle.std.specs.Prelude.{◌+◌, ◌&&◌, ◌||◌, not, nat_lt, take, drop, map, String, string_bytes, ℕ, List, [], ◌∷◌, Bool, true, false, Option, Some, None, is_some, is_none, Result, Ok, Err, codes, if◌then◌else◌, option_and_then}
use Rattle.tink_cli_words.specs.Words.{is_long, is_negative, equals_at}
use Rattle.tink_cli_words.specs.Options.{has_value, option_named}
use Rattle.tink_cli_words.specs.Actions.{action_named, operands_of, parts_of, takes, takes_id}
use Rattle.tink_cli_words.specs.Values.{format_of, id_of, number_of, prefix_of}
use Rattle.tink_cli_words.specs.Texts.{TextsRead, nothing_read, value_of, with_flag, with_value}
use Rattle.tink_cli_words.specs.declared.options.OptionName.{OptionName}
use Rattle.tink_cli_words.specs.declared.options.OptionName.TheVariants as options
use Rattle.tink_cli_words.specs.declared.form.Action.{Action}
use Rattle.tink_cli_words.specs.declared.form.Action.TheVariants as actions
use Rattle.tink_cli_words.specs.declared.form.Part.{Part}
use Rattle.tink_cli_words.specs.declared.form.Part.TheVariants as parts
use Rattle.tink_cli_words.specs.declared.reading.Meaning.{Meaning}
use Rattle.tink_cli_words.specs.declared.reading.Meaning.TheVariants.{Nothing, EndOfOptions, Flag, Awaits, Value, First, Second}
use Rattle.tink_cli_words.specs.declared.wrong.Why.{Why}
use Rattle.tink_cli_words.specs.declared.wrong.Why.TheVariants.{UnknownCommand, UnknownOption, NoValue, TakesNoValue, Twice, NotTaken, Missing, MissingOperand, TooMany, NoNumber, NoId, NoSuchValue, Needs}

-- what a word says beside the options
abbrev pub operand : Action → TextsRead → List ℕ → Result Meaning Why
operand action t word =
    if is_none t.first && nat_lt 0 (operands_of action) then Ok (First word)
    else (if is_none t.second && nat_lt 1 (operands_of action) then Ok (Second word) else Err (TooMany word))

-- an option may be given: the command takes it, and it has no value yet
abbrev pub allowed : Action → TextsRead → OptionName → Result (Unit {0}) Why
allowed action t o =
    if not (takes action o) then Err (NotTaken o)
    else (if is_some (value_of t o) then Err (Twice o) else Ok tt)

-- the first result's error, or what follows from its value
abbrev pub and_then : {A B : Type 0} → Result A Why → (A → Result B Why) → Result B Why
and_then (Ok x) f = f x
and_then (Err why) f = Err why

-- what the word of an option says
abbrev pub named : Action → TextsRead → OptionName → List ℕ → Result Meaning Why
named action t o word = and_then (allowed action t o) (λ _. if has_value o then Ok (Awaits o word) else Ok (Flag o))

-- what the long word of an option, `=` and a value say
abbrev pub with_equals : Action → TextsRead → OptionName → List ℕ → List ℕ → Result Meaning Why
with_equals action t o word value = and_then (allowed action t o) (λ _. if has_value o then Ok (Value o value) else Err (TakesNoValue word))

abbrev pub assigned_to : Action → TextsRead → List ℕ → List ℕ → Option OptionName → Result Meaning Why
assigned_to action t word value None = Err (UnknownOption word)
assigned_to action t word value (Some o) = with_equals action t o word value

abbrev pub assigned_at : Action → TextsRead → List ℕ → Option ℕ → Result Meaning Why
assigned_at action t word None = Err (UnknownOption word)
assigned_at action t word (Some i) = assigned_to action t word (drop (i + 1) word) (option_named (take i word))

-- what a word says that may be the long word of an option, `=` and its value
abbrev pub assigned : Action → TextsRead → List ℕ → Result Meaning Why
assigned action t word = if is_long word then assigned_at action t word (equals_at word) else Err (UnknownOption word)

abbrev pub option_by : Action → TextsRead → List ℕ → Option OptionName → Result Meaning Why
option_by action t word None = assigned action t word
option_by action t word (Some o) = named action t o word

-- what a word says that is an option
abbrev pub option : Action → TextsRead → List ℕ → Result Meaning Why
option action t word = if is word (codes "--") then Ok EndOfOptions else option_by action t word (option_named word)

-- a word is no option: it begins with no dash, it is a dash alone, or it is a negative number where the id of a key may be
abbrev pub is_operand : Action → List ℕ → Bool
is_operand action word = not (is_option word) || (takes_id action && is_negative word)

abbrev pub meaning_by : Action → TextsRead → List ℕ → Option (OptionName × List ℕ) → Result Meaning Why
meaning_by action t word (Some awaited) = Ok (Value awaited.0 word)
meaning_by action t word None = if t.options_end || is_operand action word then operand action t word else option action t word

-- what a word says: nothing behind a request for help, the value of the option before it, an option, or a word beside them
abbrev pub meaning : Action → TextsRead → List ℕ → Result Meaning Why
meaning action t word = if t.flags.help then Ok Nothing else meaning_by action t word t.next

-- the same with what a word says
abbrev pub with_meaning : TextsRead → Meaning → TextsRead
with_meaning t Nothing = t
with_meaning t EndOfOptions = record t { options_end = true }
with_meaning t (Flag o) = with_flag t o
with_meaning t (Awaits o word) = record t { next = Some (o, word) }
with_meaning t (Value o value) = with_value t o value
with_meaning t (First word) = record t { first = Some word }
with_meaning t (Second word) = record t { second = Some word }

abbrev pub ended_by : TextsRead → Option (OptionName × List ℕ) → Result TextsRead Why
ended_by t None = Ok t
ended_by t (Some awaited) = Err (NoValue awaited.1)

-- all words are read: no value is to come
abbrev pub ended : TextsRead → Result TextsRead Why
ended t = ended_by t t.next

-- what is read of words, or the first that is wrong
unfoldable pub read_on : Action → TextsRead → List (List ℕ) → Result TextsRead Why
read_on action t [] = ended t
read_on action t (word ∷ words) = and_then (meaning action t word) (λ m. read_on action (with_meaning t m) words)

-- they lack what a command must have
abbrev pub lacks : TextsRead → Part → Bool
lacks t (parts.Given o) = is_none (value_of t o)
lacks t (parts.First operand) = is_none t.first
lacks t (parts.Second operand) = is_none t.second

abbrev pub first_lacking : TextsRead → List Part → Option Part
first_lacking t [] = None
first_lacking t (part ∷ ps) = if lacks t part then Some part else first_lacking t ps

-- why a line is wrong that lacks this
abbrev pub missing : Part → Why
missing (parts.Given o) = Missing o
missing (parts.First operand) = MissingOperand operand
missing (parts.Second operand) = MissingOperand operand

-- an option is given without the one that it needs
abbrev pub needs : TextsRead → Option Why
needs t =
    if is_some t.master_aad && is_none t.master then Some (Needs options.MasterAad options.Master)
    else (if t.flags.no_clobber && is_none t.output then Some (Needs options.NoClobber options.Output) else None)

abbrev pub lacking_by : TextsRead → Option Part → Option Why
lacking_by t (Some part) = Some (missing part)
lacking_by t None = needs t

-- the first that a command must have and the words lack; else an option without the one that it needs
abbrev pub lacking : Action → TextsRead → Option Why
lacking action t = lacking_by t (first_lacking t (parts_of action))

-- a text that is not read
abbrev pub unread : Option (List ℕ) → Bool → Option (List ℕ)
unread text true = None
unread text false = text

-- why the words are wrong by a text that is not read, or else by another
abbrev pub wrong_by : (List ℕ → Why) → Option (List ℕ) → Option Why → Option Why
wrong_by why None others = others
wrong_by why (Some word) others = Some (why word)

abbrev pub or_else : Option Why → Option Why → Option Why
or_else None others = others
or_else (Some why) others = Some why

-- the first name that is none
abbrev pub no_such_value : TextsRead → Option Why
no_such_value t =
    wrong_by (λ w. NoSuchValue options.Format w) (unread t.format (is_some (format_of t.format)))
    (wrong_by (λ w. NoSuchValue options.Prefix w) (unread t.prefix (is_some (prefix_of t.prefix))) None)

-- the first number that is none
abbrev pub no_number : TextsRead → Option Why
no_number t =
    wrong_by (λ w. NoNumber options.Start w) (unread t.start (is_some (number_of t.start)))
    (wrong_by (λ w. NoNumber options.Length w) (unread t.length (is_some (number_of t.length))) None)

-- the text of the id of a key
abbrev pub id_text : Action → TextsRead → Option (List ℕ)
id_text actions.Promote t = t.second
id_text actions.Enable t = t.second
id_text actions.Disable t = t.second
id_text actions.Destroy t = t.second
id_text actions.Delete t = t.second
id_text _ t = None

-- the name of the command that help is asked of
abbrev pub topic_text : Action → TextsRead → Option (List ℕ)
topic_text actions.Help t = t.first
topic_text _ t = None

-- the command that a text names
abbrev pub topic_of : Option (List ℕ) → Option Action
topic_of text = option_and_then action_named text

-- the id that is none, or the command
abbrev pub no_such_operand : Action → TextsRead → Option Why
no_such_operand action t =
    wrong_by NoId (unread (id_text action t) (is_some (id_of (id_text action t))))
    (wrong_by UnknownCommand (unread (topic_text action t) (is_some (topic_of (topic_text action t)))) None)

-- the first value that cannot be read
abbrev pub unreadable : Action → TextsRead → Option Why
unreadable action t = or_else (no_such_value t) (or_else (no_number t) (no_such_operand action t))

-- why the words are wrong: if they ask for help, they are not
abbrev pub unusable : Action → TextsRead → Option Why
unusable action t = if t.flags.help then None else or_else (lacking action t) (unreadable action t)

-- the line of a command whose words say this
abbrev pub line_with : Action → TextsRead → LineRead
line_with action t = record {
  keys = t.keys;
  output = t.output;
  aad = t.aad;
  to = t.to;
  to_aad = t.to_aad;
  master = t.master;
  master_aad = t.master_aad;
  first = t.first;
  second = t.second;
  format = format_of t.format;
  prefix = prefix_of t.prefix;
  start = number_of t.start;
  length = number_of t.length;
  id = id_of (id_text action t);
  topic = topic_of (topic_text action t);
  quiet = t.flags.quiet;
  help = t.flags.help;
  force = t.flags.force;
  no_clobber = t.flags.no_clobber;
  any = t.flags.any;
  json = t.flags.json;
}

abbrev pub usable_by : Action → TextsRead → Option Why → Result LineRead Why
usable_by action t (Some why) = Err why
usable_by action t None = Ok (line_with action t)

abbrev pub usable : Action → TextsRead → Result LineRead Why
usable action t = usable_by action t (unusable action t)

-- what the words behind a command's name say, or why they are wrong
abbrev pub line_of : Action → List (List ℕ) → Result LineRead Why
line_of action words = and_then (read_on action nothing_read words) (usable action)

-- the bytes of each word
abbrev pub words_in : {A : Type 0} → List (String A) → List (List ℕ)
words_in words = map (λ w. string_bytes w) words
