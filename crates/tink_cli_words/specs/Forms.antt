-- What a command line spells.
pub use Rattle.tink_cli_words.specs.Words.{byte_words}
use Rattle.std.specs.Prelude.{ℕ, List, [], ◌∷◌, Option, Some, None, Result, Ok, Err, String, Vec}
use Rattle.tink_cli_words.specs.LineRead.{LineRead}
use Rattle.tink_cli_words.specs.Lines.{line_of, words_in}
use Rattle.tink_cli_words.specs.Actions.{action_named}
use Rattle.tink_cli_words.specs.declared.form.Action.{Action}
use Rattle.tink_cli_words.specs.declared.wrong.Why.{Why}
use Rattle.tink_cli_words.specs.declared.wrong.Why.TheVariants.{NoCommand, UnknownCommand}
use Rattle.tink_cli_words.specs.declared.wrong.Wrong.{Wrong}
use Rattle.tink_cli_words.specs.declared.commands.Given.{Given}

abbrev pub given_by : Action → Result LineRead Why → Result Given Wrong
given_by action (Ok line) = Ok (record { action = action; line = line })
given_by action (Err why) = Err (record { action = Some action; why = why })

-- a command with what the words behind its name say
abbrev pub given_of : Action → List (List ℕ) → Result Given Wrong
given_of action words = given_by action (line_of action words)

abbrev pub given_named : Option Action → List ℕ → List (List ℕ) → Result Given Wrong
given_named None name words = Err (record { action = None; why = UnknownCommand name })
given_named (Some action) name words = given_of action words

-- the command that words spell and its values, or why they spell none
abbrev pub given : List (List ℕ) → Result Given Wrong
given [] = Err (record { action = None; why = NoCommand })
given (name ∷ words) = given_named (action_named name) name words

-- the words of a command line
abbrev pub words_of : {A G : Type 0} → Vec (String A) G → List (List ℕ)
words_of words = words_in words.items
