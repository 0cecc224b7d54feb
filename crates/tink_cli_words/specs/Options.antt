-- The options.
use Rattle.std.specs.Prelude.{◌==◌, ◌||◌, ℕ, List, [], ◌∷◌, Bool, true, false, Option, codes}
use Rattle.tink_cli_words.specs.Words.{named_in}
use Rattle.tink_cli_words.specs.declared.options.OptionName.{OptionName}
use Rattle.tink_cli_words.specs.declared.options.OptionName.TheVariants.{Keys, Output, Aad, Format, To, ToAad, Start, Length, Master, MasterAad, Prefix, Quiet, Help, Force, NoClobber, Any, Json}

-- the words of the options
unfoldable pub option_words : List (List ℕ × OptionName)
option_words =
    (codes "-k", Keys) ∷ (codes "--keys", Keys)
    ∷ (codes "-o", Output) ∷ (codes "--output", Output)
    ∷ (codes "--aad", Aad) ∷ (codes "--format", Format)
    ∷ (codes "-t", To) ∷ (codes "--to", To) ∷ (codes "--to-aad", ToAad)
    ∷ (codes "--start", Start) ∷ (codes "--length", Length)
    ∷ (codes "--master", Master) ∷ (codes "--master-aad", MasterAad)
    ∷ (codes "--prefix", Prefix)
    ∷ (codes "-q", Quiet) ∷ (codes "--quiet", Quiet)
    ∷ (codes "-h", Help) ∷ (codes "--help", Help)
    ∷ (codes "--force", Force) ∷ (codes "--no-clobber", NoClobber)
    ∷ (codes "--any", Any) ∷ (codes "--json", Json) ∷ []

-- the option of a word
abbrev pub option_named : List ℕ → Option OptionName
option_named word = named_in option_words word

-- the long word of an option
abbrev pub name_of : OptionName → List ℕ
name_of Keys = codes "--keys"
name_of Output = codes "--output"
name_of Aad = codes "--aad"
name_of Format = codes "--format"
name_of To = codes "--to"
name_of ToAad = codes "--to-aad"
name_of Start = codes "--start"
name_of Length = codes "--length"
name_of Master = codes "--master"
name_of MasterAad = codes "--master-aad"
name_of Prefix = codes "--prefix"
name_of Quiet = codes "--quiet"
name_of Help = codes "--help"
name_of Force = codes "--force"
name_of NoClobber = codes "--no-clobber"
name_of Any = codes "--any"
name_of Json = codes "--json"

-- the number of an option
abbrev pub code_of : OptionName → ℕ
code_of Keys = 0
code_of Output = 1
code_of Aad = 2
code_of Format = 3
code_of To = 4
code_of ToAad = 5
code_of Start = 6
code_of Length = 7
code_of Master = 8
code_of MasterAad = 9
code_of Prefix = 10
code_of Quiet = 11
code_of Help = 12
code_of Force = 13
code_of NoClobber = 14
code_of Any = 15
code_of Json = 16

-- an option is one of these
abbrev pub has : List OptionName → OptionName → Bool
has [] option = false
has (known ∷ options) option = (code_of known == code_of option) || has options option

-- a value belongs to an option
abbrev pub has_value : OptionName → Bool
has_value Quiet = false
has_value Help = false
has_value Force = false
has_value NoClobber = false
has_value Any = false
has_value Json = false
has_value _ = true

-- each command takes an option
abbrev pub is_everywhere : OptionName → Bool
is_everywhere Quiet = true
is_everywhere Help = true
is_everywhere _ = false
