-- Which lines are those of the program over the standard streams, and how they end.
use Rattle.std.specs.Prelude.{◌≡◌, ◌⊎◌, ◌||◌, ◌&&◌, ◌==◌, not, nat_lt, ℕ, List, [], ◌∷◌, length, Bool, true, false, Option, Some, None, String, Vec, codes, All, IsUtf8, if◌then◌else◌, slice_index_or}
use Rattle.std.specs.Char.{is_ascii_hexdigit}
use Rattle.std.specs.List.{list_all}
use Rattle.tink_cli_words.specs.Forms.{words_of}
use Rattle.tink_cli_words.specs.Words.{is, is_option}
use Rattle.tink_program.specs.Program.{Promised, StatusMeans}
use Rattle.tink_program.specs.Words.{SpellNothing}
use Rattle.tink_io.specs.Faults.{Rose}
use Rattle.tink_io.specs.Outside.{Outside}
use Rattle.tink_system.specs.States.{IsAbsent, SystemState, known_content}
use Rattle.tink_cli.specs.declared.claims.Claim.{Claim}
use Rattle.tink_cli.specs.declared.claims.Claim.TheVariants.{All as AllLines, OfFourWords, WithoutOptions, Never}

-- a word is an option
abbrev pub has_option : List (List ℕ) → Bool
has_option [] = false
has_option (word ∷ words) = is_option word || has_option words

-- which lines that begin with a name are that program's
abbrev pub claim_of : List ℕ → Claim
claim_of name =
    if is name (codes "seal") || is name (codes "open") || is name (codes "keygen") || is name (codes "large") then AllLines
    else (if is name (codes "rotate") then OfFourWords
    else (if is name (codes "rewrap") || is name (codes "sign") || is name (codes "verify") || is name (codes "range") then WithoutOptions
    else Never))

-- a word is a template's name: if a word as long as a seed follows, any word is, and else one that is no option
abbrev pub is_template : List ℕ → List ℕ → Bool
is_template word seed = (length seed == 64) || not (is_option word)

-- four words with a keyset, a template and a seed: the keyset and the seed are no options
abbrev pub is_rotation : List (List ℕ) → Bool
is_rotation words =
    (length words == 4) && not (is_option (slice_index_or words 1 [])) && not (is_option (slice_index_or words 3 []))
    && is_template (slice_index_or words 2 []) (slice_index_or words 3 [])

abbrev pub is_claimed : Claim → List (List ℕ) → Bool
is_claimed AllLines words = true
is_claimed OfFourWords words = is_rotation words
is_claimed WithoutOptions words = not (has_option words)
is_claimed Never words = false

abbrev pub is_of_streams : List (List ℕ) → Bool
is_of_streams [] = false
is_of_streams (name ∷ words) = is_claimed (claim_of name) (name ∷ words)

-- whether a command over files has the name too
abbrev pub is_shared : Claim → Bool
is_shared AllLines = false
is_shared OfFourWords = true
is_shared WithoutOptions = true
is_shared Never = false

-- whether a word may be a keyset
abbrev pub is_keyset : List ℕ → Bool
is_keyset word = list_all is_ascii_hexdigit word || is word (codes "-")

-- such a line has no keyset
abbrev pub has_no_keyset : List (List ℕ) → Bool
has_no_keyset words = nat_lt 1 (length words) && is_shared (claim_of (slice_index_or words 0 [])) && not (is_keyset (slice_index_or words 1 []))

-- that program read standard input, wrote to standard output, and ended by the status
pub record Ended (words : List (List ℕ)) (s : SystemState) (got got_after : Option (List ℕ)) (status : ℕ) : Type 0 where
  pub old : Outside
  pub new : Outside
  pub left : old.left ≡ known_content s None
  pub before : old.got ≡ got
  pub after : new.got ≡ got_after
  pub means : StatusMeans words old new status
  pub promised : Promised words old new status

-- there is no memory, standard input cannot be opened, a word is no UTF-8, or the words spell nothing
abbrev pub IsUnbegun : List (List ℕ) → SystemState → ℕ → ℕ → ℕ → Type 0
IsUnbegun words s before now status =
    (status ≡ 10) ⊎ ((status ≡ 11) × (IsAbsent s None ⊎ Rose before now)) ⊎ ((status ≡ 2) × ((All IsUtf8 words → ⊥) ⊎ SpellNothing words))

-- the same; or that program did not begin, and standard output stays
abbrev pub EndedOverStreams : List (List ℕ) → SystemState → ℕ → ℕ → Option (List ℕ) → Option (List ℕ) → ℕ → Type 0
EndedOverStreams words s before now got got_after status =
    (IsUnbegun words s before now status × (got_after ≡ got)) ⊎ Ended words s got got_after status

-- the words are these texts, or one of them is no UTF-8
abbrev pub AreTexts : {A G : Type 0} → List (List ℕ) → Option (Vec (String A) G) → Type 0
AreTexts words (Some texts) = words_of texts ≡ words
AreTexts words None = All IsUtf8 words → ⊥
