-- The words that spell a command.
use Rattle.std.specs.Prelude.{◌≡◌, ◌⊎◌, ◌≤◌, ◌^◌, ◌-◌, ℕ, List, [], ◌∷◌, length, codes, decimal, string_bytes, Option, Some, None, Result, Ok, Err}
use Rattle.tink_io.specs.declared.error.Kind.TheVariants.{OutOfMemory}
use Rattle.tink_io.specs.declared.error.TinkError.{TinkError}
use Rattle.hex.specs.Hex.{decode_of}
use Rattle.tink_program_core.specs.declared.words.Parsed.{Parsed}
use Rattle.tink_program_core.specs.declared.words.Parsed.TheVariants.{Keygen, Large, Open, Range, Rewrap, Rotate, Seal, Sign, Verify}
use Rattle.tink_program_core.specs.declared.words.RewrapArgs.{RewrapArgs}
use Rattle.tink_program_core.specs.declared.words.Unread.{Unread}
use Rattle.tink_program_core.specs.declared.words.Unread.TheVariants.{NoMemory, Nothing}
use Rattle.tink_rewrap.specs.Rewrapping.{Sides}

-- two hexadecimal digits or more, an even number in either case, or a dash for no bytes
abbrev pub IsBytesWord : List ℕ → List ℕ → Type 0
IsBytesWord word bytes = ((word ≡ codes "-") × (bytes ≡ [])) ⊎ ((2 ≤ length word) × (decode_of word ≡ Ok bytes))

-- 64 hexadecimal digits
abbrev pub IsSeedWord : List ℕ → List ℕ → Type 0
IsSeedWord word bytes = (length word ≡ 64) × (decode_of word ≡ Ok bytes)

-- `seal KEYSET AAD SEED`, and what it spells
pub record SealWords (words : List (List ℕ)) (keyset aad seed : List ℕ) : Type 0 where
  pub keyset_word : List ℕ
  pub aad_word : List ℕ
  pub seed_word : List ℕ
  pub spelled : words ≡ codes "seal" ∷ keyset_word ∷ aad_word ∷ seed_word ∷ []
  pub keyset_is : IsBytesWord keyset_word keyset
  pub aad_is : IsBytesWord aad_word aad
  pub seed_is : IsSeedWord seed_word seed

-- `open KEYSET AAD`, and what it spells
pub record OpenWords (words : List (List ℕ)) (keyset aad : List ℕ) : Type 0 where
  pub keyset_word : List ℕ
  pub aad_word : List ℕ
  pub spelled : words ≡ codes "open" ∷ keyset_word ∷ aad_word ∷ []
  pub keyset_is : IsBytesWord keyset_word keyset
  pub aad_is : IsBytesWord aad_word aad

-- `keygen TEMPLATE SEED`, and what it spells: the template is any word
pub record KeygenWords (words : List (List ℕ)) (template seed : List ℕ) : Type 0 where
  pub seed_word : List ℕ
  pub spelled : words ≡ codes "keygen" ∷ template ∷ seed_word ∷ []
  pub seed_is : IsSeedWord seed_word seed

-- `rotate KEYSET TEMPLATE SEED`, and what it spells
pub record RotateWords (words : List (List ℕ)) (keyset template seed : List ℕ) : Type 0 where
  pub keyset_word : List ℕ
  pub seed_word : List ℕ
  pub spelled : words ≡ codes "rotate" ∷ keyset_word ∷ template ∷ seed_word ∷ []
  pub keyset_is : IsBytesWord keyset_word keyset
  pub seed_is : IsSeedWord seed_word seed

-- a number of at most so many in decimal digits, without a leading zero unless it is 0
pub record IsNumberWord (most : ℕ) (word : List ℕ) (n : ℕ) : Type 0 where
  pub digits : word ≡ decimal n
  pub small : n ≤ most

-- `large N`, and what it spells
pub record LargeWords (words : List (List ℕ)) (n : ℕ) : Type 0 where
  pub number_word : List ℕ
  pub spelled : words ≡ codes "large" ∷ number_word ∷ []
  pub number_is : IsNumberWord 999999 number_word n

-- `range KEYSET AAD START LEN`, and what it spells
pub record RangeWords (words : List (List ℕ)) (keyset aad : List ℕ) (start len : ℕ) : Type 0 where
  pub keyset_word : List ℕ
  pub aad_word : List ℕ
  pub start_word : List ℕ
  pub len_word : List ℕ
  pub spelled : words ≡ codes "range" ∷ keyset_word ∷ aad_word ∷ start_word ∷ len_word ∷ []
  pub keyset_is : IsBytesWord keyset_word keyset
  pub aad_is : IsBytesWord aad_word aad
  pub start_is : IsNumberWord (2 ^ 64 - 1) start_word start
  pub len_is : IsNumberWord (2 ^ 64 - 1) len_word len

-- `sign KEYSET`, and what it spells
pub record SignWords (words : List (List ℕ)) (keyset : List ℕ) : Type 0 where
  pub keyset_word : List ℕ
  pub spelled : words ≡ codes "sign" ∷ keyset_word ∷ []
  pub keyset_is : IsBytesWord keyset_word keyset

-- `verify KEYSET`, and what it spells
pub record VerifyWords (words : List (List ℕ)) (keyset : List ℕ) : Type 0 where
  pub keyset_word : List ℕ
  pub spelled : words ≡ codes "verify" ∷ keyset_word ∷ []
  pub keyset_is : IsBytesWord keyset_word keyset

-- `rewrap KEYSET AAD KEYSET AAD SEED`, and what it spells: the keyset and the associated data of a stream, and those that it
-- is moved to
pub record RewrapWords (words : List (List ℕ)) (sides : Sides) (seed : List ℕ) : Type 0 where
  pub from_word : List ℕ
  pub from_aad_word : List ℕ
  pub to_word : List ℕ
  pub to_aad_word : List ℕ
  pub seed_word : List ℕ
  pub spelled : words ≡ codes "rewrap" ∷ from_word ∷ from_aad_word ∷ to_word ∷ to_aad_word ∷ seed_word ∷ []
  pub from_is : IsBytesWord from_word sides.from
  pub from_aad_is : IsBytesWord from_aad_word sides.from_aad
  pub to_is : IsBytesWord to_word sides.to
  pub to_aad_is : IsBytesWord to_aad_word sides.to_aad
  pub seed_is : IsSeedWord seed_word seed

-- what a command line asks for: a keyset and associated data, and the seed of a new stream; a template and a seed; the
-- number of a large text; a keyset and associated data, and the places of a range; a keyset of MACs; what a stream is moved between, and a seed
pub data Asked : Type 0 where
  Sealing : (keyset aad seed : List ℕ) → Asked
  Opening : (keyset aad : List ℕ) → Asked
  Making : (template seed : List ℕ) → Asked
  Rotating : (keyset template seed : List ℕ) → Asked
  Measuring : ℕ → Asked
  Ranging : (keyset aad : List ℕ) (start len : ℕ) → Asked
  Signing : (keyset : List ℕ) → Asked
  Verifying : (keyset : List ℕ) → Asked
  Rewrapping : (sides : Sides) (seed : List ℕ) → Asked

-- the words of each command
abbrev pub Spells : List (List ℕ) → Asked → Type 0
Spells words (Sealing keyset aad seed) = SealWords words keyset aad seed
Spells words (Opening keyset aad) = OpenWords words keyset aad
Spells words (Making template seed) = KeygenWords words template seed
Spells words (Rotating keyset template seed) = RotateWords words keyset template seed
Spells words (Measuring n) = LargeWords words n
Spells words (Ranging keyset aad start len) = RangeWords words keyset aad start len
Spells words (Signing keyset) = SignWords words keyset
Spells words (Verifying keyset) = VerifyWords words keyset
Spells words (Rewrapping sides seed) = RewrapWords words sides seed

-- the words ask for nothing
abbrev pub SpellNothing : List (List ℕ) → Type 0
SpellNothing words = (a : Asked) → Spells words a → ⊥

-- what a stream is moved between
abbrev pub sides_of : RewrapArgs → Sides
sides_of args = record {
  from = args.from.items;
  from_aad = args.from_aad.items;
  to = args.to.items;
  to_aad = args.to_aad.items;
}

-- what was read asks for this, with this seed
abbrev pub asked_of : Parsed → List ℕ → Asked
asked_of (Seal args) seed = Sealing args.keyset.items args.aad.items seed
asked_of (Open args) seed = Opening args.keyset.items args.aad.items
asked_of (Keygen template) seed = Making (string_bytes template) seed
asked_of (Rotate args) seed = Rotating args.keyset.items (string_bytes args.template) seed
asked_of (Large n) seed = Measuring n
asked_of (Range args) seed = Ranging args.keyset.items args.aad.items args.start args.len
asked_of (Sign keyset) seed = Signing keyset.items
asked_of (Verify keyset) seed = Verifying keyset.items
asked_of (Rewrap args) seed = Rewrapping (sides_of args) seed

-- ---- what was read

-- why nothing was read: there was nothing to read, or no memory
abbrev pub WhyUnread : Type 0 → Unread → Type 0
WhyUnread Absent Nothing = Absent
WhyUnread Absent NoMemory = Unit {0}

-- what was read is such a thing
abbrev pub IsReadAs : {T : Type 0} → (T → Type 0) → Type 0 → Result T Unread → Type 0
IsReadAs Is Absent (Ok value) = Is value
IsReadAs Is Absent (Err e) = WhyUnread Absent e

-- what was read of words is what they ask for
abbrev pub WordsAreRead : List (List ℕ) → Result (Parsed × List ℕ) Unread → Type 0
WordsAreRead words answer = IsReadAs (λ p. Spells words (asked_of p.0 p.1)) (SpellNothing words) answer

-- what is told of it
abbrev pub told : {T : Type 0} → Result T Unread → Result (Option T) TinkError
told (Ok value) = Ok (Some value)
told (Err Nothing) = Ok None
told (Err NoMemory) = Err (record { kind = OutOfMemory })
