-- What is made of the whole of an input: a stream, its text, a moved stream, a token, its payload, or a range of a text.
use Rattle.std.specs.Prelude.{◌≡◌, ◌⊎◌, ℕ, List, [], length, Option, Some, Result, Ok, Err}
use Rattle.tink_io.specs.declared.error.Kind.{Kind}
use Rattle.tink_io.specs.declared.error.TinkError.{TinkError}
use Rattle.tink_io.specs.Outside.{Outside}
use Rattle.stream_model.specs.Agree.{joined}
use Rattle.stream_model.specs.Opening.{IsChosen, IsStream, OpeningKey}
use Rattle.loading_model.specs.Loading.{Loaded, opening_keys}
use Rattle.tink_keyset_io.specs.Files.{wire_of}
use Rattle.tink_range.specs.ChunkReading.{Moments}
use Rattle.tink_run.specs.AllKeys.{load}
use Rattle.tink_run.specs.Run.{AnswerMeans, OkMeans}
use Rattle.tink_run.specs.declared.report.Command.{Command}
use Rattle.tink_run.specs.declared.report.Report.{Report}
use Rattle.tink_rewrap.specs.KeysetRanges.{KeysetRangeMeans, slice_of_text}
use Rattle.tink_rewrap.specs.RewrapPromises.{IsWholeRewrap}
use Rattle.tink_rewrap.specs.Rewrapping.{RewrapMeans, sides}
use Rattle.tink_c_bytes.specs.declared.growing.Growing.{Growing}

-- the file is a keyset with these bytes in the wire format, of which this holds
pub record InFile (file : List ℕ) (P : List ℕ → Type 0) : Type 0 where
  pub wire : List ℕ
  pub reads : wire_of file ≡ Ok wire
  pub holds : P wire

-- ---- sealed, opened and moved streams

-- the input lies there, and nothing was written
abbrev pub start_of : List ℕ → Outside
start_of input = record { left = Some input; read_faults = 0; got = Some []; write_faults = 0 }

-- all was done, as `Whole left end report` says, with these random bytes left, and this was written
pub record Writes (Whole : List ℕ → Outside → Report → Type 0) (output : List ℕ) : Type 0 where
  pub left_random : List ℕ
  pub end : Outside
  pub report : Report
  pub got : end.got ≡ Some output
  pub whole : Whole left_random end report

-- why nothing is given, as `Fails left end answer` says: neither end failed
pub record WritesNot (Fails : List ℕ → Outside → Result Report TinkError → Type 0) (kind : Kind) : Type 0 where
  pub left_random : List ℕ
  pub end : Outside
  pub reads : end.read_faults ≡ 0
  pub writes : end.write_faults ≡ 0
  pub cause : Fails left_random end (Err (record { kind = kind }))

-- a stream is sealed or opened under a keyset in the wire format
module _ (command : Command) (wire aad random input : List ℕ) where
  abbrev pub Ran : List ℕ → Outside → Report → Type 0
  Ran left end report = OkMeans command wire aad random left input [] end report

  abbrev pub RanNot : List ℕ → Outside → Result Report TinkError → Type 0
  RanNot left end answer = AnswerMeans command wire aad random left (start_of input) end answer

-- and under the keyset of a file
module _ (command : Command) (file aad random input : List ℕ) where
  abbrev pub Runs : List ℕ → Type 0
  Runs output = InFile file (λ wire. Writes (Ran command wire aad random input) output)

  abbrev pub RunsNot : Kind → Type 0
  RunsNot kind = (wire_of file ≡ Err kind) ⊎ InFile file (λ wire. WritesNot (RanNot command wire aad random input) kind)

-- a stream is moved to the primary key of another keyset
module _ (wire aad to to_aad random input : List ℕ) where
  abbrev pub Moved : List ℕ → Outside → Report → Type 0
  Moved left end report = IsWholeRewrap (sides wire aad to to_aad) random left input [] end report

  abbrev pub MovedNot : List ℕ → Outside → Result Report TinkError → Type 0
  MovedNot left end answer = RewrapMeans (sides wire aad to to_aad) random left (start_of input) end answer

module _ (file aad to to_aad random input : List ℕ) where
  abbrev pub Moves : List ℕ → Type 0
  Moves output = InFile file (λ wire. InFile to (λ into. Writes (Moved wire aad into to_aad random input) output))

  abbrev pub MovesNot : Kind → Type 0
  MovesNot kind =
      (wire_of file ≡ Err kind)
      ⊎ InFile file (λ wire. (wire_of to ≡ Err kind) ⊎ InFile to (λ into. WritesNot (MovedNot wire aad into to_aad random input) kind))

-- ---- ranges

abbrev pub got_of : Growing → Option (List ℕ)
got_of s = Some s.bytes.items

abbrev pub faults_of : Growing → ℕ
faults_of s = s.faults

abbrev pub moments : List ℕ → Growing → Growing → Moments Growing
moments input old new = record { all = Some input; reads_before = 0; reads_after = 0; old = old; new = new }

module _ (wire aad input : List ℕ) (start len : ℕ) where
  -- the range of the text was written. Where the input is a stream of the chosen key, it is that slice of its text.
  pub record IsRange (output : List ℕ) : Type 0 where
    pub old : Growing
    pub new : Growing
    pub fresh : old.bytes.items ≡ []
    pub got : new.bytes.items ≡ output
    pub count : ℕ
    pub means : KeysetRangeMeans got_of faults_of wire aad (length input) start len input input (moments input old new) (Ok count)
    pub slice : (l : Loaded) (key : OpeningKey) (texts : List (List ℕ)) → load wire ≡ Ok l → IsChosen (opening_keys aad l) input (Some key)
        → IsStream key input texts → output ≡ slice_of_text start len (joined texts)

  -- why there is none: neither end failed
  pub record IsNoRange (kind : Kind) : Type 0 where
    pub old : Growing
    pub new : Growing
    pub unfailed : new.faults ≡ 0
    pub means : KeysetRangeMeans got_of faults_of wire aad (length input) start len input input (moments input old new) (Err (record { kind = kind }))

module _ (file aad input : List ℕ) (start len : ℕ) where
  abbrev pub GivesRange : List ℕ → Type 0
  GivesRange output = InFile file (λ wire. IsRange wire aad input start len output)

  abbrev pub RefusesRange : Kind → Type 0
  RefusesRange kind = (wire_of file ≡ Err kind) ⊎ InFile file (λ wire. IsNoRange wire aad input start len kind)
