-- What a range has done.
use Rattle.std.specs.Prelude.{◌≡◌, ℕ, List, false, length, Option, Some, Ok, option_map}
use Rattle.tink_cli_words.specs.LineRead.{LineRead}
use Rattle.stream_model.specs.Agree.{joined}
use Rattle.stream_model.specs.Opening.{IsChosen, IsStream, OpeningKey}
use Rattle.loading_model.specs.Loading.{Loaded, opening_keys}
use Rattle.tink_range.specs.ChunkReading.{Moments}
use Rattle.tink_range.specs.Giving.{Cutting}
use Rattle.tink_range.specs.KeyRanges.{IsCutUnder}
use Rattle.tink_range.specs.RangeReading.{GaveRange}
use Rattle.tink_run.specs.AllKeys.{load}
use Rattle.tink_rewrap.specs.KeysetRanges.{WroteSlice}
use Rattle.tink_system.specs.States.{SystemState, content}
use Rattle.tink_cli_jobs.specs.Jobs.{IsKeysetOf, data_of}
use Rattle.tink_cli_jobs.specs.Loading.{named}
use Rattle.tink_cli_jobs.specs.Outputs.{IsPut}
use Rattle.tink_cli_jobs.specs.Protecting.{AreSparedOf, names_twice}
use Rattle.tink_cli_jobs.specs.declared.job.Job.{Job}

-- what an output has before and after, over an object of these bytes
abbrev pub moments_of : List ℕ → List ℕ → Option (List ℕ) → Moments (Option (List ℕ))
moments_of object before after = record { all = Some object; reads_before = 0; reads_after = 0; old = Some before; new = after }

-- an object that is cut so gave the range
abbrev pub GaveOf : ℕ → ℕ → List ℕ → List ℕ → Option (List ℕ) → ℕ → Cutting → ℕ → Type 0
GaveOf start len object before after count c behind =
    GaveRange (λ (got : Option (List ℕ)). got) (λ (got : Option (List ℕ)). 0) c behind start len (moments_of object before after) count

-- Whatever the object is: it begins under a key of the keyset, its last chunk and all chunks that the range touches are segments
-- of texts, and the range's parts of these texts are behind what was there.
abbrev pub GaveParts : List ℕ → List ℕ → ℕ → ℕ → List ℕ → List ℕ → Option (List ℕ) → ℕ → Type 0
GaveParts keyset aad start len object before after count =
    (l : Loaded) × (load keyset ≡ Ok l) × IsCutUnder (opening_keys aad l) (Some object) (length object) (GaveOf start len object before after count)

-- The range's parts of the chunks are behind what was there. Of a stream of the chosen key that slice of its text is. The count is
-- that of the bytes.
pub record IsSliceOf (keyset aad : List ℕ) (start len : ℕ) (object before : List ℕ) (after : Option (List ℕ)) : Type 0 where
  pub count : ℕ
  pub means : GaveParts keyset aad start len object before after count
  pub slice : (l : Loaded) (key : OpeningKey) (texts : List (List ℕ))
      → load keyset ≡ Ok l → IsChosen (opening_keys aad l) object (Some key) → IsStream key object texts
      → WroteSlice start len (joined texts) before after count

-- the range of the job's input is in its output
pub record IsRangedOf (keyset : List ℕ) (job : Job) (start len : ℕ) (old new : SystemState) (got got_after : Option (List ℕ)) : Type 0 where
  pub object : List ℕ
  pub read : content old (option_map (λ n. n.now) job.input) ≡ Some object
  pub put : IsPut (λ before after. IsSliceOf keyset job.aad.now start len object before after) job.keeps_output old new (option_map (λ n. n.now) job.output) got got_after

-- the range that the words name, in an output that is none of their files of keys; standard input is named for one thing at most
pub record IsRanged (line : LineRead) (old new : SystemState) (got got_after : Option (List ℕ)) : Type 0 where
  pub start : ℕ
  pub start_is : line.start ≡ Some start
  pub len : ℕ
  pub len_is : line.length ≡ Some len
  pub keyset : List ℕ
  pub keys : IsKeysetOf line old line.keys keyset
  pub spared : AreSparedOf old line
  pub once : names_twice line ≡ false
  pub object : List ℕ
  pub read : content old (named line.first) ≡ Some object
  pub put : IsPut (λ before after. IsSliceOf keyset (data_of line.aad) start len object before after) line.no_clobber old new (named line.output) got got_after
