-- What the command that writes the key and the sizes of a stream has done.
use Rattle.std.specs.Prelude.{◌≡◌, ◌⊎◌, ◌++◌, ℕ, List, length, false, Option, Some, Ok, codes, decimal}
use Rattle.std.specs.Io.KnownBytes.{Appends}
use Rattle.tink_cli_words.specs.LineRead.{LineRead}
use Rattle.loading_model.specs.Loading.{Loaded, opening_keys}
use Rattle.tink_io.specs.Faults.{Rose}
use Rattle.tink_io.specs.Written.{AppendsPrefix}
use Rattle.tink_range.specs.KeyRanges.{IsCutUnder}
use Rattle.tink_run.specs.AllKeys.{load}
use Rattle.tink_rewrap.specs.StreamInfos.{IsIdOfKey, Tells, TellsStream}
use Rattle.tink_rewrap.specs.declared.info.of_set.StreamInfo.{StreamInfo}
use Rattle.tink_system.specs.States.{SystemState, content}
use Rattle.tink_cli_jobs.specs.Jobs.{IsKeysetOf, data_of}
use Rattle.tink_cli_jobs.specs.Loading.{named}
use Rattle.tink_cli_jobs.specs.Protecting.{names_twice}

-- the lines
abbrev pub info_lines : StreamInfo → List ℕ
info_lines i =
    codes "key " ++ (decimal i.key_id ++ (codes "\nsegments " ++ (decimal i.segments ++ (codes "\nsegment " ++ (decimal i.segment_len
    ++ (codes " bytes\nplaintext " ++ (decimal i.plaintext_len ++ codes " bytes\n")))))))

-- The key that is chosen for an object, and the sizes by its header, its last segment and its length. Of a stream of this key they
-- are those of its texts.
pub record IsInfoOf (keyset aad object : List ℕ) (i : StreamInfo) : Type 0 where
  pub loaded : Loaded
  pub loads : load keyset ≡ Ok loaded
  pub told : IsCutUnder (opening_keys aad loaded) (Some object) (length object) (Tells (IsIdOfKey aad loaded.keys) (Some object) i)
  pub stream : TellsStream keyset aad (Some object) (Ok i)

-- this holds of the lines of an object
pub record IsTold (keyset aad object : List ℕ) (P : List ℕ → Type 0) : Type 0 where
  pub i : StreamInfo
  pub is : IsInfoOf keyset aad object i
  pub shown : P (info_lines i)

-- the same of an input by its name
pub record IsToldOf (keyset aad : List ℕ) (s : SystemState) (input : Option (List ℕ)) (P : List ℕ → Type 0) : Type 0 where
  pub object : List ℕ
  pub read : content s input ≡ Some object
  pub told : IsTold keyset aad object P

-- the same of the input that the words name, under their keyset and data
pub record IsToldBy (line : LineRead) (s : SystemState) (P : List ℕ → Type 0) : Type 0 where
  pub keyset : List ℕ
  pub keys : IsKeysetOf line s line.keys keyset
  pub told : IsToldOf keyset (data_of line.aad) s (named line.first) P

-- the lines are behind what was on standard output; standard input is named for one thing at most
abbrev pub IsInformed : LineRead → SystemState → Option (List ℕ) → Option (List ℕ) → Type 0
IsInformed line s got got_after = (names_twice line ≡ false) × IsToldBy line s (Appends got got_after)

-- What an error of these lines leaves: there is no memory, and standard output stays; or it failed, and a part of the lines is there.
abbrev pub IsUnwritten : List ℕ → Option (List ℕ) → Option (List ℕ) → ℕ → ℕ → ℕ → Type 0
IsUnwritten lines got got_after out out_after status =
    ((status ≡ 10) × (got_after ≡ got)) ⊎ ((status ≡ 12) × Rose out out_after × AppendsPrefix got got_after lines)

-- what an error leaves: standard output stays, or by status 12 a part of these lines is there
abbrev pub LeavesLines : Option (List ℕ) → Option (List ℕ) → Type 0 → ℕ → Type 0
LeavesLines got got_after told status = (got_after ≡ got) ⊎ ((status ≡ 12) × told)

abbrev pub LeavesInfo : LineRead → SystemState → Option (List ℕ) → Option (List ℕ) → ℕ → Type 0
LeavesInfo line s got got_after status = LeavesLines got got_after (IsToldBy line s (AppendsPrefix got got_after)) status
