-- What is outside at one moment.
use Rattle.std.specs.Prelude.{◌≡◌, ℕ, ◌≤◌, List, Option, Some}
use Rattle.tink_io.specs.Faults.{Rose}
use Rattle.tink_io.specs.declared.outside.Source as source_of
use Rattle.tink_io.specs.declared.outside.Sink as sink_of

-- what the source has left, what the sink has got, where they tell it, and their counts of faults
pub record Outside : Type 0 where
  pub left : Option (List ℕ)
  pub read_faults : ℕ
  pub got : Option (List ℕ)
  pub write_faults : ℕ

-- the outside at this moment, by what a source has left and has failed, and a sink has got and has failed
abbrev pub outside_of : {S K : Type 0} → (S → Option (List ℕ)) → (S → ℕ) → (K → Option (List ℕ)) → (K → ℕ) → S → K → Outside
outside_of left reads got writes source sink = record { left = left source; read_faults = reads source; got = got sink; write_faults = writes sink }

-- the same by the members of a source's and a sink's bounds, as `outside S.Source K.Sink source.old sink.old`
abbrev pub outside : {S K : Type 0} → source_of.Ghosts S → sink_of.Ghosts K → S → K → Outside
outside S K source sink = outside_of S.left S.faults K.got K.faults source sink

-- nothing was read or written, and no end failed
abbrev pub IsUntouched : Outside → Outside → Type 0
IsUntouched old new = new ≡ old

-- neither count rose
pub record HasNoFault (old new : Outside) : Type 0 where
  pub reads : Rose old.read_faults new.read_faults → ⊥
  pub writes : Rose old.write_faults new.write_faults → ⊥

-- neither count fell
pub record FaultsStay (old new : Outside) : Type 0 where
  pub reads : old.read_faults ≤ new.read_faults
  pub writes : old.write_faults ≤ new.write_faults

-- the source told these bytes and the sink these
pub record AreKnown (m : Outside) (T G : List ℕ) : Type 0 where
  pub left : m.left ≡ Some T
  pub got : m.got ≡ Some G
