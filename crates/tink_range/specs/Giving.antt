-- What giving a range says.
use Rattle.std.specs.Prelude.{◌≡◌, ℕ, Bool, List, length, drop, IfSome, Result, Ok, Err}
use Rattle.std.specs.declared.option.Option.{Option}
use Rattle.std.specs.Io.KnownBytes.{Appends}
use Rattle.tink_io.specs.Faults.{Rose}
use Rattle.tink_io.specs.Written.{AppendsPrefix}
use Rattle.tink_io.specs.declared.error.Kind.{Kind}
use Rattle.tink_io.specs.declared.error.Kind.TheVariants.{BadSegment, ReadFault, WriteFault}
use Rattle.tink_io.specs.declared.error.TinkError.{TinkError}
use Rattle.stream_model.specs.Cut.{cut}
use Rattle.tink_range.specs.ChunkReading.{Moments}
use Rattle.tink_range.specs.Ranges.{AllGive, SomeGive, StopsAtChunk}

-- how an object is cut: the segments of texts, the bytes of the front, the sizes of the first and of each later chunk, and
-- by how much a segment is longer than its text
pub record Cutting : Type 0 where
  pub seg : ℕ → Bool → List ℕ → List ℕ
  pub front : ℕ
  pub first : ℕ
  pub size : ℕ
  pub over : ℕ

-- the chunks behind the front
abbrev pub chunks_in : Cutting → List ℕ → List (List ℕ)
chunks_in c S = cut c.first c.size (drop c.front S)

module _ {W : Type 0} (got : W → Option (List ℕ)) (faults : W → ℕ) (c : Cutting) (lo hi : ℕ) (e : Moments W) where
  -- all touched chunks are segments of texts, and the range's parts of these were written
  pub record GaveAll (n : ℕ) : Type 0 where
    pub bytes : List ℕ
    pub gives : IfSome e.all (λ S. AllGive c.seg c.over lo hi (chunks_in c S) bytes)
    pub written : Appends (got e.old) (got e.new) bytes
    pub count : n ≡ length bytes

  -- the object or the sink failed: a prefix of what some touched chunks from the first on give was written
  pub record GaveSome (before after : ℕ) : Type 0 where
    pub rose : Rose before after
    pub bytes : List ℕ
    pub gives : IfSome e.all (λ S. SomeGive c.seg c.over lo hi (chunks_in c S) bytes)
    pub written : AppendsPrefix (got e.old) (got e.new) bytes

  -- chunk n is the first touched one that is the segment of no text, and what those before it give was written
  pub record GaveUpTo (n : ℕ) : Type 0 where
    pub bytes : List ℕ
    pub stops : IfSome e.all (λ S. StopsAtChunk c.seg c.over lo hi (chunks_in c S) bytes n)
    pub written : Appends (got e.old) (got e.new) bytes

  abbrev pub GiveRefused : Kind → Type 0
  GiveRefused ReadFault = GaveSome e.reads_before e.reads_after
  GiveRefused WriteFault = GaveSome (faults e.old) (faults e.new)
  GiveRefused (BadSegment n) = GaveUpTo n
  GiveRefused _ = ⊥

-- what giving a range answers
abbrev pub GiveMeans : {W : Type 0} → (W → Option (List ℕ)) → (W → ℕ) → Cutting → ℕ → ℕ → Moments W → Result ℕ TinkError → Type 0
GiveMeans got faults c lo hi e (Ok n) = GaveAll got faults c lo hi e n
GiveMeans got faults c lo hi e (Err error) = GiveRefused got faults c lo hi e error.kind
