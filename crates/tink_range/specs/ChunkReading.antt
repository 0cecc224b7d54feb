-- What opening one chunk of an object says.
use Rattle.std.specs.Prelude.{◌≡◌, ℕ, ◌+◌, min, Bool, true, false, List, length, take, drop, nat_le, IfSome, [], Result, Ok, Err}
use Rattle.std.specs.declared.option.Option.{Option}
use Rattle.std.specs.Io.KnownBytes.{Appends}
use Rattle.tink_io.specs.Faults.{Rose}
use Rattle.tink_io.specs.Written.{AppendsPrefix}
use Rattle.tink_io.specs.declared.error.Kind.{Kind}
use Rattle.tink_io.specs.declared.error.Kind.TheVariants.{BadSegment, ReadFault, WriteFault}
use Rattle.tink_io.specs.declared.error.TinkError.{TinkError}
use Rattle.tink_range.specs.Ranges.{within}

-- the chunk is the segment of this text, or of no text
abbrev pub ChunkOpensTo : (ℕ → Bool → List ℕ → List ℕ) → ℕ → Bool → List ℕ → Bool → List ℕ → Type 0
ChunkOpensTo seg number last chunk true text = seg number last text ≡ chunk
ChunkOpensTo seg number last chunk false text = (t : List ℕ) → seg number last t ≡ chunk → ⊥

-- a chunk of an object that is read: its number, where it begins, the bytes from there on, and its room
pub record ChunkAt : Type 0 where
  pub number : ℕ
  pub start : ℕ
  pub rest : ℕ
  pub room : ℕ

-- the same, where the object tells its bytes: the last chunk has no more than its room
abbrev pub OpensAt : (ℕ → Bool → List ℕ → List ℕ) → ChunkAt → Option (List ℕ) → Bool → List ℕ → Type 0
OpensAt seg c all opens text = IfSome all (λ S. ChunkOpensTo seg c.number (nat_le c.rest c.room) (take c.room (drop c.start S)) opens text)

-- what stands of an object and of a sink, before and after a call
pub record Moments (W : Type 0) : Type 0 where
  pub all : Option (List ℕ)
  pub reads_before : ℕ
  pub reads_after : ℕ
  pub old : W
  pub new : W

-- the same, by what an object tells and how often it has failed
abbrev pub ends_of : {A W : Type 0} → (A → Option (List ℕ)) → (A → ℕ) → A → A → W → W → Moments W
ends_of bytes faults object object_after sink sink_after = record {
  all = bytes object;
  reads_before = faults object;
  reads_after = faults object_after;
  old = sink;
  new = sink_after;
}

module _ {W : Type 0} (got : W → Option (List ℕ)) (faults : W → ℕ) (seg : ℕ → Bool → List ℕ → List ℕ) (c : ChunkAt) (over lo hi at : ℕ) (e : Moments W) where
  -- the chunk is the segment of a text, and the range's part of it was written
  pub record GaveOne (n : ℕ) : Type 0 where
    pub text : List ℕ
    pub opens : OpensAt seg c e.all true text
    pub fits : length text + over ≡ min c.rest c.room
    pub written : Appends (got e.old) (got e.new) (within lo hi at text)
    pub count : n ≡ length (within lo hi at text)

  -- the sink failed: a prefix of that part was written
  pub record GaveFront : Type 0 where
    pub text : List ℕ
    pub opens : OpensAt seg c e.all true text
    pub fits : length text + over ≡ min c.rest c.room
    pub written : AppendsPrefix (got e.old) (got e.new) (within lo hi at text)
    pub rose : Rose (faults e.old) (faults e.new)

  -- the object failed, and nothing was written
  pub record GaveNothing : Type 0 where
    pub rose : Rose e.reads_before e.reads_after
    pub same : e.new ≡ e.old

  -- the chunk is the segment of no text, and nothing was written
  pub record FindsNone (n : ℕ) : Type 0 where
    pub number : n ≡ c.number
    pub none : OpensAt seg c e.all false []
    pub same : e.new ≡ e.old

  abbrev pub OneRefused : Kind → Type 0
  OneRefused ReadFault = GaveNothing
  OneRefused WriteFault = GaveFront
  OneRefused (BadSegment n) = FindsNone n
  OneRefused _ = ⊥

-- what giving the range's part of one chunk answers
abbrev pub OneMeans : {W : Type 0} → (W → Option (List ℕ)) → (W → ℕ) → (ℕ → Bool → List ℕ → List ℕ) → ChunkAt → ℕ → ℕ → ℕ → ℕ → Moments W → Result ℕ TinkError → Type 0
OneMeans got faults seg c over lo hi at e (Ok n) = GaveOne got faults seg c over lo hi at e n
OneMeans got faults seg c over lo hi at e (Err error) = OneRefused got faults seg c over lo hi at e error.kind
