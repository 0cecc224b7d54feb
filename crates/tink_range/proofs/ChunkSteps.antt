-- From the opening of a chunk and the writing of a part of its text to the answer.
use Rattle.std.proofs.Common.{◌≡◌, ◌+◌, min, ℕ, true, false, List, [], length, sym, subst}
use Rattle.std.specs.Prelude.{Bool, Result, Ok, Err, IfErr, IfOk, OnErr, OnOk}
use Rattle.std.specs.declared.option.Option.{Option}
use Rattle.std.specs.Io.KnownBytes.{Appends}
use Rattle.tink_io.specs.Faults.{Rose}
use Rattle.tink_io.specs.Written.{AppendsPrefix}
use Rattle.tink_io.specs.declared.error.Kind.{Kind}
use Rattle.tink_io.specs.declared.error.Kind.TheVariants.{WriteFault}
use Rattle.tink_io.specs.declared.error.TinkError.{TinkError}
use Rattle.tink_range.specs.ChunkReading.{ChunkAt, Moments, OneMeans, OneRefused, OpensAt}
use Rattle.tink_range.specs.Ranges.{within}

module _ {W : Type 0} (got : W → Option (List ℕ)) (faults : W → ℕ) (seg : ℕ → Bool → List ℕ → List ℕ) (c : ChunkAt) (over lo hi at : ℕ) (e : Moments W) where
  -- the chunk is the segment of a text, of which the range's part went to the sink, or a prefix
  pub one_written : (text : List ℕ) (r : Result ℕ TinkError) → OpensAt seg c e.all true text → length text + over ≡ min c.rest c.room
      → OnOk r (Appends (got e.old) (got e.new) (within lo hi at text)) → IfOk r (λ n. n ≡ length (within lo hi at text))
      → OnErr r (AppendsPrefix (got e.old) (got e.new) (within lo hi at text)) → IfErr r (λ x. x ≡ record { kind = WriteFault }) → OnErr r (Rose (faults e.old) (faults e.new))
      → OneMeans got faults seg c over lo hi at e r
  one_written text (Ok n) opens fits written count prefix is rose = record { text = text; opens = opens; fits = fits; written = written; count = count }
  one_written text (Err x) opens fits written count prefix is rose =
      subst (λ (y : TinkError). OneRefused got faults seg c over lo hi at e y.kind) (sym is) (record { text = text; opens = opens; fits = fits; written = prefix; rose = rose })

  -- a refusal by this kind
  pub one_refused : (error : TinkError) (kind : Kind) → error ≡ record { kind = kind } → OneRefused got faults seg c over lo hi at e kind → OneRefused got faults seg c over lo hi at e error.kind
  one_refused error kind is r = subst (λ (x : TinkError). OneRefused got faults seg c over lo hi at e x.kind) (sym is) r

-- that a chunk is the segment of no text says nothing of a text
pub none_opens : (seg : ℕ → Bool → List ℕ → List ℕ) (c : ChunkAt) (all : Option (List ℕ)) (opens : Bool) (text : List ℕ) → opens ≡ false → OpensAt seg c all opens text → OpensAt seg c all false []
none_opens seg c all opens text is h = subst (λ (b : Bool). OpensAt seg c all b text) is h
