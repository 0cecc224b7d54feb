-- How giving a range ends.
use Rattle.std.proofs.Common.{◌≡◌, ◌≤◌, ◌+◌, ◌-◌, max, ℕ, List, [], ◌++◌, length, refl, sym, subst, arith, Some, None, IfSome}
use Rattle.std.specs.Prelude.{Result}
use Rattle.std.proofs.Math.Seq.{take-length}
use Rattle.std.specs.declared.option.Option.{Option}
use Rattle.std.specs.Io.KnownBytes.{Appends}
use Rattle.tink_io.specs.Written.{AppendsPrefix}
use Rattle.tink_io.proofs.FaultLemmas.{Rose-earlier}
use Rattle.tink_io.proofs.WrittenLemmas.{then_prefix}
use Rattle.tink_io.specs.declared.error.TinkError.{TinkError}
use Rattle.tink_io.specs.declared.error.Kind.{Kind}
use Rattle.tink_io.specs.declared.error.Kind.TheVariants.{BadSegment, ReadFault, WriteFault}
use Rattle.tink_streaming_segment.specs.declared.segment_traits.SegmentDecrypter.{Ghosts}
use Rattle.tink_streaming_io.specs.Openers.{segment_map}
use Rattle.tink_streaming_segment.specs.declared.opener.Opener.{Opener}
use Rattle.stream_model.specs.Cut.{room_at}
use Rattle.tink_range.specs.ChunkReading.{Moments, OneMeans, OneRefused}
use Rattle.tink_range.specs.Giving.{Cutting, GaveAll, GiveRefused, chunks_in}
use Rattle.tink_range.specs.RangeCores.{IsSameCore, chunk_in}
use Rattle.tink_range.specs.Ranges.{AllGive, SomeGive, StopsAtChunk, within}
use Rattle.tink_range.specs.declared.chunks.RangeCore.{RangeCore}
use Rattle.tink_range.proofs.GivesFacts.{none_touched}
use Rattle.tink_range.proofs.GivingSteps.{HasGiven, ended}
use Rattle.tink_range.proofs.GivingTold.{Appends-none, Giving, IsNext, told_one, told_stops, chunk}

-- all that was written is a prefix of it
front_whole : (a b : Option (List ℕ)) (xs : List ℕ) → Appends a b xs → AppendsPrefix a b xs
front_whole a b xs whole = (length xs, omega arith, subst (Appends a b) (sym (take-length xs)) whole)

some_given : (c : Cutting) (lo hi : ℕ) (all : Option (List ℕ)) (number start text : ℕ) (bytes : List ℕ) → IfSome all (HasGiven c lo hi number start text bytes) → IfSome all (λ S. SomeGive c.seg c.over lo hi (chunks_in c S) bytes)
some_given c lo hi None number start text bytes given = tt
some_given c lo hi (Some S) number start text bytes given = (number, text, _, given)

all_given : (c : Cutting) (lo hi : ℕ) (all : Option (List ℕ)) (number start text : ℕ) (bytes : List ℕ) → hi ≤ max lo text → IfSome all (HasGiven c lo hi number start text bytes) → IfSome all (λ S. AllGive c.seg c.over lo hi (chunks_in c S) bytes)
all_given c lo hi None number start text bytes past given = tt
all_given c lo hi (Some S) number start text bytes past given = ended c lo hi number start text bytes S past given

module _ {W : Type 0} (got : W → Option (List ℕ)) (faults : W → ℕ) (c : Cutting) (lo hi : ℕ) (e : Moments W) where
  -- the range's end was reached
  pub gave_all : (given number start text : ℕ) → hi ≤ text → Giving c lo hi e.all (got e.old) (got e.new) given number start text → GaveAll got faults c lo hi e given
  gave_all given number start text past state = record {
    bytes = state.bytes;
    gives = all_given c lo hi e.all number start text state.bytes (omega arith) state.gives;
    written = state.written;
    count = state.count;
  }

  -- a call that gives the next chunk's part is refused
  pub gave_refused : (mid : W) (behind given number start text reads : ℕ) (kind : Kind) → e.reads_before ≤ reads → faults e.old ≤ faults mid → (here : IsNext c lo hi behind number start text)
      → IfSome e.all (λ S. length S ≡ c.front + behind) → Giving c lo hi e.all (got e.old) (got mid) given number start text
      → OneRefused got faults c.seg (chunk c lo hi behind number start text here) c.over lo hi text (record { all = e.all; reads_before = reads; reads_after = e.reads_after; old = mid; new = e.new }) kind
      → GiveRefused got faults c lo hi e kind
  gave_refused mid behind given number start text reads ReadFault before later here long state one = record {
    rose = Rose-earlier _ _ _ before one.rose;
    bytes = state.bytes;
    gives = some_given c lo hi e.all number start text state.bytes state.gives;
    written = subst (λ (w : W). AppendsPrefix (got e.old) (got w) state.bytes) (sym one.same) (front_whole (got e.old) (got mid) state.bytes state.written);
  }
  gave_refused mid behind given number start text reads WriteFault before later here long state one = record {
    rose = Rose-earlier _ _ _ later one.rose;
    bytes = state.bytes ++ within lo hi text one.text;
    gives = some_given c lo hi e.all _ _ _ (state.bytes ++ within lo hi text one.text) (told_one c lo hi behind number start text here e.all state.bytes one.text long state.gives one.opens);
    written = then_prefix (got e.old) (got mid) (got e.new) state.bytes (within lo hi text one.text) state.written one.written;
  }
  gave_refused mid behind given number start text reads (BadSegment n) before later here long state one = record {
    bytes = state.bytes;
    stops = subst (λ (m : ℕ). IfSome e.all (λ S. StopsAtChunk c.seg c.over lo hi (chunks_in c S) state.bytes m)) (sym one.number) (told_stops c lo hi behind number start text here e.all state.bytes long state.gives one.none);
    written = subst (λ (w : W). Appends (got e.old) (got w) state.bytes) (sym one.same) state.written;
  }
  gave_refused mid behind given number start text reads _ before later here long state one = absurd one

-- what is said of a core that cuts as another one is said of that one
pub same_one : {W D : Type 0} {g : Ghosts D} (got : W → Option (List ℕ)) (faults : W → ℕ) (old core : RangeCore D g) (number start lo hi at : ℕ) (all known : Option (List ℕ)) (before after : ℕ) (w v : W) (r : Result ℕ TinkError)
    → IsSameCore old core → known ≡ all
    → OneMeans got faults (segment_map core.opener) (chunk_in core number start) core.opener.overhead lo hi at (record { all = known; reads_before = before; reads_after = after; old = w; new = v }) r
    → OneMeans got faults (segment_map old.opener) (chunk_in old number start) old.opener.overhead lo hi at (record { all = all; reads_before = before; reads_after = after; old = w; new = v }) r
same_one {W} {D} {g} got faults old core number start lo hi at all known before after w v r same told one =
    let of : Opener D g → ℕ → ℕ → Option (List ℕ) → Type 0 = λ o f b k.
    OneMeans got faults (segment_map o) (record { number = number; start = f + start; rest = b - start; room = room_at o.first o.size number }) o.overhead lo hi at (record { all = k; reads_before = before; reads_after = after; old = w; new = v }) r in
    subst (λ (o : Opener D g). of o old.front old.behind all) same.opener
    (subst (λ (f : ℕ). of core.opener f old.behind all) same.front
    (subst (λ (b : ℕ). of core.opener core.front b all) same.behind
    (subst (λ (k : Option (List ℕ)). of core.opener core.front core.behind k) told one)))

-- an empty range gives nothing
pub nothing_to_give : {W : Type 0} (got : W → Option (List ℕ)) (faults : W → ℕ) (c : Cutting) (lo hi : ℕ) (all : Option (List ℕ)) (before after : ℕ) (w : W) → hi ≤ lo
    → GaveAll got faults c lo hi (record { all = all; reads_before = before; reads_after = after; old = w; new = w }) 0
nothing_to_give got faults c lo hi all before after w empty = record {
  bytes = [];
  gives = by all;
  written = Appends-none (got w);
  count = refl;
}
  where
    by : (o : Option (List ℕ)) → IfSome o (λ S. AllGive c.seg c.over lo hi (chunks_in c S) [])
    by None = tt
    by (Some S) = (_, none_touched c.seg c.over lo hi 0 0 (chunks_in c S) (omega arith))
