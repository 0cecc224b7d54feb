-- From the keys that a reader of ranges holds to a range under the keyset of a file.
use Rattle.std.proofs.Common.{◌≡◌, inr, ℕ, List, [], map, Result, Ok, Err, refl, subst, ◌∙◌}
use Rattle.std.specs.Prelude.{MatchResult, length}
use Rattle.tink_io.specs.declared.error.TinkError.{TinkError}
use Rattle.stream_model.specs.Opening.{opening_key}
use Rattle.tink_keyset_io.specs.Files.{wire_of}
use Rattle.tink_sets.specs.declared.typed_set.TypedPrimitiveSet.{TypedPrimitiveSet}
use Rattle.tink_streaming_keys.specs.declared.stream_kind.StreamKind.{StreamKind}
use Rattle.tink_streaming_aead.specs.Wrapped.{KeepsOrder, all_entries, keys_in}
use Rattle.tink_range.specs.ChunkReading.{Moments}
use Rattle.tink_run.specs.AllKeys.{load}
use Rattle.tink_run.specs.HeldKeys.{GivesLoaded}
use Rattle.tink_rewrap.specs.KeysetRanges.{KeysetRangeMeans}
use Rattle.tink_rewrap.specs.SetRanges.{LeavesRangeEnds, RangesOf}
use Rattle.tink_rewrap.proofs.KeysetSteps.{loaded, slices}
use Rattle.tink_rewrap.proofs.SetSteps.{ranges_of_loaded}
use Rattle.tink_c_bytes.specs.Delivered.{MadeBy}
use Rattle.tink_c_bytes.specs.Taken.{IsTaken}
use Rattle.tink_c_bytes.specs.declared.growing.Growing.{Growing}
use Rattle.tink_c_streams.specs.Streams.{GivesRange, IsNoRange, IsRange, RefusesRange, faults_of, got_of, moments}
use Rattle.tink_c_streams.specs.NewReaders.{BeginsNoReader, NoNewReader}
use Rattle.tink_c_streams.specs.RangeReaders.{HasKeysOf, IsRangeReader}
use Rattle.tink_c_streams.specs.declared.range_readers.RangeReader.{RangeReader}
use Rattle.tink_c_streams.proofs.StreamSteps.{ranged, read}

-- what a set says of a range of an object in memory
abbrev pub SetMeans : List ℕ → TypedPrimitiveSet StreamKind → ℕ → ℕ → List ℕ → Growing → Growing → Result ℕ TinkError → Type 0
SetMeans aad set start len object sink sink' answer =
    RangesOf got_of faults_of (map (opening_key aad) (keys_in (all_entries set.entries))) (length object) start len (moments object sink sink') answer

-- a range under the keys of a reader is one under the keyset that they were loaded from
pub ranged_by_set : (wire aad input : List ℕ) (start len : ℕ) (r : RangeReader) (lent object object' : List ℕ) (sink sink' : Growing) (answer : Result ℕ TinkError) (result : Result (List ℕ) TinkError)
    → HasKeysOf wire aad r → lent ≡ r.data.items → object ≡ input → object' ≡ object → sink.bytes.items ≡ []
    → KeepsOrder r.keys.entries → SetMeans lent r.keys start len object sink sink' answer → LeavesRangeEnds answer object object' sink sink'
    → IsTaken answer sink' result → MadeBy (IsRange wire aad input start len) (IsNoRange wire aad input start len) result
ranged_by_set wire aad input start len r lent object object' sink sink' answer result is same_aad same kept fresh order means early taken =
    let e : Moments Growing = moments object sink sink' in
    let under : SetMeans aad r.keys start len object sink sink' answer =
    subst (λ (x : List ℕ). SetMeans x r.keys start len object sink sink' answer) (same_aad ∙ is.data_is) means in
    let whole : KeysetRangeMeans got_of faults_of wire aad (length object) start len object object' e answer =
    loaded got_of faults_of wire aad (length object) start len object object' e r.keys answer is.loads
    (ranges_of_loaded got_of faults_of aad r.keys (length object) start len e answer order under) early in
    ranged wire aad input start len object object' sink sink' answer result same kept fresh whole
    (slices got_of faults_of wire aad (length object) start len object object' e refl answer whole) taken

-- ---- the keyset of a file

module _ (file aad : List ℕ) where
  pub ranged_in_file : (input : List ℕ) (start len : ℕ) (r : RangeReader) (result : Result (List ℕ) TinkError) → IsRangeReader file aad r
      → ((wire x : List ℕ) → HasKeysOf wire x r → MadeBy (IsRange wire x input start len) (IsNoRange wire x input start len) result)
      → MadeBy (GivesRange file aad input start len) (RefusesRange file aad input start len) result
  ranged_in_file input start len r result is means =
      read file (λ wire. IsRange wire aad input start len) (λ wire. IsNoRange wire aad input start len) is.wire result is.reads (means is.wire aad is.holds)

  pub under_file : (wire : List ℕ) (result : Result RangeReader TinkError) → wire_of file ≡ Ok wire
      → MatchResult result (λ r. HasKeysOf wire aad r) (λ e. NoNewReader wire e.kind)
      → MatchResult result (λ r. IsRangeReader file aad r) (λ e. BeginsNoReader file e.kind)
  under_file wire (Ok r) is m = record { wire = wire; reads = is; holds = m }
  under_file wire (Err e) is m = inr (inr (record { wire = wire; reads = is; holds = m }))
