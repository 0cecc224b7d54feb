-- What a range gave, where it was put.
use Rattle.std.proofs.Common.{◌≡◌, ℕ, List, Bool, true, false, length, refl, sym, ◌∙◌, subst, ap}
use Rattle.std.specs.Io.KnownBytes.{Appends}
use Rattle.std.specs.Prelude.{Option, Some, None, Result, Ok, Err, IfErr, IfOk, IfSome, IsErrAnd, IsSome, OnOk, option_map}
use Rattle.tink_io.specs.declared.error.TinkError.{TinkError}
use Rattle.tink_io.specs.Places.{Ends}
use Rattle.stream_model.specs.Opening.{OpeningKey}
use Rattle.loading_model.specs.Loading.{opening_keys}
use Rattle.tink_cli_files.specs.Streams.{IsShownWhole, RanAndEnded}
use Rattle.tink_range.specs.ChunkReading.{Moments}
use Rattle.tink_range.specs.KeyRanges.{IsCutUnder, RangesUnder}
use Rattle.tink_rewrap.specs.KeysetRanges.{GivesSlice, KeysetRangeMeans}
use Rattle.tink_system.specs.declared.trouble.Trouble.{Trouble}
use Rattle.tink_system.specs.States.{SystemState, content, known_content}
use Rattle.tink_cli_jobs.specs.Outputs.{IsPut}
use Rattle.tink_cli_jobs.specs.Protecting.{AreSparedBy, reads_twice}
use Rattle.tink_cli_jobs.proofs.OutputLemmas.{some_of}
use Rattle.tink_cli_jobs.proofs.ProtectingLemmas.{spared_by_words, twice_by_words}
use Rattle.tink_cli_words.specs.LineRead.{LineRead}
use Rattle.tink_cli_jobs.specs.Jobs.{IsJob}
use Rattle.tink_cli_jobs.specs.Loading.{keyset_of}
use Rattle.tink_cli_ranges.specs.Ranges.{GaveOf, GaveParts, IsRanged, IsRangedOf, IsSliceOf}
use Rattle.tink_cli_jobs.specs.declared.job.Job.{Job}

-- ---- the parts of an object that were given

-- the same over the bytes that an output has got
parts_of : {W : Type 0} (got : W → Option (List ℕ)) (faults : W → ℕ) (keys : List OpeningKey) (whole start len : ℕ) (e : Moments W) (n : ℕ) (X before : List ℕ) (after : Option (List ℕ))
    → e.all ≡ Some X → got e.old ≡ Some before → got e.new ≡ after → length X ≡ whole → RangesUnder got faults keys whole start len e (Ok n)
    → IsCutUnder keys (Some X) (length X) (GaveOf start len X before after n)
parts_of got faults keys whole start len e n X before after all_is old_is new_is size m = record {
  cutting = m.cutting;
  behind = m.behind;
  found = rw all_is at m.found;
  whole_is = m.whole_is ∙ sym size;
  then = record {
    few = m.then.few;
    checked = rw all_is at m.then.checked;
    gave = record {
      bytes = m.then.gave.bytes;
      gives = rw all_is at m.then.gave.gives;
      written = subst (λ (now : Option (List ℕ)). Appends (Some before) now m.then.gave.bytes) new_is
          (subst (λ (was : Option (List ℕ)). Appends was (got e.new) m.then.gave.bytes) old_is m.then.gave.written);
      count = m.then.gave.count;
    };
  };
}

told_length : (all : Option (List ℕ)) (X : List ℕ) (whole : ℕ) → all ≡ Some X → IfSome all (λ S. length S ≡ whole) → length X ≡ whole
told_length all X whole is told = rw is at told

-- known bytes that grew are known
grown : (old now : Option (List ℕ)) (before bytes : List ℕ) → old ≡ Some before → Appends old now bytes → (ys : List ℕ) × (now ≡ Some ys)
grown (Some xs) (Some ys) before bytes is appends = (ys, refl)
grown (Some xs) None before bytes is appends = absurd appends
grown None now before bytes is appends = absurd (cc)

-- written to a sink
parts_written : {A W : Type 0} (got : W → Option (List ℕ)) (faults : W → ℕ) (keyset aad : List ℕ) (whole start len : ℕ) (object object_after : A) (e : Moments W) (n : ℕ) (X before : List ℕ)
    → e.all ≡ Some X → got e.old ≡ Some before → IfSome e.all (λ S. length S ≡ whole)
    → KeysetRangeMeans got faults keyset aad whole start len object object_after e (Ok n) → GaveParts keyset aad start len X before (got e.new) n
parts_written got faults keyset aad whole start len object object_after e n X before all_is old_is told m = (
  m.loaded,
  m.loads,
  parts_of got faults (opening_keys aad m.loaded) whole start len e n X before (got e.new) all_is old_is refl (told_length e.all X whole all_is told) m.means,
)

-- shown under a name: by the draft that was written
parts_of_draft : {A D : Type 0} (got : D → Option (List ℕ)) (faults : D → ℕ) (keyset aad : List ℕ) (whole start len : ℕ) (object object_after : A) (e : Moments D) (n : ℕ)
    (X before : List ℕ) (shown : Option (Option (List ℕ))) (file : Option (List ℕ))
    → e.all ≡ Some X → got e.old ≡ Some before → IfSome e.all (λ S. length S ≡ whole)
    → IfSome (got e.new) (λ bytes. shown ≡ Some (Some bytes)) → ((f : Option (List ℕ)) → shown ≡ Some f → file ≡ f)
    → KeysetRangeMeans got faults keyset aad whole start len object object_after e (Ok n) → GaveParts keyset aad start len X before file n
parts_of_draft got faults keyset aad whole start len object object_after e n X before shown file all_is old_is told is_shown settled m =
    let has = grown (got e.old) (got e.new) before m.means.then.gave.bytes old_is m.means.then.gave.written in
    let whole_shown : shown ≡ Some (Some has.0) = subst (λ (g : Option (List ℕ)). IfSome g (λ bytes. shown ≡ Some (Some bytes))) has.1 is_shown in (
      m.loaded,
      m.loads,
      parts_of got faults (opening_keys aad m.loaded) whole start len e n X before file all_is old_is (has.1 ∙ sym (settled (Some has.0) whole_shown))
          (told_length e.all X whole all_is told) m.means,
    )

parts_by_answer : {A D : Type 0} (got : D → Option (List ℕ)) (faults : D → ℕ) (keyset aad : List ℕ) (whole start len : ℕ) (object object_after : A) (e : Moments D) (n : ℕ) (answer : Result ℕ TinkError)
    (X before : List ℕ) (replaces : Bool) (before_shown shown : Option (Option (List ℕ))) (file : Option (List ℕ)) (i j : ℕ)
    → e.all ≡ Some X → got e.old ≡ Some before → IfSome e.all (λ S. length S ≡ whole) → ((f : Option (List ℕ)) → shown ≡ Some f → file ≡ f)
    → KeysetRangeMeans got faults keyset aad whole start len object object_after e answer → Ends {T = ℕ} (got e.new) replaces before_shown shown i j answer (Ok n)
    → GaveParts keyset aad start len X before file n
parts_by_answer got faults keyset aad whole start len object object_after e n (Ok v) X before replaces before_shown shown file i j all_is old_is told settled m ends =
    subst (λ (k : ℕ). GaveParts keyset aad start len X before file k) (sym ends.0)
    (parts_of_draft got faults keyset aad whole start len object object_after e v X before shown file all_is old_is told ends.1.whole settled m)
parts_by_answer got faults keyset aad whole start len object object_after e n (Err error) X before replaces before_shown shown file i j all_is old_is told settled m ends = absurd ends

-- ---- the range

-- written to a sink
pub slice_written : {A W : Type 0} (got : W → Option (List ℕ)) (faults : W → ℕ) (keyset aad : List ℕ) (whole start len : ℕ) (object object_after : A) (e : Moments W)
    (answer : Result ℕ TinkError) (P : TinkError → Trouble → Type 0) (result : Result (Unit {0}) Trouble)
    → IfSome e.all (λ S. length S ≡ whole) → KeysetRangeMeans got faults keyset aad whole start len object object_after e answer
    → IfOk answer (λ n. GivesSlice got keyset aad start len e n) → IfErr answer (λ error. IsErrAnd result (P error))
    → OnOk result ((X before : List ℕ) → e.all ≡ Some X → got e.old ≡ Some before → IsSliceOf keyset aad start len X before (got e.new))
slice_written got faults keyset aad whole start len object object_after e (Ok n) P (Ok done) told m ok refused = λ X before all has. record {
  count = n;
  means = parts_written got faults keyset aad whole start len object object_after e n X before all has told m;
  slice = λ l key texts loads chosen stream. ok X before l key texts all has loads chosen stream;
}
slice_written got faults keyset aad whole start len object object_after e (Ok n) P (Err t) told m ok refused = tt
slice_written got faults keyset aad whole start len object object_after e (Err error) P (Ok done) told m ok refused = absurd refused
slice_written got faults keyset aad whole start len object object_after e (Err error) P (Err t) told m ok refused = tt

-- shown under a name
pub slice_shown : {A D : Type 0} (got : D → Option (List ℕ)) (faults : D → ℕ) (keyset aad : List ℕ) (whole start len : ℕ) (object object_after : A) (all : Option (List ℕ)) (place : D)
    (e : D → Moments D) (replaces : Bool) (before_shown shown : Option (Option (List ℕ))) (file : Option (List ℕ)) (count : ℕ) (answer : Result ℕ TinkError)
    (P : TinkError → Trouble → Type 0) (result : Result (Unit {0}) Trouble)
    → ((d : D) → (e d).all ≡ all) → ((d : D) → (e d).old ≡ place) → ((d : D) → (e d).new ≡ d) → IfSome all (λ S. length S ≡ whole)
    → RanAndEnded got faults (λ d answer. KeysetRangeMeans got faults keyset aad whole start len object object_after (e d) answer) replaces before_shown shown count answer
    → IfOk answer (λ n. IsShownWhole got (λ d value. GivesSlice got keyset aad start len (e d) value) replaces before_shown shown n)
    → IfErr answer (λ error. IsErrAnd result (P error)) → ((f : Option (List ℕ)) → shown ≡ Some f → file ≡ f)
    → OnOk result ((X before : List ℕ) → all ≡ Some X → got place ≡ Some before → IsSliceOf keyset aad start len X before file)
slice_shown got faults keyset aad whole start len object object_after all place e replaces before_shown shown file count (Ok n) P (Ok done) same_all same_old same_new told ran ok refused settled =
    λ X before is has. record {
      count = n;
      means =
          let d = ran.draft in
          parts_by_answer got faults keyset aad whole start len object object_after (e d) n ran.answer X before replaces before_shown shown file (faults d) count
          (same_all d ∙ is) (ap got (same_old d) ∙ has) (rw (same_all d) told) settled ran.ran (rw (same_new d) ran.ended);
      slice = λ l key texts loads chosen stream.
          let d = ok.draft in
          let slice = ok.whole X before l key texts (same_all d ∙ is) (rw (same_old d) has) loads chosen stream in
          let known = rw (same_new d) at slice.written in
          let whole_shown = subst (λ (g : Option (List ℕ)). IfSome g (λ bytes. shown ≡ Some (Some bytes))) known ok.shown.whole in
          record { written = settled _ whole_shown; count = slice.count };
    }
slice_shown got faults keyset aad whole start len object object_after all place e replaces before_shown shown file count (Ok n) P (Err t) same_all same_old same_new told ran ok refused settled = tt
slice_shown got faults keyset aad whole start len object object_after all place e replaces before_shown shown file count (Err error) P (Ok done) same_all same_old same_new told ran ok refused settled = absurd refused
slice_shown got faults keyset aad whole start len object object_after all place e replaces before_shown shown file count (Err error) P (Err t) same_all same_old same_new told ran ok refused settled = tt

-- of an object that is open
pub ranged : (keyset : List ℕ) (job : Job) (start len : ℕ) (old middle new : SystemState) (name : List ℕ) (bytes got got_after : Option (List ℕ)) (result : Result (Unit {0}) Trouble)
    → middle ≡ old → option_map (λ n. n.now) job.input ≡ Some name → bytes ≡ known_content old (Some name) → (old.is_known ≡ true → IsSome (content old (Some name)))
    → OnOk result (middle.is_known ≡ true → (X : List ℕ) → bytes ≡ Some X
    → IsPut (λ before after. IsSliceOf keyset job.aad.now start len X before after) job.keeps_output middle new (option_map (λ n. n.now) job.output) got got_after)
    → OnOk result (old.is_known ≡ true → IsRangedOf keyset job start len old new got got_after)
ranged keyset job start len old middle new name bytes got got_after (Ok done) same input given there made = λ known.
    let found = some_of (content old (Some name)) (there known) in
    let all : bytes ≡ Some found.0 = rw known at given ∙ found.1 in
    record {
      object = found.0;
      read = rw input found.1;
      put = subst (λ (s : SystemState). s.is_known ≡ true → (X : List ℕ) → bytes ≡ Some X
          → IsPut (λ before after. IsSliceOf keyset job.aad.now start len X before after) job.keeps_output s new (option_map (λ n. n.now) job.output) got got_after)
          same made known found.0 all;
    }
ranged keyset job start len old middle new name bytes got got_after (Err t) same input given there made = tt

-- what the words name
pub ranged_by_words : (line : LineRead) (job : Job) (start len : ℕ) (keyset : List ℕ) (old middle new : SystemState) (got got_after : Option (List ℕ)) (result : Result (Unit {0}) Trouble)
    → IsJob line job → Some start ≡ line.start → Some len ≡ line.length → middle ≡ old → (old.is_known ≡ true → keyset_of old job.keys ≡ Ok keyset)
    → (old.is_known ≡ true → AreSparedBy old job) → reads_twice job ≡ false → OnOk result (middle.is_known ≡ true → IsRangedOf keyset job start len middle new got got_after)
    → OnOk result (old.is_known ≡ true → IsRanged line old new got got_after)
ranged_by_words line job start len keyset old middle new got got_after (Ok done) is start_is len_is same loaded spared once made = λ known.
    let ranged = subst (λ (s : SystemState). s.is_known ≡ true → IsRangedOf keyset job start len s new got got_after) same made known in
    record {
      start = start;
      start_is = sym start_is;
      len = len;
      len_is = sym len_is;
      keyset = keyset;
      keys = record { file = is.file; given = is.given; words = job.keys; are = is.keys; loaded = loaded known };
      spared = spared_by_words line job old is (spared known);
      once = sym (twice_by_words line job is) ∙ once;
      object = ranged.object;
      read = rw is.input at ranged.read;
      put = rw (is.aad, is.keeps, is.output) at ranged.put;
    }
ranged_by_words line job start len keyset old middle new got got_after (Err t) is start_is len_is same loaded spared once made = tt
