-- Why a command over a part of a stream ended by an error.
use Rattle.std.proofs.Common.{◌≡◌, ◌⊎◌, ◌≤◌, ◌<◌, inl, inr, ℕ, List, Bool, true, length, refl, sym, ◌∙◌, subst, ap}
use Rattle.std.specs.Prelude.{Option, Some, None, Result, Ok, Err, IfErr, IfSome, IsErrAnd, IsSome, OnOk, option_map}
use Rattle.tink_cli_words.specs.LineRead.{LineRead}
use Rattle.stream_model.specs.Opening.{IsChosen, OpeningKey}
use Rattle.loading_model.specs.Loading.{Loaded, opening_keys}
use Rattle.tink_io.proofs.FaultLemmas.{Rose-earlier}
use Rattle.tink_io.proofs.OutsideFacts.{told_if}
use Rattle.tink_io.specs.Faults.{Rose}
use Rattle.tink_io.specs.Places.{Ends}
use Rattle.tink_io.specs.declared.error.Kind.{Kind}
use Rattle.tink_io.specs.declared.error.Kind.TheVariants.{BadKeyset, BadSegment, InvalidKey, InvalidKeyset, NoMatchingKey, NoPrimary, OutOfMemory, ReadFault, TooManySegments, Truncated, UnsupportedKeyType, WriteFault, WrongPrimitive}
use Rattle.tink_io.specs.declared.error.TinkError.{TinkError}
use Rattle.tink_range.specs.ChunkReading.{Moments}
use Rattle.tink_range.specs.Giving.{Cutting, chunks_in}
use Rattle.tink_range.specs.KeyRanges.{IsCutUnder, RangesUnderRefused}
use Rattle.tink_range.specs.RangeReading.{RangeRefused, RefusesLast, StopsAtLast, StopsInRange, range_end, range_start}
use Rattle.tink_range.specs.Ranges.{LastAgrees, StopsAtChunk}
use Rattle.tink_run.specs.AllKeys.{load}
use Rattle.tink_rewrap.specs.KeysetRanges.{KeysetRangeMeans, KeysetRangeRefused, RangesLoaded}
use Rattle.tink_cli_files.specs.Streams.{RanAndEnded}
use Rattle.tink_system.specs.States.{IsOfCause, IsUnopened, SystemState, content, known_bytes, known_content}
use Rattle.tink_system.specs.Statuses.{refusal_status, trouble_status}
use Rattle.tink_system.specs.declared.trouble.Trouble.{Trouble}
use Rattle.tink_cli_jobs.specs.Jobs.{IsJob, data_of}
use Rattle.tink_cli_jobs.specs.Loading.{Fails, RefusesBy, keyset_of, named}
use Rattle.tink_cli_jobs.specs.Protecting.{AreSpared, IsNotFor, reads_twice}
use Rattle.tink_cli_jobs.specs.declared.job.Job.{Job}
use Rattle.tink_cli_jobs.proofs.OutputLemmas.{some_of}
use Rattle.tink_cli_jobs.proofs.ProtectingLemmas.{twice_by_words}
use Rattle.tink_cli_ranges.specs.Refusing.{CannotWrite, EndsLine, HasCauseOf, HasPartCause, HasRangeCause, IsRangeRefused, IsRefused, IsRefusedAtLast, IsRefusedInside, MayEnd}

-- ---- an object under a keyset, by what refuses it as a key cuts it

module _ (refuses : List ℕ → Cutting → ℕ → Kind → Type 0) where
  -- why a call over an object ended by a kind of error: there is no memory, writing failed for this cause, or the object is refused
  abbrev pub IsWhy : Type 0 → List ℕ → List ℕ → List ℕ → Kind → Type 0
  IsWhy unwritten keyset aad object kind = (kind ≡ OutOfMemory) ⊎ ((kind ≡ WriteFault) × unwritten) ⊎ IsRefused refuses keyset aad object kind

  -- the same by its status
  of_why : (unwritten : Type 0) (keyset aad object : List ℕ) (all : Option (List ℕ)) (kind : Kind) (status : ℕ) → all ≡ Some object → status ≡ refusal_status kind
      → IsWhy unwritten keyset aad object kind → MayEnd refuses unwritten keyset aad all status
  of_why unwritten keyset aad object all kind status told is (inl want) = inl (is ∙ ap (λ (k : Kind). refusal_status k) want)
  of_why unwritten keyset aad object all kind status told is (inr (inl (write, cause))) = inr (inl (is ∙ ap (λ (k : Kind). refusal_status k) write, cause))
  of_why unwritten keyset aad object all kind status told is (inr (inr refused)) = inr (inr (λ other other_is.
      let same : object ≡ other = cc in
      record { kind = kind; refused = subst (λ (o : List ℕ). IsRefused refuses keyset aad o kind) same refused; status_is = is }))

  -- an object that may not tell its bytes
  pub by_bytes : (unwritten : Type 0) (keyset aad : List ℕ) (all : Option (List ℕ)) (kind : Kind) (status : ℕ) → status ≡ refusal_status kind
      → ((object : List ℕ) → all ≡ Some object → IsWhy unwritten keyset aad object kind) → MayEnd refuses unwritten keyset aad all status
  by_bytes unwritten keyset aad all kind status is why = by all refl
    where
      by : (given : Option (List ℕ)) → all ≡ given → MayEnd refuses unwritten keyset aad all status
      by None none = inr (inr (λ object some. absurd (cc)))
      by (Some object) some = of_why unwritten keyset aad object all kind status some is (why object some)

  -- ---- an input

  -- that is not opened
  pub unopened : (unwritten : Type 0) (keyset aad : List ℕ) (s : SystemState) (input : Option (List ℕ)) (name : List ℕ) (before now : ℕ) (t : Trouble) → input ≡ Some name
      → IsUnopened s (Some name) before now t → s.is_known ≡ true → HasCauseOf refuses unwritten keyset aad s input before now (trouble_status t)
  unopened unwritten keyset aad s input name before now t is (inl want) known = inl want
  unopened unwritten keyset aad s input name before now t is (inr (status, inl absent)) known =
      inr (inr (inr (inl (status, ap (λ (i : Option (List ℕ)). content s i) is ∙ absent known))))
  unopened unwritten keyset aad s input name before now t is (inr (status, inr rose)) known = inr (inl rose)

  -- that was opened
  pub opened : (unwritten : Type 0) (keyset aad : List ℕ) (s : SystemState) (input : Option (List ℕ)) (name : List ℕ) (all : Option (List ℕ)) (before now : ℕ)
      (result : Result (Unit {0}) Trouble) → input ≡ Some name → all ≡ known_content s (Some name) → (s.is_known ≡ true → IsSome (content s (Some name)))
      → IfErr result (λ t. MayEnd refuses unwritten keyset aad all (trouble_status t))
      → IfErr result (λ t. s.is_known ≡ true → HasCauseOf refuses unwritten keyset aad s input before now (trouble_status t))
  opened unwritten keyset aad s input name all before now (Ok done) is given there may = tt
  opened unwritten keyset aad s input name all before now (Err t) is given there may = λ known. by known may
    where
      by : s.is_known ≡ true → MayEnd refuses unwritten keyset aad all (trouble_status t) → HasCauseOf refuses unwritten keyset aad s input before now (trouble_status t)
      by known (inl want) = inl want
      by known (inr (inl unwrote)) = inr (inr (inr (inr (inl unwrote))))
      by known (inr (inr over)) =
          let found = some_of (content s (Some name)) (there known) in
          let read : known_content s (Some name) ≡ Some found.0 = ap (λ (b : Bool). known_bytes b (content s (Some name))) known ∙ found.1 in
          inr (inr (inr (inr (inr (record {
            object = found.0;
            read = ap (λ (i : Option (List ℕ)). content s i) is ∙ found.1;
            ends = over found.0 (given ∙ read);
          })))))

  -- ---- the words

  -- the input that the words name
  pub line_cause : (lacks unwritten ends : Type 0) (line : LineRead) (job : Job) (keyset : List ℕ) (old middle : SystemState) (before then now status : ℕ)
      → (named line.first ≡ None → lacks) → (EndsLine refuses line old status → ends)
      → IsJob line job → middle ≡ old → before ≤ then → (old.is_known ≡ true → keyset_of old job.keys ≡ Ok keyset)
      → (middle.is_known ≡ true → HasCauseOf refuses unwritten keyset job.aad.now middle (option_map (λ n. n.now) job.input) then now status)
      → old.is_known ≡ true → HasPartCause lacks unwritten ends line old before now status
  line_cause lacks unwritten ends line job keyset old middle before then now status lacking ending is same le loaded cause known =
      by (rw (is.input, is.aad) at (subst (λ (s : SystemState). s.is_known ≡ true → HasCauseOf refuses unwritten keyset job.aad.now s (option_map (λ n. n.now) job.input)
      then now status) same cause known))
    where
      by : HasCauseOf refuses unwritten keyset (data_of line.aad) old (named line.first) then now status → HasPartCause lacks unwritten ends line old before now status
      by (inl want) = inl want
      by (inr (inl rose)) = inr (inl (Rose-earlier before then now le rose))
      by (inr (inr (inl placeless))) = inr (inr (inl (placeless.0, lacking placeless.1)))
      by (inr (inr (inr (inl absent)))) = inr (inr (inr (inl (absent.0, inr absent.1))))
      by (inr (inr (inr (inr (inl unwrote))))) = inr (inr (inr (inr (inl unwrote))))
      by (inr (inr (inr (inr (inr refused))))) = inr (inr (inr (inr (inr (inr (ending (record {
        keyset = keyset;
        keys = record { file = is.file; given = is.given; words = job.keys; are = is.keys; loaded = loaded known };
        ends = refused;
      })))))))

-- a keyset that is not loaded
pub unkeyed : (lacks unwritten ends : Type 0) (line : LineRead) (job : Job) (s : SystemState) (before now : ℕ) (t : Trouble) → IsJob line job → Fails s before now (keyset_of s job.keys) t
    → s.is_known ≡ true → HasPartCause lacks unwritten ends line s before now (trouble_status t)
unkeyed lacks unwritten ends line job s before now t is (inl rose) known = inr (inl rose)
unkeyed lacks unwritten ends line job s before now t is (inr by) known = why_not (by known)
  where
    why_not : RefusesBy (keyset_of s job.keys) t → HasPartCause lacks unwritten ends line s before now (trouble_status t)
    why_not (inl want) = inl want
    why_not (inr status) = inr (inr (inr (inr (inr (inl (record { file = is.file; given = is.given; words = job.keys; are = is.keys; refused = status }))))))

-- standard input is read for two things
pub twice : (lacks unwritten ends : Type 0) (line : LineRead) (job : Job) (s : SystemState) (before now : ℕ) (t : Trouble) → IsJob line job → trouble_status t ≡ 11 → reads_twice job ≡ true
    → HasPartCause lacks unwritten ends line s before now (trouble_status t)
twice lacks unwritten ends line job s before now t is status read = inr (inr (inr (inl (status, inl (sym (twice_by_words line job is) ∙ read)))))

-- an object that tells its bytes, as a key cuts it
pub cut_with : (keys : List OpeningKey) (all : Option (List ℕ)) (whole : ℕ) (object : List ℕ) (P Q : Cutting → ℕ → Type 0) → all ≡ Some object → IfSome all (λ S. length S ≡ whole)
    → (x : IsCutUnder keys all whole P) → Q x.cutting x.behind → IsCutUnder keys (Some object) (length object) Q
cut_with keys all whole object P Q told size x then = record {
  cutting = x.cutting;
  behind = x.behind;
  found = rw told at x.found;
  whole_is = x.whole_is ∙ sym (told_if (λ S. length S ≡ whole) all object told size);
  then = then;
}

pub cut_under : (keys : List OpeningKey) (all : Option (List ℕ)) (whole : ℕ) (object : List ℕ) (P Q : Cutting → ℕ → Type 0) → all ≡ Some object → IfSome all (λ S. length S ≡ whole)
    → ((c : Cutting) (behind : ℕ) → P c behind → Q c behind) → IsCutUnder keys all whole P → IsCutUnder keys (Some object) (length object) Q
cut_under keys all whole object P Q told size refuses x = cut_with keys all whole object P Q told size x (refuses x.cutting x.behind x.then)

-- ---- a range of an object that tells its bytes

module _ {W : Type 0} (got : W → Option (List ℕ)) (faults : W → ℕ) (keyset aad : List ℕ) (whole start len : ℕ) (e : Moments W) (object : List ℕ)
    (all : e.all ≡ Some object) (size : IfSome e.all (λ S. length S ≡ whole)) (sure : Rose e.reads_before e.reads_after → ⊥) where
  -- the error comes for want of memory, or writing failed, or the range is refused so
  abbrev Why : Kind → Type 0
  Why kind = IsWhy (IsRangeRefused start len) (Rose (faults e.old) (faults e.new)) keyset aad object kind

  module _ (c : Cutting) (behind : ℕ) where
    at_last : (n : ℕ) (P : ℕ → Type 0) → StopsAtLast got faults c behind start len e n P → IsRefusedAtLast object c behind n P
    at_last n P x = record { few = x.few; last = subst (λ (a : Option (List ℕ)). RefusesLast c behind a n P) all x.last }

    inside : (n : ℕ) → StopsInRange got faults c behind start len e n → IsRefusedInside start len object c behind n
    inside n x = record {
      few = x.few;
      last = told_if (λ S. LastAgrees c.seg (chunks_in c S)) e.all object all x.checked;
      bytes = x.gave.bytes;
      stops = told_if (λ S. StopsAtChunk c.seg c.over (range_start c behind start) (range_end c behind start len) (chunks_in c S) x.gave.bytes n) e.all object all x.gave.stops;
    }

    bad : (n : ℕ) → RangeRefused got faults c behind start len e (BadSegment n) → IsRangeRefused start len object c behind (BadSegment n)
    bad n (inl x) = inl (at_last n (λ size. c.over ≤ size) x)
    bad n (inr x) = inr (inside n x)

  cut_by : (l : Loaded) (kind : Kind) → ((c : Cutting) (behind : ℕ) → RangeRefused got faults c behind start len e kind → IsRangeRefused start len object c behind kind)
      → IsCutUnder (opening_keys aad l) e.all whole (λ c behind. RangeRefused got faults c behind start len e kind)
      → IsCutUnder (opening_keys aad l) (Some object) (length object) (λ c behind. IsRangeRefused start len object c behind kind)
  cut_by l kind refuses x =
      cut_under (opening_keys aad l) e.all whole object (λ c behind. RangeRefused got faults c behind start len e kind) (λ c behind. IsRangeRefused start len object c behind kind) all size refuses x

  under : (l : Loaded) → load keyset ≡ Ok l → (kind : Kind) → RangesUnderRefused got faults (opening_keys aad l) whole start len e kind → Why kind
  under l loads NoMatchingKey x = inr (inr (l, loads, told_if (λ S. IsChosen (opening_keys aad l) S None) e.all object all x.none))
  under l loads ReadFault (inl x) = absurd (sure x.rose)
  under l loads ReadFault (inr x) = absurd (sure x.then.gave.rose)
  under l loads WriteFault x = inr (inl (refl, x.then.gave.rose))
  under l loads TooManySegments x = inr (inr (l, loads, cut_by l TooManySegments (λ c behind refused. refused.many) x))
  under l loads (Truncated n) x = inr (inr (l, loads, cut_by l (Truncated n) (λ c behind refused. at_last c behind n (λ size. size < c.over) refused) x))
  under l loads (BadSegment n) x = inr (inr (l, loads, cut_by l (BadSegment n) (λ c behind refused. bad c behind n refused) x))
  under l loads _ x = absurd x

  loaded : (error : TinkError) → RangesLoaded got faults keyset aad whole start len e (Err error) → Why error.kind
  loaded error x = under x.loaded x.loads error.kind x.means

  module _ {A : Type 0} (given after : A) where
    by_kind : (error : TinkError) (kind : Kind) → error.kind ≡ kind → KeysetRangeRefused got faults keyset aad whole start len given after e error kind → Why error.kind
    by_kind error OutOfMemory is x = inl is
    by_kind error BadKeyset is x = subst Why (sym is) (inr (inr x.cause))
    by_kind error InvalidKeyset is x = subst Why (sym is) (inr (inr x.cause))
    by_kind error UnsupportedKeyType is x = subst Why (sym is) (inr (inr x.cause))
    by_kind error InvalidKey is x = subst Why (sym is) (inr (inr x.cause))
    by_kind error NoPrimary is x = subst Why (sym is) (inr (inr x.cause))
    by_kind error WrongPrimitive is x = subst Why (sym is) (inr (inr x.cause))
    by_kind error NoMatchingKey is x = loaded error x
    by_kind error ReadFault is x = loaded error x
    by_kind error WriteFault is x = loaded error x
    by_kind error TooManySegments is x = loaded error x
    by_kind error (Truncated n) is x = loaded error x
    by_kind error (BadSegment n) is x = loaded error x
    by_kind error _ is x = absurd x

    why : (error : TinkError) → KeysetRangeMeans got faults keyset aad whole start len given after e (Err error) → Why error.kind
    why error means = by_kind error error.kind refl means

-- ---- a range that was written

-- an error of a range, by its status
of_error : {A W : Type 0} (got : W → Option (List ℕ)) (faults : W → ℕ) (keyset aad : List ℕ) (whole start len : ℕ) (given after : A) (e : Moments W) (unwritten : Type 0)
    (error : TinkError) (status : ℕ) → IfSome e.all (λ S. length S ≡ whole) → ((e.all ≡ None → ⊥) → Rose e.reads_before e.reads_after → ⊥)
    → (Rose (faults e.old) (faults e.new) → unwritten)
    → KeysetRangeMeans got faults keyset aad whole start len given after e (Err error) → status ≡ refusal_status error.kind
    → MayEnd (IsRangeRefused start len) unwritten keyset aad e.all status
of_error got faults keyset aad whole start len given after e unwritten error status size sure wrote means is =
    by_bytes (IsRangeRefused start len) unwritten keyset aad e.all error.kind status is
    (λ object some. with_cause object (why got faults keyset aad whole start len e object some size (sure (λ none. some_none object some none)) given after error means))
  where
    some_none : (object : List ℕ) → e.all ≡ Some object → e.all ≡ None → ⊥
    some_none object some none = absurd (cc)

    with_cause : (object : List ℕ) → IsWhy (IsRangeRefused start len) (Rose (faults e.old) (faults e.new)) keyset aad object error.kind
        → IsWhy (IsRangeRefused start len) unwritten keyset aad object error.kind
    with_cause object (inl want) = inl want
    with_cause object (inr (inl (write, rose))) = inr (inl (write, wrote rose))
    with_cause object (inr (inr refused)) = inr (inr refused)

-- written to a sink
pub written_ends : {A W : Type 0} (got : W → Option (List ℕ)) (faults : W → ℕ) (keyset aad : List ℕ) (whole start len : ℕ) (given after : A) (e : Moments W) (unwritten : Type 0)
    (answer : Result ℕ TinkError) (result : Result (Unit {0}) Trouble) → IfSome e.all (λ S. length S ≡ whole) → ((e.all ≡ None → ⊥) → Rose e.reads_before e.reads_after → ⊥)
    → (Rose (faults e.old) (faults e.new) → unwritten)
    → KeysetRangeMeans got faults keyset aad whole start len given after e answer → OnOk answer (result ≡ Ok tt)
    → IfErr answer (λ error. IsErrAnd result (λ t. trouble_status t ≡ refusal_status error.kind))
    → IfErr result (λ t. MayEnd (IsRangeRefused start len) unwritten keyset aad e.all (trouble_status t))
written_ends got faults keyset aad whole start len given after e unwritten (Ok n) (Ok done) size sure wrote means ok refused = tt
written_ends got faults keyset aad whole start len given after e unwritten (Ok n) (Err t) size sure wrote means ok refused = absurd (cc)
written_ends got faults keyset aad whole start len given after e unwritten (Err error) (Ok done) size sure wrote means ok refused = tt
written_ends got faults keyset aad whole start len given after e unwritten (Err error) (Err t) size sure wrote means ok refused =
    of_error got faults keyset aad whole start len given after e unwritten error (trouble_status t) size sure wrote means refused

-- written to a draft: by its own answer and that of the draft's end
drafted_by : {A D : Type 0} (got : D → Option (List ℕ)) (faults : D → ℕ) (keyset aad : List ℕ) (whole start len : ℕ) (given after : A) (e : Moments D) (draft : Option (List ℕ)) (replaces : Bool)
    (before shown : Option (Option (List ℕ))) (i j : ℕ) (answer : Result ℕ TinkError) (error : TinkError) (status : ℕ) → IfSome e.all (λ S. length S ≡ whole)
    → ((e.all ≡ None → ⊥) → Rose e.reads_before e.reads_after → ⊥)
    → KeysetRangeMeans got faults keyset aad whole start len given after e answer → Ends draft replaces before shown i j answer (Err error) → status ≡ refusal_status error.kind
    → MayEnd (IsRangeRefused start len) (Unit {0}) keyset aad e.all status
drafted_by got faults keyset aad whole start len given after e draft replaces before shown i j (Ok n) error status size sure means ends is =
    inr (inl (is ∙ ap (λ (x : TinkError). refusal_status x.kind) ends.refusal, tt))
drafted_by got faults keyset aad whole start len given after e draft replaces before shown i j (Err own) error status size sure means ends is =
    of_error got faults keyset aad whole start len given after e (Unit {0}) own status size sure (λ rose. tt) means (is ∙ ap (λ (x : TinkError). refusal_status x.kind) ends.0)

pub drafted_ends : {A D : Type 0} (got : D → Option (List ℕ)) (faults : D → ℕ) (keyset aad : List ℕ) (whole start len : ℕ) (given after : A) (all : Option (List ℕ)) (e : D → Moments D)
    (replaces : Bool) (before shown : Option (Option (List ℕ))) (count : ℕ) (answer : Result ℕ TinkError) (result : Result (Unit {0}) Trouble)
    → ((d : D) → (e d).all ≡ all) → ((d : D) → IfSome (e d).all (λ S. length S ≡ whole)) → ((d : D) → ((e d).all ≡ None → ⊥) → Rose (e d).reads_before (e d).reads_after → ⊥)
    → RanAndEnded got faults (λ d a. KeysetRangeMeans got faults keyset aad whole start len given after (e d) a) replaces before shown count answer
    → OnOk answer (result ≡ Ok tt) → IfErr answer (λ error. IsErrAnd result (λ t. trouble_status t ≡ refusal_status error.kind))
    → IfErr result (λ t. MayEnd (IsRangeRefused start len) (Unit {0}) keyset aad all (trouble_status t))
drafted_ends got faults keyset aad whole start len given after all e replaces before shown count (Ok n) (Ok done) same size sure ran ok refused = tt
drafted_ends got faults keyset aad whole start len given after all e replaces before shown count (Ok n) (Err t) same size sure ran ok refused = absurd (cc)
drafted_ends got faults keyset aad whole start len given after all e replaces before shown count (Err error) (Ok done) same size sure ran ok refused = tt
drafted_ends got faults keyset aad whole start len given after all e replaces before shown count (Err error) (Err t) same size sure ran ok refused =
    let d = ran.draft in
    subst (λ (a : Option (List ℕ)). MayEnd (IsRangeRefused start len) (Unit {0}) keyset aad a (trouble_status t)) (same d)
    (drafted_by got faults keyset aad whole start len given after (e d) (got d) replaces before shown (faults d) count ran.answer error (trouble_status t) (size d) (sure d) ran.ran ran.ended refused)

-- a pipe, a device or a draft that is not begun
pub unbegun_ends : (keyset aad : List ℕ) (start len : ℕ) (all : Option (List ℕ)) (cause : Type 0) (t : Trouble) → IsOfCause 12 cause t
    → MayEnd (IsRangeRefused start len) (Unit {0}) keyset aad all (trouble_status t)
unbegun_ends keyset aad start len all cause t (inl want) = inl want
unbegun_ends keyset aad start len all cause t (inr is) = inr (inl (is.0, tt))

-- ---- the words of a range

-- an output that is none of the files of keys, as standard output is
spared_not : (s : SystemState) (output keys master new_keys : Option (List ℕ)) (out out_after : ℕ) → (AreSpared s output keys master new_keys → ⊥) → CannotWrite output out out_after
spared_not s None keys master new_keys out out_after not = absurd (not (record { of_keys = tt; others = record { of_master = tt; of_new_keys = tt } }))
spared_not s (Some output) keys master new_keys out out_after not = tt

-- a keyset that is not there
pub unready : (line : LineRead) (job : Job) (s : SystemState) (before now out out_after : ℕ) (t : Trouble) → IsJob line job → IsNotFor s job before now t → s.is_known ≡ true
    → HasRangeCause line s before now out out_after (trouble_status t)
unready line job s before now out out_after t is (inl read) known = twice _ _ _ line job s before now t is read.0 read.1
unready line job s before now out out_after t is (inr (inl barred)) known =
    inr (inr (inr (inr (inl (
      barred.0,
      subst (λ (o : Option (List ℕ)). CannotWrite o out out_after) is.output
          (spared_not s (option_map (λ n. n.now) job.output) _ _ _ out out_after (barred.1 known)),
    )))))
unready line job s before now out out_after t is (inr (inr fails)) known = unkeyed _ _ _ line job s before now t is fails known

-- a range of the input that the words name
pub range_cause : (line : LineRead) (job : Job) (keyset : List ℕ) (start len : ℕ) (old middle : SystemState) (before then now out out_after : ℕ) (result : Result (Unit {0}) Trouble)
    → IsJob line job → Some start ≡ line.start → Some len ≡ line.length → middle ≡ old → before ≤ then → (old.is_known ≡ true → keyset_of old job.keys ≡ Ok keyset)
    → IfErr result (λ t. middle.is_known ≡ true → HasCauseOf (IsRangeRefused start len) (CannotWrite (option_map (λ n. n.now) job.output) out out_after) keyset job.aad.now middle
    (option_map (λ n. n.now) job.input) then now (trouble_status t))
    → IfErr result (λ t. old.is_known ≡ true → HasRangeCause line old before now out out_after (trouble_status t))
range_cause line job keyset start len old middle before then now out out_after (Ok done) is start_is len_is same le loaded cause = tt
range_cause line job keyset start len old middle before then now out out_after (Err t) is start_is len_is same le loaded cause =
    line_cause (IsRangeRefused start len) _ (CannotWrite (named line.output) out out_after) _ line job keyset old middle before then now (trouble_status t) (λ none. inr (inr (inr none)))
    (λ ends. record { start = start; start_is = sym start_is; len = len; len_is = sym len_is; ends = ends }) is same le loaded
    (subst (λ (o : Option (List ℕ)). middle.is_known ≡ true → HasCauseOf (IsRangeRefused start len) (CannotWrite o out out_after) keyset job.aad.now middle
    (option_map (λ n. n.now) job.input) then now (trouble_status t)) is.output cause)
