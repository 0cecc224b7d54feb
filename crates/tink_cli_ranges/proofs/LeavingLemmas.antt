-- What an error of a range leaves on standard output.
use Rattle.std.proofs.Common.{◌≡◌, ◌⊎◌, inl, inr, ℕ, List, Bool, true, length, refl, sym, ◌∙◌, subst, ap}
use Rattle.std.specs.Prelude.{Option, Some, None, Result, Ok, Err, IfErr, IfSome, IsErrAnd, IsSome, OnOk, option_map}
use Rattle.tink_cli_words.specs.LineRead.{LineRead}
use Rattle.loading_model.specs.Loading.{Loaded, opening_keys}
use Rattle.tink_io.proofs.OutsideFacts.{told_if}
use Rattle.tink_io.specs.Faults.{Rose}
use Rattle.tink_io.specs.declared.error.Kind.{Kind}
use Rattle.tink_io.specs.declared.error.Kind.TheVariants.{BadKeyset, BadSegment, InvalidKey, InvalidKeyset, NoMatchingKey, NoPrimary, OutOfMemory, ReadFault, TooManySegments, Truncated, UnsupportedKeyType, WriteFault, WrongPrimitive}
use Rattle.tink_io.specs.declared.error.TinkError.{TinkError}
use Rattle.tink_range.specs.ChunkReading.{Moments}
use Rattle.tink_range.specs.Giving.{Cutting, chunks_in}
use Rattle.tink_range.specs.KeyRanges.{IsCutUnder, RangesUnderRefused}
use Rattle.tink_range.specs.RangeReading.{GavePrefixOfRange, RangeRefused, StopsInRange, range_end, range_start}
use Rattle.tink_range.specs.Ranges.{SomeGive, StopsAtChunk}
use Rattle.tink_run.specs.AllKeys.{load}
use Rattle.tink_rewrap.specs.KeysetRanges.{KeysetRangeMeans, KeysetRangeRefused, RangesLoaded}
use Rattle.tink_system.specs.States.{SystemState, content, known_bytes, known_content}
use Rattle.tink_system.specs.Statuses.{refusal_status, trouble_status}
use Rattle.tink_system.specs.declared.trouble.Trouble.{Trouble}
use Rattle.tink_cli_jobs.specs.Jobs.{IsJob, data_of}
use Rattle.tink_cli_jobs.specs.Loading.{keyset_of, named}
use Rattle.tink_cli_jobs.specs.declared.job.Job.{Job}
use Rattle.tink_cli_jobs.proofs.OutputLemmas.{some_of}
use Rattle.tink_cli_ranges.specs.Leaving.{GaveUnder, GaveUntil, LeavesRange, MayStop, StaysOr, StopsLine, StopsOf}
use Rattle.tink_cli_ranges.proofs.RefusingLemmas.{cut_under, cut_with}

-- ---- an object that tells its bytes

module _ {W : Type 0} (got : W → Option (List ℕ)) (faults : W → ℕ) (keyset aad : List ℕ) (whole start len : ℕ) (e : Moments W) (object : List ℕ)
    (all : e.all ≡ Some object) (size : IfSome e.all (λ S. length S ≡ whole)) (sure : Rose e.reads_before e.reads_after → ⊥) where
  -- nothing was written, or a part of the range up to this kind of error
  abbrev Left : Kind → Type 0
  Left kind = (got e.new ≡ got e.old) ⊎ GaveUnder start len keyset aad object (got e.old) (got e.new) kind

  part : (c : Cutting) (behind : ℕ) → GavePrefixOfRange got faults c behind start len e (faults e.old) (faults e.new)
      → GaveUntil start len object (got e.old) (got e.new) c behind WriteFault
  part c behind x = record {
    bytes = x.gave.bytes;
    gives = told_if (λ S. SomeGive c.seg c.over (range_start c behind start) (range_end c behind start len) (chunks_in c S) x.gave.bytes) e.all object all x.gave.gives;
    written = x.gave.written;
  }

  before : (c : Cutting) (behind n : ℕ) → StopsInRange got faults c behind start len e n → GaveUntil start len object (got e.old) (got e.new) c behind (BadSegment n)
  before c behind n x = record {
    bytes = x.gave.bytes;
    stops = told_if (λ S. StopsAtChunk c.seg c.over (range_start c behind start) (range_end c behind start len) (chunks_in c S) x.gave.bytes n) e.all object all x.gave.stops;
    written = x.gave.written;
  }

  bad : (l : Loaded) (n : ℕ) → load keyset ≡ Ok l
      → (x : IsCutUnder (opening_keys aad l) e.all whole (λ c behind. RangeRefused got faults c behind start len e (BadSegment n)))
      → RangeRefused got faults x.cutting x.behind start len e (BadSegment n) → Left (BadSegment n)
  bad l n loads x (inl last) = inl (ap got last.same)
  bad l n loads x (inr inside) = inr (
    l,
    loads,
    cut_with (opening_keys aad l) e.all whole object (λ c behind. RangeRefused got faults c behind start len e (BadSegment n))
        (λ c behind. GaveUntil start len object (got e.old) (got e.new) c behind (BadSegment n)) all size x (before x.cutting x.behind n inside),
  )

  under : (l : Loaded) → load keyset ≡ Ok l → (kind : Kind) → RangesUnderRefused got faults (opening_keys aad l) whole start len e kind → Left kind
  under l loads NoMatchingKey x = inl (ap got x.same)
  under l loads ReadFault (inl x) = inl (ap got x.same)
  under l loads ReadFault (inr x) = absurd (sure x.then.gave.rose)
  under l loads WriteFault x = inr (
    l,
    loads,
    cut_under (opening_keys aad l) e.all whole object (λ c behind. RangeRefused got faults c behind start len e WriteFault)
        (λ c behind. GaveUntil start len object (got e.old) (got e.new) c behind WriteFault) all size part x,
  )
  under l loads TooManySegments x = inl (ap got x.then.same)
  under l loads (Truncated n) x = inl (ap got x.then.same)
  under l loads (BadSegment n) x = bad l n loads x x.then
  under l loads _ x = absurd x

  loaded : (error : TinkError) → RangesLoaded got faults keyset aad whole start len e (Err error) → Left error.kind
  loaded error x = under x.loaded x.loads error.kind x.means

  module _ {A : Type 0} (given after : A) where
    by_kind : (error : TinkError) (kind : Kind) → KeysetRangeRefused got faults keyset aad whole start len given after e error kind → Left error.kind
    by_kind error OutOfMemory x = inl (ap got x.unmoved.same)
    by_kind error BadKeyset x = inl (ap got x.both.unmoved.same)
    by_kind error InvalidKeyset x = inl (ap got x.both.unmoved.same)
    by_kind error UnsupportedKeyType x = inl (ap got x.both.unmoved.same)
    by_kind error InvalidKey x = inl (ap got x.both.unmoved.same)
    by_kind error NoPrimary x = inl (ap got x.both.unmoved.same)
    by_kind error WrongPrimitive x = inl (ap got x.both.unmoved.same)
    by_kind error NoMatchingKey x = loaded error x
    by_kind error ReadFault x = loaded error x
    by_kind error WriteFault x = loaded error x
    by_kind error TooManySegments x = loaded error x
    by_kind error (Truncated n) x = loaded error x
    by_kind error (BadSegment n) x = loaded error x
    by_kind error _ x = absurd x

    left : (error : TinkError) → KeysetRangeMeans got faults keyset aad whole start len given after e (Err error) → Left error.kind
    left error means = by_kind error error.kind means

-- ---- an object that may not tell its bytes

-- by the error of a range that was written to a sink
pub written_leaves : {A W : Type 0} (got : W → Option (List ℕ)) (faults : W → ℕ) (keyset aad : List ℕ) (whole start len : ℕ) (given after : A) (e : Moments W)
    (answer : Result ℕ TinkError) (result : Result (Unit {0}) Trouble) → IfSome e.all (λ S. length S ≡ whole) → ((e.all ≡ None → ⊥) → Rose e.reads_before e.reads_after → ⊥)
    → KeysetRangeMeans got faults keyset aad whole start len given after e answer → OnOk answer (result ≡ Ok tt)
    → IfErr answer (λ error. IsErrAnd result (λ t. trouble_status t ≡ refusal_status error.kind))
    → IfErr result (λ t. StaysOr None (got e.old) (got e.new) (MayStop start len keyset aad e.all (got e.old) (got e.new) (trouble_status t)))
written_leaves got faults keyset aad whole start len given after e (Ok n) (Ok done) size sure means ok refused = tt
written_leaves got faults keyset aad whole start len given after e (Ok n) (Err t) size sure means ok refused = absurd (cc)
written_leaves got faults keyset aad whole start len given after e (Err error) (Ok done) size sure means ok refused = tt
written_leaves got faults keyset aad whole start len given after e (Err error) (Err t) size sure means ok refused = by e.all refl
  where
    some_none : (object : List ℕ) → e.all ≡ Some object → e.all ≡ None → ⊥
    some_none object some none = absurd (cc)

    of_left : (object : List ℕ) → e.all ≡ Some object → (got e.new ≡ got e.old) ⊎ GaveUnder start len keyset aad object (got e.old) (got e.new) error.kind
        → StaysOr None (got e.old) (got e.new) (MayStop start len keyset aad e.all (got e.old) (got e.new) (trouble_status t))
    of_left object some (inl same) = inl same
    of_left object some (inr gave) = inr (λ other other_is.
        let same : object ≡ other = cc in
        record {
          kind = error.kind;
          gave = subst (λ (o : List ℕ). GaveUnder start len keyset aad o (got e.old) (got e.new) error.kind) same gave;
          status_is = refused;
        })

    by : (all : Option (List ℕ)) → e.all ≡ all → StaysOr None (got e.old) (got e.new) (MayStop start len keyset aad e.all (got e.old) (got e.new) (trouble_status t))
    by None none = inr (λ object some. absurd (some_none object some none))
    by (Some object) some = of_left object some (left got faults keyset aad whole start len e object some size (sure (some_none object some)) given after error means)

-- nothing was written there
pub quiet : (output : List ℕ) (start len : ℕ) (keyset aad : List ℕ) (all got : Option (List ℕ)) (result : Result (Unit {0}) Trouble)
    → IfErr result (λ t. StaysOr (Some output) got got (MayStop start len keyset aad all got got (trouble_status t)))
quiet output start len keyset aad all got (Ok done) = tt
quiet output start len keyset aad all got (Err t) = refl

pub unmoved : (output got : Option (List ℕ)) (stops : Type 0) → StaysOr output got got stops
unmoved (Some output) got stops = refl
unmoved None got stops = inl refl

-- what is said of standard output, by something else
or_weaker : (output got got_after : Option (List ℕ)) (A B : Type 0) → (A → B) → StaysOr output got got_after A → StaysOr output got got_after B
or_weaker (Some name) got got_after A B f stays = stays
or_weaker None got got_after A B f (inl stays) = inl stays
or_weaker None got got_after A B f (inr stops) = inr (f stops)

-- ---- an input

pub opened_leaves : (output : Option (List ℕ)) (start len : ℕ) (keyset aad : List ℕ) (s : SystemState) (input : Option (List ℕ)) (name : List ℕ) (all got got_after : Option (List ℕ))
    (result : Result (Unit {0}) Trouble) → input ≡ Some name → all ≡ known_content s (Some name) → (s.is_known ≡ true → IsSome (content s (Some name)))
    → IfErr result (λ t. StaysOr output got got_after (MayStop start len keyset aad all got got_after (trouble_status t)))
    → IfErr result (λ t. s.is_known ≡ true → StaysOr output got got_after (StopsOf start len keyset aad s input got got_after (trouble_status t)))
opened_leaves output start len keyset aad s input name all got got_after (Ok done) is given there left = tt
opened_leaves output start len keyset aad s input name all got got_after (Err t) is given there left = λ known.
    let found = some_of (content s (Some name)) (there known) in
    let read : known_content s (Some name) ≡ Some found.0 = ap (λ (b : Bool). known_bytes b (content s (Some name))) known ∙ found.1 in
    or_weaker output got got_after (MayStop start len keyset aad all got got_after (trouble_status t)) (StopsOf start len keyset aad s input got got_after (trouble_status t))
    (λ may. record { object = found.0; read = ap (λ (i : Option (List ℕ)). content s i) is ∙ found.1; stops = may found.0 (given ∙ read) }) left

-- ---- the words

pub range_leaves : (line : LineRead) (job : Job) (keyset : List ℕ) (start len : ℕ) (old middle : SystemState) (got got_after : Option (List ℕ)) (result : Result (Unit {0}) Trouble)
    → IsJob line job → Some start ≡ line.start → Some len ≡ line.length → middle ≡ old → (old.is_known ≡ true → keyset_of old job.keys ≡ Ok keyset)
    → IfErr result (λ t. middle.is_known ≡ true → StaysOr (option_map (λ n. n.now) job.output) got got_after
    (StopsOf start len keyset job.aad.now middle (option_map (λ n. n.now) job.input) got got_after (trouble_status t)))
    → IfErr result (λ t. old.is_known ≡ true → LeavesRange line old got got_after (trouble_status t))
range_leaves line job keyset start len old middle got got_after (Ok done) is start_is len_is same loaded left = tt
range_leaves line job keyset start len old middle got got_after (Err t) is start_is len_is same loaded left = λ known.
    or_weaker (named line.output) got got_after (StopsOf start len keyset (data_of line.aad) old (named line.first) got got_after (trouble_status t)) (StopsLine line old got got_after (trouble_status t))
    (λ stops. record {
      start = start;
      start_is = sym start_is;
      len = len;
      len_is = sym len_is;
      keyset = keyset;
      keys = record { file = is.file; given = is.given; words = job.keys; are = is.keys; loaded = loaded known };
      stops = stops;
    })
    (rw (is.output, is.input, is.aad) at (subst (λ (s : SystemState). s.is_known ≡ true → StaysOr (option_map (λ n. n.now) job.output) got got_after
    (StopsOf start len keyset job.aad.now s (option_map (λ n. n.now) job.input) got got_after (trouble_status t))) same left known))
