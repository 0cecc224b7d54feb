-- What the command that writes the key and the sizes of a stream has done, and why it ended by an error.
use Rattle.std.proofs.Common.{◌≡◌, ◌≤◌, ◌<◌, inl, inr, ℕ, List, Bool, true, false, length, refl, sym, ◌∙◌, subst, ap}
use Rattle.std.specs.Io.KnownBytes.{Appends}
use Rattle.std.specs.Prelude.{Option, Some, None, Result, Ok, Err, IfErr, IfSome, IsSome, OnErr, OnOk, option_map}
use Rattle.tink_cli_words.specs.LineRead.{LineRead}
use Rattle.stream_model.specs.Opening.{IsChosen}
use Rattle.loading_model.specs.Loading.{Loaded, opening_keys}
use Rattle.tink_io.proofs.OutsideFacts.{told_if}
use Rattle.tink_io.specs.Faults.{Rose}
use Rattle.tink_io.specs.Written.{AppendsPrefix}
use Rattle.tink_io.specs.declared.error.Kind.{Kind}
use Rattle.tink_io.specs.declared.error.Kind.TheVariants.{BadKeyset, BadSegment, InvalidKey, InvalidKeyset, NoMatchingKey, NoPrimary, OutOfMemory, ReadFault, TooManySegments, Truncated, UnsupportedKeyType, WrongPrimitive}
use Rattle.tink_io.specs.declared.error.TinkError.{TinkError}
use Rattle.tink_range.specs.Giving.{Cutting}
use Rattle.tink_range.specs.KeyRanges.{IsCutUnder}
use Rattle.tink_range.specs.RangeReading.{EndRefused, RefusesLast}
use Rattle.tink_run.specs.AllKeys.{load}
use Rattle.tink_rewrap.specs.StreamInfos.{InfoLoaded, InfoRefused, IsIdOfKey, KeysetInfoMeans, KeysetInfoRefused, Tells, TellsStream}
use Rattle.tink_rewrap.specs.declared.info.of_set.StreamInfo.{StreamInfo}
use Rattle.tink_system.specs.States.{SystemState, content, known_bytes, known_content}
use Rattle.tink_system.specs.Statuses.{refusal_status, trouble_status}
use Rattle.tink_system.specs.declared.trouble.Trouble.{Trouble}
use Rattle.tink_cli_jobs.specs.Jobs.{IsJob}
use Rattle.tink_cli_jobs.specs.Loading.{keyset_of}
use Rattle.tink_cli_jobs.specs.Protecting.{reads_twice}
use Rattle.tink_cli_jobs.specs.declared.job.Job.{Job}
use Rattle.tink_cli_jobs.proofs.OutputLemmas.{some_of}
use Rattle.tink_cli_jobs.proofs.ProtectingLemmas.{twice_by_words}
use Rattle.tink_cli_ranges.specs.Informing.{IsInfoOf, IsInformed, IsTold, IsToldBy, IsToldOf, IsUnwritten, LeavesInfo, LeavesLines, info_lines}
use Rattle.tink_cli_ranges.specs.Refusing.{HasCauseOf, HasInfoCause, IsEndRefused, MayEnd}
use Rattle.tink_cli_ranges.proofs.RefusingLemmas.{IsWhy, by_bytes, cut_under, line_cause}

-- ---- an object that tells its bytes

-- the key and the sizes
pub info_of : {A : Type 0} (keyset aad : List ℕ) (all : Option (List ℕ)) (whole before after : ℕ) (object object_after : A) (i : StreamInfo) (X : List ℕ)
    → all ≡ Some X → IfSome all (λ S. length S ≡ whole) → KeysetInfoMeans keyset aad all whole before after object object_after (Ok i) → TellsStream keyset aad all (Ok i)
    → IsInfoOf keyset aad X i
info_of keyset aad all whole before after object object_after i X told size means stream = record {
  loaded = means.loaded;
  loads = means.loads;
  told =
      subst (λ (n : ℕ). IsCutUnder (opening_keys aad means.loaded) (Some X) n (Tells (IsIdOfKey aad means.loaded.keys) (Some X) i))
      (sym (told_if (λ S. length S ≡ whole) all X told size))
      (subst (λ (a : Option (List ℕ)). IsCutUnder (opening_keys aad means.loaded) a whole (Tells (IsIdOfKey aad means.loaded.keys) a i)) told means.means);
  stream = subst (λ (a : Option (List ℕ)). TellsStream keyset aad a (Ok i)) told stream;
}

module _ (keyset aad : List ℕ) (whole before after : ℕ) (X : List ℕ) (all : Option (List ℕ)) (told : all ≡ Some X) (size : IfSome all (λ S. length S ≡ whole))
    (sure : Rose before after → ⊥) where
  -- why they are not told
  abbrev Why : Kind → Type 0
  Why kind = IsWhy IsEndRefused ⊥ keyset aad X kind

  at_last : (c : Cutting) (behind n : ℕ) (P : ℕ → Type 0) → RefusesLast c behind all n P → RefusesLast c behind (Some X) n P
  at_last c behind n P last = subst (λ (a : Option (List ℕ)). RefusesLast c behind a n P) told last

  cut : (l : Loaded) (kind : Kind) → ((c : Cutting) (behind : ℕ) → EndRefused c behind all before after kind → IsEndRefused X c behind kind)
      → IsCutUnder (opening_keys aad l) all whole (λ c behind. EndRefused c behind all before after kind)
      → IsCutUnder (opening_keys aad l) (Some X) (length X) (λ c behind. IsEndRefused X c behind kind)
  cut l kind refuses is =
      cut_under (opening_keys aad l) all whole X (λ c behind. EndRefused c behind all before after kind) (λ c behind. IsEndRefused X c behind kind) told size refuses is

  under : (l : Loaded) → load keyset ≡ Ok l → (kind : Kind) → InfoRefused (opening_keys aad l) all whole before after kind → Why kind
  under l loads OutOfMemory x = inl refl
  under l loads NoMatchingKey x = inr (inr (l, loads, told_if (λ S. IsChosen (opening_keys aad l) S None) all X told x))
  under l loads ReadFault x = absurd (sure x)
  under l loads TooManySegments x = inr (inr (l, loads, cut l TooManySegments (λ c behind many. many) x))
  under l loads (Truncated n) x = inr (inr (l, loads, cut l (Truncated n) (λ c behind is. record { few = is.0; last = at_last c behind n (λ size. size < c.over) is.1 }) x))
  under l loads (BadSegment n) x = inr (inr (l, loads, cut l (BadSegment n) (λ c behind is. record { few = is.0; last = at_last c behind n (λ size. c.over ≤ size) is.1 }) x))
  under l loads _ x = absurd x

  module _ {A : Type 0} (object object_after : A) where
    loaded : (error : TinkError) → InfoLoaded keyset aad all whole before after object object_after (Err error) → Why error.kind
    loaded error x = under x.loaded x.loads error.kind x.means

    by_kind : (error : TinkError) (kind : Kind) → error.kind ≡ kind → KeysetInfoRefused keyset aad all whole before after object object_after error kind → Why error.kind
    by_kind error OutOfMemory is x = inl is
    by_kind error BadKeyset is x = subst Why (sym is) (inr (inr x.cause))
    by_kind error InvalidKeyset is x = subst Why (sym is) (inr (inr x.cause))
    by_kind error UnsupportedKeyType is x = subst Why (sym is) (inr (inr x.cause))
    by_kind error InvalidKey is x = subst Why (sym is) (inr (inr x.cause))
    by_kind error NoPrimary is x = subst Why (sym is) (inr (inr x.cause))
    by_kind error WrongPrimitive is x = subst Why (sym is) (inr (inr x.cause))
    by_kind error NoMatchingKey is x = loaded error x
    by_kind error ReadFault is x = loaded error x
    by_kind error TooManySegments is x = loaded error x
    by_kind error (Truncated n) is x = loaded error x
    by_kind error (BadSegment n) is x = loaded error x
    by_kind error _ is x = absurd x

    why : (error : TinkError) → KeysetInfoMeans keyset aad all whole before after object object_after (Err error) → Why error.kind
    why error means = by_kind error error.kind refl means

-- an error of `stream_info`, by its status
pub untold_ends : {A : Type 0} (keyset aad : List ℕ) (all : Option (List ℕ)) (whole before after : ℕ) (object object_after : A) (unwritten : Type 0) (error : TinkError) (status : ℕ)
    → IfSome all (λ S. length S ≡ whole) → ((all ≡ None → ⊥) → Rose before after → ⊥)
    → KeysetInfoMeans keyset aad all whole before after object object_after (Err error) → status ≡ refusal_status error.kind
    → MayEnd IsEndRefused unwritten keyset aad all status
untold_ends keyset aad all whole before after object object_after unwritten error status size sure means is =
    by_bytes IsEndRefused unwritten keyset aad all error.kind status is
    (λ X some. with_cause X (why keyset aad whole before after X all some size (sure (λ none. some_none X some none)) object object_after error means))
  where
    some_none : (X : List ℕ) → all ≡ Some X → all ≡ None → ⊥
    some_none X some none = absurd (cc)

    with_cause : (X : List ℕ) → IsWhy IsEndRefused ⊥ keyset aad X error.kind → IsWhy IsEndRefused unwritten keyset aad X error.kind
    with_cause X (inl want) = inl want
    with_cause X (inr (inl write)) = absurd write.1
    with_cause X (inr (inr refused)) = inr (inr refused)

-- ---- the lines

-- written to standard output
pub unput : (lines text : List ℕ) (got got_after : Option (List ℕ)) (out out_after : ℕ) (result : Result (Unit {0}) Trouble) → text ≡ lines
    → OnErr result (AppendsPrefix got got_after text) → OnErr result (Rose out out_after) → IfErr result (λ t. trouble_status t ≡ 12)
    → IfErr result (λ t. IsUnwritten lines got got_after out out_after (trouble_status t))
unput lines text got got_after out out_after (Ok done) is part rose status = tt
unput lines text got got_after out out_after (Err t) is part rose status = inr (status, rose, subst (λ (l : List ℕ). AppendsPrefix got got_after l) is part)

-- of an object, whose key and sizes are known
pub told_done : (keyset aad : List ℕ) (all : Option (List ℕ)) (i : StreamInfo) (got got_after : Option (List ℕ)) (result : Result (Unit {0}) Trouble)
    → ((X : List ℕ) → all ≡ Some X → IsInfoOf keyset aad X i) → OnOk result (Appends got got_after (info_lines i))
    → OnOk result ((X : List ℕ) → all ≡ Some X → IsTold keyset aad X (Appends got got_after))
told_done keyset aad all i got got_after (Ok done) is shown = λ X told. record { i = i; is = is X told; shown = shown }
told_done keyset aad all i got got_after (Err t) is shown = tt

pub told_left : (keyset aad : List ℕ) (all : Option (List ℕ)) (i : StreamInfo) (got got_after : Option (List ℕ)) (out out_after : ℕ) (result : Result (Unit {0}) Trouble)
    → ((X : List ℕ) → all ≡ Some X → IsInfoOf keyset aad X i)
    → IfErr result (λ t. IsUnwritten (info_lines i) got got_after out out_after (trouble_status t))
    → IfErr result (λ t. (X : List ℕ) → all ≡ Some X → LeavesLines got got_after (IsTold keyset aad X (AppendsPrefix got got_after)) (trouble_status t))
told_left keyset aad all i got got_after out out_after (Ok done) is unwritten = tt
told_left keyset aad all i got got_after out out_after (Err t) is (inl want) = λ X told. inl want.1
told_left keyset aad all i got got_after out out_after (Err t) is (inr (status, rose, part)) = λ X told. inr (status, record { i = i; is = is X told; shown = part })

pub told_ends : (keyset aad : List ℕ) (all : Option (List ℕ)) (lines : List ℕ) (got got_after : Option (List ℕ)) (out out_after : ℕ) (result : Result (Unit {0}) Trouble)
    → IfErr result (λ t. IsUnwritten lines got got_after out out_after (trouble_status t))
    → IfErr result (λ t. MayEnd IsEndRefused (Rose out out_after) keyset aad all (trouble_status t))
told_ends keyset aad all lines got got_after out out_after (Ok done) unwritten = tt
told_ends keyset aad all lines got got_after out out_after (Err t) (inl want) = inl want.0
told_ends keyset aad all lines got got_after out out_after (Err t) (inr (status, rose, part)) = inr (inl (status, rose))

-- ---- an input

told_of : (keyset aad : List ℕ) (s : SystemState) (input : Option (List ℕ)) (name : List ℕ) (all : Option (List ℕ)) (P : List ℕ → Type 0) (found : List ℕ) → input ≡ Some name
    → content s (Some name) ≡ Some found → IsTold keyset aad found P → IsToldOf keyset aad s input P
told_of keyset aad s input name all P found is there told = record { object = found; read = ap (λ (i : Option (List ℕ)). content s i) is ∙ there; told = told }

-- its bytes are those of the object
read_of : (s : SystemState) (name : List ℕ) (all : Option (List ℕ)) (found : List ℕ) → all ≡ known_content s (Some name) → s.is_known ≡ true → content s (Some name) ≡ Some found
    → all ≡ Some found
read_of s name all found given known there = given ∙ ap (λ (b : Bool). known_bytes b (content s (Some name))) known ∙ there

pub opened_done : (keyset aad : List ℕ) (s : SystemState) (input : Option (List ℕ)) (name : List ℕ) (all got got_after : Option (List ℕ)) (result : Result (Unit {0}) Trouble) → input ≡ Some name
    → all ≡ known_content s (Some name) → (s.is_known ≡ true → IsSome (content s (Some name)))
    → OnOk result ((X : List ℕ) → all ≡ Some X → IsTold keyset aad X (Appends got got_after))
    → OnOk result (s.is_known ≡ true → IsToldOf keyset aad s input (Appends got got_after))
opened_done keyset aad s input name all got got_after (Ok done) is given there told = λ known.
    let found = some_of (content s (Some name)) (there known) in
    told_of keyset aad s input name all (Appends got got_after) found.0 is found.1 (told found.0 (read_of s name all found.0 given known found.1))
opened_done keyset aad s input name all got got_after (Err t) is given there told = tt

pub opened_left : (keyset aad : List ℕ) (s : SystemState) (input : Option (List ℕ)) (name : List ℕ) (all got got_after : Option (List ℕ)) (result : Result (Unit {0}) Trouble) → input ≡ Some name
    → all ≡ known_content s (Some name) → (s.is_known ≡ true → IsSome (content s (Some name)))
    → IfErr result (λ t. (X : List ℕ) → all ≡ Some X → LeavesLines got got_after (IsTold keyset aad X (AppendsPrefix got got_after)) (trouble_status t))
    → IfErr result (λ t. s.is_known ≡ true → LeavesLines got got_after (IsToldOf keyset aad s input (AppendsPrefix got got_after)) (trouble_status t))
opened_left keyset aad s input name all got got_after (Ok done) is given there left = tt
opened_left keyset aad s input name all got got_after (Err t) is given there left = λ known.
    let found = some_of (content s (Some name)) (there known) in by found.0 found.1 (left found.0 (read_of s name all found.0 given known found.1))
  where
    by : (found : List ℕ) → content s (Some name) ≡ Some found → LeavesLines got got_after (IsTold keyset aad found (AppendsPrefix got got_after)) (trouble_status t)
        → LeavesLines got got_after (IsToldOf keyset aad s input (AppendsPrefix got got_after)) (trouble_status t)
    by found there_is (inl same) = inl same
    by found there_is (inr (status, told)) = inr (status, told_of keyset aad s input name all (AppendsPrefix got got_after) found is there_is told)

-- ---- the words

-- what is told of the input that they name
told_by : (line : LineRead) (job : Job) (keyset : List ℕ) (s : SystemState) (P : List ℕ → Type 0) → IsJob line job → keyset_of s job.keys ≡ Ok keyset
    → IsToldOf keyset job.aad.now s (option_map (λ n. n.now) job.input) P → IsToldBy line s P
told_by line job keyset s P is loaded told = record {
  keyset = keyset;
  keys = record { file = is.file; given = is.given; words = job.keys; are = is.keys; loaded = loaded };
  told = rw (is.input, is.aad) at told;
}

pub informed : (line : LineRead) (job : Job) (keyset : List ℕ) (old middle : SystemState) (got got_after : Option (List ℕ)) (result : Result (Unit {0}) Trouble) → IsJob line job → middle ≡ old
    → (old.is_known ≡ true → keyset_of old job.keys ≡ Ok keyset) → reads_twice job ≡ false
    → OnOk result (middle.is_known ≡ true → IsToldOf keyset job.aad.now middle (option_map (λ n. n.now) job.input) (Appends got got_after))
    → OnOk result (old.is_known ≡ true → IsInformed line old got got_after)
informed line job keyset old middle got got_after (Ok done) is same loaded once told = λ known. (
  sym (twice_by_words line job is) ∙ once,
  told_by line job keyset old (Appends got got_after) is (loaded known)
      (subst (λ (s : SystemState). s.is_known ≡ true → IsToldOf keyset job.aad.now s (option_map (λ n. n.now) job.input) (Appends got got_after)) same told known),
)
informed line job keyset old middle got got_after (Err t) is same loaded once told = tt

pub left_by : (line : LineRead) (job : Job) (keyset : List ℕ) (old middle : SystemState) (got got_after : Option (List ℕ)) (result : Result (Unit {0}) Trouble) → IsJob line job → middle ≡ old
    → (old.is_known ≡ true → keyset_of old job.keys ≡ Ok keyset)
    → IfErr result (λ t. middle.is_known ≡ true → LeavesLines got got_after (IsToldOf keyset job.aad.now middle (option_map (λ n. n.now) job.input) (AppendsPrefix got got_after)) (trouble_status t))
    → IfErr result (λ t. old.is_known ≡ true → LeavesInfo line old got got_after (trouble_status t))
left_by line job keyset old middle got got_after (Ok done) is same loaded left = tt
left_by line job keyset old middle got got_after (Err t) is same loaded left = λ known.
    by known (subst (λ (s : SystemState). s.is_known ≡ true → LeavesLines got got_after (IsToldOf keyset job.aad.now s (option_map (λ n. n.now) job.input) (AppendsPrefix got got_after))
    (trouble_status t)) same left known)
  where
    by : old.is_known ≡ true → LeavesLines got got_after (IsToldOf keyset job.aad.now old (option_map (λ n. n.now) job.input) (AppendsPrefix got got_after)) (trouble_status t)
        → LeavesInfo line old got got_after (trouble_status t)
    by known (inl still) = inl still
    by known (inr (status, told)) = inr (status, told_by line job keyset old (AppendsPrefix got got_after) is (loaded known) told)

pub info_cause : (line : LineRead) (job : Job) (keyset : List ℕ) (old middle : SystemState) (before then now out out_after : ℕ) (result : Result (Unit {0}) Trouble)
    → IsJob line job → middle ≡ old → before ≤ then → (old.is_known ≡ true → keyset_of old job.keys ≡ Ok keyset)
    → IfErr result (λ t. middle.is_known ≡ true → HasCauseOf IsEndRefused (Rose out out_after) keyset job.aad.now middle (option_map (λ n. n.now) job.input) then now (trouble_status t))
    → IfErr result (λ t. old.is_known ≡ true → HasInfoCause line old before now out out_after (trouble_status t))
info_cause line job keyset old middle before then now out out_after (Ok done) is same le loaded cause = tt
info_cause line job keyset old middle before then now out out_after (Err t) is same le loaded cause =
    line_cause IsEndRefused _ (Rose out out_after) _ line job keyset old middle before then now (trouble_status t) (λ none. inr none) (λ ends. ends) is same le loaded cause
