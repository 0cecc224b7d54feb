-- What a command of streams says by its answer, it says by its status.
use Rattle.std.proofs.Common.{◌≡◌, ◌⊎◌, inl, inr, ◌≤◌, ◌*◌, ℕ, zero, suc, List, [], length, length-append, false, refl, sym, ◌∙◌, ap, subst, arith}
use Rattle.std.specs.declared.option.Option.{Option}
use Rattle.std.specs.Prelude.{Result, Ok, Err, OnErr, OnOk}
use Rattle.std.specs.Io.KnownBytes.{Appends}
use Rattle.tink_io.specs.Faults.{Rose}
use Rattle.tink_io.specs.Written.{AppendsPrefix, WritesOrFaults}
use Rattle.tink_io.specs.declared.error.Kind.{Kind}
use Rattle.tink_io.specs.declared.error.Kind.TheVariants.{OutOfMemory, ReadFault, WriteFault, RandomFault, BadKeyset, InvalidKeyset, UnsupportedKeyType, InvalidKey, NoPrimary, WrongPrimitive, UnsupportedHash, TooManySegments, NoMatchingKey, BadSegment, Truncated, UnknownTemplate, NoFreshId, InputTooLong, BadToken, MacMismatch}
use Rattle.tink_io.specs.declared.error.TinkError.{TinkError}
use Rattle.loading_model.specs.Loading.{Loaded}
use Rattle.stream_model.specs.Key.{IsUsable}
use Rattle.stream_model.specs.Sealing.{drawn}
use Rattle.tink_run.specs.AllKeys.{load}
use Rattle.tink_io.specs.Outside.{Outside, IsUntouched}
use Rattle.tink_run.specs.Run.{AnswerMeans, IsEarly, IsOkOrWant, LeavesSinkItself, WritesNothing}
use Rattle.tink_run.specs.declared.report.Command.{Command}
use Rattle.tink_run.specs.declared.report.Command.TheVariants.{Seal, Open}
use Rattle.tink_run.specs.declared.report.Report.{Report}
use Rattle.tink_run.proofs.Promises.{only_agreeing}
use Rattle.tink_run.proofs.LoadedFacts.{loaded_usable}
use Rattle.tink_run.proofs.RunSteps.{leaves_same}
use Rattle.tink_program_core.specs.Draws.{draws_in}
use Rattle.tink_io.specs.Statuses.{kind_status}
use Rattle.tink_program_core.specs.Program.{answer_outcome, own_statuses, refused_statuses, status_of, IsAmong, IsEarlyKind, IsUnwrittenKind, Leaves}
use Rattle.tink_program_core.specs.Streams.{IsDoneOrWant, OpenOutcome, OpenPromises, OpensWhole, Ran, SealPromises, SealsWhole, SparesEnds, StopsUnmarked, StreamMeans}
use Rattle.tink_program_core.specs.Words.Asked.{Opening, Sealing}
use Rattle.tink_program_core.specs.declared.outcomes.Outcome.{Outcome}
use Rattle.tink_program_core.specs.declared.outcomes.Outcome.TheVariants.{Done, Usage, Refused}
use Rattle.tink_program_core.proofs.StatusLemmas.{above_2, sink_left, CommandFacts}

pub length-draws_in : (seed : List ℕ) (n : ℕ) → length (draws_in seed n) ≡ 4 * n
unfolding draws_in
length-draws_in seed zero = refl
length-draws_in seed (suc n) = omega (arith, length-draws_in seed n, length-append {A = ℕ})

-- a keyset's primary key keeps to what every key of the product keeps to
primary_usable : (keyset : List ℕ) (loaded : Loaded) → load keyset ≡ Ok loaded → IsUsable loaded.primary
primary_usable keyset loaded loads = (loaded_usable keyset loaded loads).1.usable

-- a seed's draws suffice for a salt and a prefix
pub draws_suffice : (keyset seed : List ℕ) (loaded : Loaded) → load keyset ≡ Ok loaded → drawn loaded.primary ≤ length (draws_in seed 256)
draws_suffice keyset seed loaded loads =
    elim (primary_usable keyset loaded loads).derived [ inl is ↦ omega (arith, length-draws_in seed 256) | inr is ↦ omega (arith, length-draws_in seed 256) ]

-- ---- from the run to the outcome

seal_refused : (keyset aad seed left_draws : List ℕ) (old new : Outside) (kind : Kind)
    → AnswerMeans Seal keyset aad (draws_in seed 256) left_draws old new (Err (record { kind = kind })) → StreamMeans Seal keyset aad (draws_in seed 256) old new (Refused kind)
seal_refused keyset aad seed left_draws old new OutOfMemory m = m.untouched
seal_refused keyset aad seed left_draws old new RandomFault m = absurd (omega (arith, m.few, draws_suffice keyset seed m.loaded m.loads))
seal_refused keyset aad seed left_draws old new _ m = (left_draws, m)

open_refused : (keyset aad left_draws : List ℕ) (old new : Outside) (kind : Kind)
    → AnswerMeans Open keyset aad [] left_draws old new (Err (record { kind = kind })) → StreamMeans Open keyset aad [] old new (Refused kind)
open_refused keyset aad left_draws old new OutOfMemory m = m.0.untouched
open_refused keyset aad left_draws old new RandomFault m = m.0
open_refused keyset aad left_draws old new _ m = (left_draws, m)

-- the outcome of a seal's answer
pub seal_outcome : (keyset aad seed : List ℕ) (old new : Outside) (answer : Result Report TinkError) → Ran Seal keyset aad (draws_in seed 256) old new answer
    → StreamMeans Seal keyset aad (draws_in seed 256) old new (answer_outcome answer)
seal_outcome keyset aad seed old new (Ok report) ran = (report, (ran.left_draws, ran.means))
seal_outcome keyset aad seed old new (Err e) ran = seal_refused keyset aad seed ran.left_draws old new e.kind ran.means

-- the outcome of an open's answer
pub open_outcome : (keyset aad : List ℕ) (old new : Outside) (answer : Result Report TinkError) → Ran Open keyset aad [] old new answer
    → OpenOutcome keyset aad old new (answer_outcome answer)
open_outcome keyset aad old new (Ok report) ran = record { means = (report, (ran.left_draws, ran.means)); read = tt }
open_outcome keyset aad old new (Err e) ran = record { means = open_refused keyset aad ran.left_draws old new e.kind ran.means; read = ran.read }

-- a run refuses by none of the kinds of other commands
early_run : (command : Command) (keyset aad draws left_draws : List ℕ) (old new : Outside) (kind : Kind) → AnswerMeans command keyset aad draws left_draws old new (Err (record { kind = kind }))
    → IsEarlyKind kind → IsEarly kind
early_run Seal keyset aad draws left_draws old new UnknownTemplate m early = absurd m
early_run Seal keyset aad draws left_draws old new NoFreshId m early = absurd m
early_run Seal keyset aad draws left_draws old new OutOfMemory m early = tt
early_run Seal keyset aad draws left_draws old new RandomFault m early = tt
early_run Seal keyset aad draws left_draws old new _ m early = early
early_run Open keyset aad draws left_draws old new UnknownTemplate m early = absurd m.0
early_run Open keyset aad draws left_draws old new NoFreshId m early = absurd m.0
early_run Open keyset aad draws left_draws old new OutOfMemory m early = tt
early_run Open keyset aad draws left_draws old new RandomFault m early = tt
early_run Open keyset aad draws left_draws old new _ m early = early

unwritten_run : (command : Command) (keyset aad draws left_draws : List ℕ) (old new : Outside) (kind : Kind) → AnswerMeans command keyset aad draws left_draws old new (Err (record { kind = kind }))
    → IsUnwrittenKind kind → WritesNothing kind
unwritten_run Seal keyset aad draws left_draws old new UnknownTemplate m none = absurd m
unwritten_run Seal keyset aad draws left_draws old new NoFreshId m none = absurd m
unwritten_run Seal keyset aad draws left_draws old new InputTooLong m none = absurd m
unwritten_run Seal keyset aad draws left_draws old new BadToken m none = absurd m
unwritten_run Seal keyset aad draws left_draws old new MacMismatch m none = absurd m
unwritten_run Seal keyset aad draws left_draws old new RandomFault m none = tt
unwritten_run Seal keyset aad draws left_draws old new _ m none = none
unwritten_run Open keyset aad draws left_draws old new UnknownTemplate m none = absurd m.0
unwritten_run Open keyset aad draws left_draws old new NoFreshId m none = absurd m.0
unwritten_run Open keyset aad draws left_draws old new InputTooLong m none = absurd m.0
unwritten_run Open keyset aad draws left_draws old new BadToken m none = absurd m.0
unwritten_run Open keyset aad draws left_draws old new MacMismatch m none = absurd m.0
unwritten_run Open keyset aad draws left_draws old new RandomFault m none = tt
unwritten_run Open keyset aad draws left_draws old new _ m none = none

-- ends that stay as they were are spared by every answer
pub spared_same : {S K : Type 0} (answer : Result Report TinkError) (source : S) (sink : K) → SparesEnds answer source source sink sink
spared_same answer source sink = record { early = leaves_same answer source sink; unwritten = sink_same answer }
  where
    sink_same : (given : Result Report TinkError) → LeavesSinkItself given sink sink
    sink_same (Ok report) = tt
    sink_same (Err e) = λ none. refl

-- an outcome leaves what its answer leaves
pub leaves_by : {S K : Type 0} (command : Command) (keyset aad draws : List ℕ) (old new : Outside) (answer : Result Report TinkError) (s t : S) (k l : K)
    → Ran command keyset aad draws old new answer → SparesEnds answer s t k l → Leaves false (λ kind. IsUnwrittenKind kind) (answer_outcome answer) s t k l
leaves_by command keyset aad draws old new (Ok report) s t k l ran spares = tt
leaves_by command keyset aad draws old new (Err e) s t k l ran spares = (
  λ is. (spares.early (early_run command keyset aad draws ran.left_draws old new e.kind ran.means is)).0,
  λ is. spares.unwritten (unwritten_run command keyset aad draws ran.left_draws old new e.kind ran.means is),
  λ is. inr (spares.early (rw is tt)).0,
)

-- ---- what a status says

-- a keyset has one refusal, and none where it loads
pub one_refusal : (keyset : List ℕ) (kind other : Kind) → load keyset ≡ Err kind → load keyset ≡ Err other → kind_status other ≡ kind_status kind
one_refusal keyset kind other p q = let same = sym q ∙ p in ap kind_status (cc same)

pub not_loaded : (keyset : List ℕ) (kind : Kind) (loaded : Loaded) → load keyset ≡ Err kind → load keyset ≡ Ok loaded → ⊥
not_loaded keyset kind loaded p q = let same = sym q ∙ p in cc same

-- which statuses come

seal_own : (keyset aad seed draws : List ℕ) (old new : Outside) (kind : Kind) → StreamMeans Seal keyset aad draws old new (Refused kind)
    → IsAmong (own_statuses (Sealing keyset aad seed)) (kind_status kind)
seal_own keyset aad seed draws old new OutOfMemory m = refl
seal_own keyset aad seed draws old new ReadFault m = refl
seal_own keyset aad seed draws old new WriteFault m = refl
seal_own keyset aad seed draws old new BadKeyset m = refl
seal_own keyset aad seed draws old new InvalidKeyset m = refl
seal_own keyset aad seed draws old new UnsupportedKeyType m = refl
seal_own keyset aad seed draws old new InvalidKey m = refl
seal_own keyset aad seed draws old new NoPrimary m = refl
seal_own keyset aad seed draws old new WrongPrimitive m = refl
seal_own keyset aad seed draws old new UnsupportedHash m = refl
seal_own keyset aad seed draws old new TooManySegments m = refl
seal_own keyset aad seed draws old new RandomFault m = absurd m
seal_own keyset aad seed draws old new _ m = absurd m.1

open_own : (keyset aad draws : List ℕ) (old new : Outside) (kind : Kind) → StreamMeans Open keyset aad draws old new (Refused kind)
    → IsAmong (own_statuses (Opening keyset aad)) (kind_status kind)
open_own keyset aad draws old new OutOfMemory m = refl
open_own keyset aad draws old new ReadFault m = refl
open_own keyset aad draws old new WriteFault m = refl
open_own keyset aad draws old new BadKeyset m = refl
open_own keyset aad draws old new InvalidKeyset m = refl
open_own keyset aad draws old new UnsupportedKeyType m = refl
open_own keyset aad draws old new InvalidKey m = refl
open_own keyset aad draws old new NoPrimary m = refl
open_own keyset aad draws old new WrongPrimitive m = refl
open_own keyset aad draws old new TooManySegments m = refl
open_own keyset aad draws old new NoMatchingKey m = refl
open_own keyset aad draws old new (BadSegment number) m = refl
open_own keyset aad draws old new (Truncated number) m = refl
open_own keyset aad draws old new RandomFault m = absurd m
open_own keyset aad draws old new _ m = absurd m.1.0

-- what a keyset gets that does not load, and why

seal_unloaded : (keyset aad draws : List ℕ) (old new : Outside) (kind other : Kind) → load keyset ≡ Err kind → StreamMeans Seal keyset aad draws old new (Refused other)
    → (kind_status other ≡ kind_status kind) ⊎ (kind_status other ≡ 10)
seal_unloaded keyset aad draws old new kind OutOfMemory is m = inr refl
seal_unloaded keyset aad draws old new kind BadKeyset is m = inl (one_refusal keyset kind BadKeyset is m.1.cause)
seal_unloaded keyset aad draws old new kind InvalidKeyset is m = inl (one_refusal keyset kind InvalidKeyset is m.1.cause)
seal_unloaded keyset aad draws old new kind UnsupportedKeyType is m = inl (one_refusal keyset kind UnsupportedKeyType is m.1.cause)
seal_unloaded keyset aad draws old new kind InvalidKey is m = inl (one_refusal keyset kind InvalidKey is m.1.cause)
seal_unloaded keyset aad draws old new kind NoPrimary is m = inl (one_refusal keyset kind NoPrimary is m.1.cause)
seal_unloaded keyset aad draws old new kind WrongPrimitive is m = inl (one_refusal keyset kind WrongPrimitive is m.1.cause)
seal_unloaded keyset aad draws old new kind UnsupportedHash is m = absurd (not_loaded keyset kind m.1.loaded is m.1.loads)
seal_unloaded keyset aad draws old new kind ReadFault is m = absurd (not_loaded keyset kind m.1.loaded is m.1.loads)
seal_unloaded keyset aad draws old new kind WriteFault is m = absurd (not_loaded keyset kind m.1.loaded is m.1.loads)
seal_unloaded keyset aad draws old new kind TooManySegments is m = absurd (not_loaded keyset kind m.1.loaded is m.1.loads)
seal_unloaded keyset aad draws old new kind RandomFault is m = absurd m
seal_unloaded keyset aad draws old new kind _ is m = absurd m.1

open_unloaded : (keyset aad draws : List ℕ) (old new : Outside) (kind other : Kind) → load keyset ≡ Err kind → StreamMeans Open keyset aad draws old new (Refused other)
    → (kind_status other ≡ kind_status kind) ⊎ (kind_status other ≡ 10)
open_unloaded keyset aad draws old new kind OutOfMemory is m = inr refl
open_unloaded keyset aad draws old new kind BadKeyset is m = inl (one_refusal keyset kind BadKeyset is m.1.0.cause)
open_unloaded keyset aad draws old new kind InvalidKeyset is m = inl (one_refusal keyset kind InvalidKeyset is m.1.0.cause)
open_unloaded keyset aad draws old new kind UnsupportedKeyType is m = inl (one_refusal keyset kind UnsupportedKeyType is m.1.0.cause)
open_unloaded keyset aad draws old new kind InvalidKey is m = inl (one_refusal keyset kind InvalidKey is m.1.0.cause)
open_unloaded keyset aad draws old new kind NoPrimary is m = inl (one_refusal keyset kind NoPrimary is m.1.0.cause)
open_unloaded keyset aad draws old new kind WrongPrimitive is m = inl (one_refusal keyset kind WrongPrimitive is m.1.0.cause)
open_unloaded keyset aad draws old new kind ReadFault is m = absurd (not_loaded keyset kind m.1.0.loaded is m.1.0.loads)
open_unloaded keyset aad draws old new kind WriteFault is m = absurd (not_loaded keyset kind m.1.0.loaded is m.1.0.loads)
open_unloaded keyset aad draws old new kind TooManySegments is m = absurd (not_loaded keyset kind m.1.0.loaded is m.1.0.loads)
open_unloaded keyset aad draws old new kind NoMatchingKey is m = absurd (not_loaded keyset kind m.1.0.loaded is m.1.0.loads)
open_unloaded keyset aad draws old new kind (BadSegment number) is m = absurd (not_loaded keyset kind m.1.0.loaded is m.1.0.loads)
open_unloaded keyset aad draws old new kind (Truncated number) is m = absurd (not_loaded keyset kind m.1.0.loaded is m.1.0.loads)
open_unloaded keyset aad draws old new kind RandomFault is m = absurd m
open_unloaded keyset aad draws old new kind _ is m = absurd m.1.0

seal_caused : (keyset aad draws : List ℕ) (old new : Outside) (kind : Kind) → StreamMeans Seal keyset aad draws old new (Refused kind) → IsAmong refused_statuses (kind_status kind)
    → load keyset ≡ Err kind
seal_caused keyset aad draws old new BadKeyset m among = m.1.cause
seal_caused keyset aad draws old new InvalidKeyset m among = m.1.cause
seal_caused keyset aad draws old new UnsupportedKeyType m among = m.1.cause
seal_caused keyset aad draws old new InvalidKey m among = m.1.cause
seal_caused keyset aad draws old new NoPrimary m among = m.1.cause
seal_caused keyset aad draws old new WrongPrimitive m among = m.1.cause
seal_caused keyset aad draws old new UnknownTemplate m among = absurd m.1
seal_caused keyset aad draws old new NoFreshId m among = absurd m.1
seal_caused keyset aad draws old new _ m among = absurd (cc among)

open_caused : (keyset aad draws : List ℕ) (old new : Outside) (kind : Kind) → StreamMeans Open keyset aad draws old new (Refused kind) → IsAmong refused_statuses (kind_status kind)
    → load keyset ≡ Err kind
open_caused keyset aad draws old new BadKeyset m among = m.1.0.cause
open_caused keyset aad draws old new InvalidKeyset m among = m.1.0.cause
open_caused keyset aad draws old new UnsupportedKeyType m among = m.1.0.cause
open_caused keyset aad draws old new InvalidKey m among = m.1.0.cause
open_caused keyset aad draws old new NoPrimary m among = m.1.0.cause
open_caused keyset aad draws old new WrongPrimitive m among = m.1.0.cause
open_caused keyset aad draws old new UnknownTemplate m among = absurd m.1.0
open_caused keyset aad draws old new NoFreshId m among = absurd m.1.0
open_caused keyset aad draws old new _ m among = absurd (cc among)

-- why a status of 10, 11 or 12 came

want_cause : (command : Command) (keyset aad draws : List ℕ) (old new : Outside) (kind : Kind) → StreamMeans command keyset aad draws old new (Refused kind) → kind_status kind ≡ 10 → IsUntouched old new
want_cause command keyset aad draws old new OutOfMemory m is = m
want_cause command keyset aad draws old new _ m is = absurd (omega (arith, is))

read_cause : (command : Command) (keyset aad draws : List ℕ) (old new : Outside) (kind : Kind) → StreamMeans command keyset aad draws old new (Refused kind) → kind_status kind ≡ 11
    → Rose old.read_faults new.read_faults
read_cause Seal keyset aad draws old new ReadFault m is = m.1.means.rose
read_cause Open keyset aad draws old new ReadFault m is = m.1.0.means.1
read_cause command keyset aad draws old new _ m is = absurd (omega (arith, is))

write_cause : (command : Command) (keyset aad draws : List ℕ) (old new : Outside) (kind : Kind) → StreamMeans command keyset aad draws old new (Refused kind) → kind_status kind ≡ 12
    → Rose old.write_faults new.write_faults
write_cause Seal keyset aad draws old new WriteFault m is = m.1.means.rose
write_cause Open keyset aad draws old new WriteFault m is = m.1.0.means.1
write_cause command keyset aad draws old new _ m is = absurd (omega (arith, is))

-- ---- of each command

pub seal_facts : (keyset aad seed : List ℕ) (old new : Outside) (outcome : Outcome) → StreamMeans Seal keyset aad (draws_in seed 256) old new outcome
    → CommandFacts (Sealing keyset aad seed) old new (status_of outcome)
seal_facts keyset aad seed old new Done m = record {
  not_usage = λ is. cc is;
  own = refl;
  refused = λ kind is. absurd (not_loaded keyset kind m.1.1.loaded is m.1.1.loads);
  cause = λ among. absurd (cc among);
  want = λ is. absurd (omega (arith, is));
  read_fault = λ is. absurd (omega (arith, is));
  write_fault = λ is. absurd (omega (arith, is));
}
seal_facts keyset aad seed old new Usage m = absurd m
seal_facts keyset aad seed old new (Refused kind) m = record {
  not_usage = λ is. absurd (omega (arith, is, above_2 kind));
  own = seal_own keyset aad seed (draws_in seed 256) old new kind m;
  refused = λ by is. seal_unloaded keyset aad (draws_in seed 256) old new by kind is m;
  cause = λ among. (kind, refl, seal_caused keyset aad (draws_in seed 256) old new kind m among);
  want = λ is. let same = want_cause Seal keyset aad (draws_in seed 256) old new kind m is in (sink_left old new same, inr same);
  read_fault = read_cause Seal keyset aad (draws_in seed 256) old new kind m;
  write_fault = write_cause Seal keyset aad (draws_in seed 256) old new kind m;
}

pub open_facts : (keyset aad : List ℕ) (old new : Outside) (outcome : Outcome) → StreamMeans Open keyset aad [] old new outcome
    → CommandFacts (Opening keyset aad) old new (status_of outcome)
open_facts keyset aad old new Done m = record {
  not_usage = λ is. cc is;
  own = refl;
  refused = λ kind is. absurd (not_loaded keyset kind m.1.1.0.loaded is m.1.1.0.loads);
  cause = λ among. absurd (cc among);
  want = λ is. absurd (omega (arith, is));
  read_fault = λ is. absurd (omega (arith, is));
  write_fault = λ is. absurd (omega (arith, is));
}
open_facts keyset aad old new Usage m = absurd m
open_facts keyset aad old new (Refused kind) m = record {
  not_usage = λ is. absurd (omega (arith, is, above_2 kind));
  own = open_own keyset aad [] old new kind m;
  refused = λ by is. open_unloaded keyset aad [] old new by kind is m;
  cause = λ among. (kind, refl, open_caused keyset aad [] old new kind m among);
  want = λ is. let same = want_cause Open keyset aad [] old new kind m is in (sink_left old new same, inr same);
  read_fault = read_cause Open keyset aad [] old new kind m;
  write_fault = write_cause Open keyset aad [] old new kind m;
}

-- ---- what a status promises

pub ok_or_want : (answer : Result Report TinkError) → IsOkOrWant answer → IsDoneOrWant (status_of (answer_outcome answer))
ok_or_want (Ok report) is = inl refl
ok_or_want (Err e) is = inr (ap kind_status is)

seals_whole : (keyset aad seed : List ℕ) (old new : Outside) (answer : Result Report TinkError) → Ran Seal keyset aad (draws_in seed 256) old new answer
    → SealsWhole keyset aad seed old new (status_of (answer_outcome answer))
seals_whole keyset aad seed old new (Ok report) ran = λ T G told is. (report, ran.left_draws, ran.ok T G told)
seals_whole keyset aad seed old new (Err e) ran = λ T G told is. absurd (omega (arith, is, above_2 e.kind))

stops_by : (keyset aad seed left_draws : List ℕ) (old new : Outside) (kind : Kind)
    → AnswerMeans Seal keyset aad (draws_in seed 256) left_draws old new (Err (record { kind = kind }))
    → StopsUnmarked keyset aad seed old new (kind_status kind)
stops_by keyset aad seed left_draws old new ReadFault m = λ is. (m.loaded, m.loads, m.means)
stops_by keyset aad seed left_draws old new _ m = λ is. absurd (omega (arith, is))

stops_unmarked : (keyset aad seed : List ℕ) (old new : Outside) (answer : Result Report TinkError) → Ran Seal keyset aad (draws_in seed 256) old new answer
    → StopsUnmarked keyset aad seed old new (status_of (answer_outcome answer))
stops_unmarked keyset aad seed old new (Ok report) ran = λ is. absurd (omega (arith, is))
stops_unmarked keyset aad seed old new (Err e) ran = stops_by keyset aad seed ran.left_draws old new e.kind ran.means

opens_whole : (keyset aad : List ℕ) (old new : Outside) (answer : Result Report TinkError) → Ran Open keyset aad [] old new answer
    → OpensWhole keyset aad old new (status_of (answer_outcome answer))
opens_whole keyset aad old new (Ok report) ran = λ S G told is. (report, ran.ok S G told)
opens_whole keyset aad old new (Err e) ran = λ S G told is. absurd (omega (arith, is, above_2 e.kind))

-- the promises of a seal
pub seal_promised : (keyset aad seed : List ℕ) (old new : Outside) (answer : Result Report TinkError) → Ran Seal keyset aad (draws_in seed 256) old new answer
    → SealPromises keyset aad seed old new (status_of (answer_outcome answer))
seal_promised keyset aad seed old new answer ran = record {
  sealed = seals_whole keyset aad seed old new answer ran;
  stopped = stops_unmarked keyset aad seed old new answer ran;
  succeeds = λ T G told faultless can. ok_or_want answer (ran.succeeds T G told faultless can);
}

-- the promises of an open
pub open_promised : (keyset aad : List ℕ) (old new : Outside) (answer : Result Report TinkError) → Ran Open keyset aad [] old new answer
    → OpenPromises keyset aad old new (status_of (answer_outcome answer))
open_promised keyset aad old new answer ran = record {
  opened = opens_whole keyset aad old new answer ran;
  written = ran.written;
  succeeds = λ S G told faultless can. ok_or_want answer (ran.succeeds S G told faultless can);
}

-- ---- from the calls to the run

-- what a run says of equal values
pub ran_along : (command : Command) (k a d keyset aad draws : List ℕ) (old new : Outside) (answer : Result Report TinkError) → k ≡ keyset → a ≡ aad → d ≡ draws
    → Ran command k a d old new answer → Ran command keyset aad draws old new answer
ran_along command k a d keyset aad draws old new answer keyset_is aad_is draws_is ran =
    subst (λ x. Ran command keyset aad x old new answer) draws_is (subst (λ x. Ran command keyset x d old new answer) aad_is (subst (λ x. Ran command x a d old new answer) keyset_is ran))

-- a refusal by `OutOfMemory` before the run
pub want_ran : (keyset aad draws : List ℕ) (outside : Outside) (e : TinkError) → e.kind ≡ OutOfMemory → Ran Seal keyset aad draws outside outside (Err e)
want_ran keyset aad draws outside e is = record {
  left_draws = draws;
  means = rw is (record { untouched = refl; undrawn = refl });
  ok = tt;
  written = tt;
  succeeds = λ T G told faultless can. is;
  read = tt;
}

-- the same before an open
pub want_opened : (keyset aad : List ℕ) (outside : Outside) → Ran Open keyset aad [] outside outside (Err (record { kind = OutOfMemory }))
want_opened keyset aad outside =
    let means : AnswerMeans Open keyset aad [] [] outside outside (Err (record { kind = OutOfMemory })) = (record { untouched = refl; undrawn = refl }, refl) in
    record {
      left_draws = [];
      means = means;
      ok = tt;
      written = only_agreeing Open keyset aad [] [] outside outside (Err (record { kind = OutOfMemory })) means;
      succeeds = λ S G told faultless can. refl;
      read = λ loaded loads. tt;
    }

-- a line that was written, or whose writing failed
pub line_written : (a b : Option (List ℕ)) (i j : ℕ) (answer : Result (Unit {0}) TinkError) (bs : List ℕ)
    → OnOk answer (Appends a b bs) → OnErr answer (AppendsPrefix a b bs) → OnErr answer (Rose i j) → WritesOrFaults a b i j bs
line_written a b i j (Ok v) bs whole front rose = inl whole
line_written a b i j (Err e) bs whole front rose = inr (front, rose)
