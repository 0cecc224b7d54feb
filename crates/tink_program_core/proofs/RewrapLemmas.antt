-- What a rewrap says by its answer, it says by its status.
use Rattle.std.proofs.Common.{◌≡◌, ◌⊎◌, inl, inr, ℕ, List, false, refl, subst, arith}
use Rattle.std.specs.Prelude.{Result, Ok, Err}
use Rattle.tink_io.specs.Faults.{Rose}
use Rattle.tink_io.specs.declared.error.Kind.{Kind}
use Rattle.tink_io.specs.declared.error.Kind.TheVariants.{OutOfMemory, ReadFault, WriteFault, RandomFault, BadKeyset, InvalidKeyset, UnsupportedKeyType, InvalidKey, NoPrimary, WrongPrimitive, UnsupportedHash, TooManySegments, NoMatchingKey, BadSegment, Truncated, UnknownTemplate, NoFreshId, InputTooLong, BadToken, MacMismatch}
use Rattle.tink_io.specs.declared.error.TinkError.{TinkError}
use Rattle.tink_io.specs.Outside.{Outside, IsUntouched}
use Rattle.tink_run.specs.Run.{IsEarly, WritesNothing}
use Rattle.tink_run.specs.declared.report.Report.{Report}
use Rattle.tink_rewrap.specs.Rewrapping.{RewrapMeans, RewrapsLoaded, Sides}
use Rattle.tink_rewrap.proofs.PromiseSteps.{complete, unended}
use Rattle.tink_program_core.specs.Draws.{draws_in}
use Rattle.tink_io.specs.Statuses.{kind_status}
use Rattle.tink_program_core.specs.Program.{answer_outcome, own_statuses, refused_statuses, status_by, status_of, IsAmong, IsEarlyKind, IsUnwrittenKind, Leaves}
use Rattle.tink_program_core.specs.Streams.{IsUnmovable, Moved, MovesWhole, RewrapOutcome, RewrapPromises, SparesEnds}
use Rattle.tink_program_core.specs.Words.Asked.{Rewrapping}
use Rattle.tink_program_core.specs.declared.outcomes.Outcome.{Outcome}
use Rattle.tink_program_core.specs.declared.outcomes.Outcome.TheVariants.{Done, Usage, Refused}
use Rattle.tink_program_core.proofs.StatusLemmas.{above_2, sink_left, CommandFacts}
use Rattle.tink_program_core.proofs.StreamLemmas.{draws_suffice, not_loaded, ok_or_want, one_refusal}

-- ---- from the rewrap to the outcome

refused_outcome : (sides : Sides) (seed left_draws : List ℕ) (old new : Outside) (kind : Kind)
    → RewrapMeans sides (draws_in seed 256) left_draws old new (Err (record { kind = kind })) → RewrapOutcome sides (draws_in seed 256) old new (Refused kind)
refused_outcome sides seed left_draws old new OutOfMemory m = m.untouched
refused_outcome sides seed left_draws old new RandomFault m = absurd (omega (arith, m.means.few, draws_suffice sides.to seed m.to_loaded m.to_loads))
refused_outcome sides seed left_draws old new _ m = (left_draws, m)

pub rewrap_outcome : (sides : Sides) (seed : List ℕ) (old new : Outside) (answer : Result Report TinkError) → Moved sides (draws_in seed 256) old new answer
    → RewrapOutcome sides (draws_in seed 256) old new (answer_outcome answer)
rewrap_outcome sides seed old new (Ok report) moved = (report, (moved.left_draws, moved.means))
rewrap_outcome sides seed old new (Err e) moved = refused_outcome sides seed moved.left_draws old new e.kind moved.means

-- a rewrap refuses by none of the kinds of other commands
early_rewrap : (sides : Sides) (draws left_draws : List ℕ) (old new : Outside) (kind : Kind) → RewrapMeans sides draws left_draws old new (Err (record { kind = kind })) → IsEarlyKind kind → IsEarly kind
early_rewrap sides draws left_draws old new UnknownTemplate m early = absurd m
early_rewrap sides draws left_draws old new NoFreshId m early = absurd m
early_rewrap sides draws left_draws old new OutOfMemory m early = tt
early_rewrap sides draws left_draws old new RandomFault m early = tt
early_rewrap sides draws left_draws old new _ m early = early

unwritten_rewrap : (sides : Sides) (draws left_draws : List ℕ) (old new : Outside) (kind : Kind) → RewrapMeans sides draws left_draws old new (Err (record { kind = kind })) → IsUnwrittenKind kind → WritesNothing kind
unwritten_rewrap sides draws left_draws old new UnknownTemplate m none = absurd m
unwritten_rewrap sides draws left_draws old new NoFreshId m none = absurd m
unwritten_rewrap sides draws left_draws old new InputTooLong m none = absurd m
unwritten_rewrap sides draws left_draws old new BadToken m none = absurd m
unwritten_rewrap sides draws left_draws old new MacMismatch m none = absurd m
unwritten_rewrap sides draws left_draws old new RandomFault m none = tt
unwritten_rewrap sides draws left_draws old new _ m none = none

-- an outcome leaves what its answer leaves
pub rewrap_leaves : {S K : Type 0} (sides : Sides) (draws : List ℕ) (old new : Outside) (answer : Result Report TinkError) (s t : S) (k l : K)
    → Moved sides draws old new answer → SparesEnds answer s t k l → Leaves false (λ kind. IsUnwrittenKind kind) (answer_outcome answer) s t k l
rewrap_leaves sides draws old new (Ok report) s t k l moved spares = tt
rewrap_leaves sides draws old new (Err e) s t k l moved spares = (
  λ is. (spares.early (early_rewrap sides draws moved.left_draws old new e.kind moved.means is)).0,
  λ is. spares.unwritten (unwritten_rewrap sides draws moved.left_draws old new e.kind moved.means is),
  λ is. inr (spares.early (rw is tt)).0,
)

-- ---- what a status says

own : (sides : Sides) (seed draws : List ℕ) (old new : Outside) (kind : Kind) → RewrapOutcome sides draws old new (Refused kind) → IsAmong (own_statuses (Rewrapping sides seed)) (kind_status kind)
own sides seed draws old new OutOfMemory m = refl
own sides seed draws old new BadKeyset m = refl
own sides seed draws old new InvalidKeyset m = refl
own sides seed draws old new UnsupportedKeyType m = refl
own sides seed draws old new InvalidKey m = refl
own sides seed draws old new NoPrimary m = refl
own sides seed draws old new WrongPrimitive m = refl
own sides seed draws old new UnsupportedHash m = refl
own sides seed draws old new NoMatchingKey m = refl
own sides seed draws old new TooManySegments m = refl
own sides seed draws old new (BadSegment number) m = refl
own sides seed draws old new (Truncated number) m = refl
own sides seed draws old new ReadFault m = refl
own sides seed draws old new WriteFault m = refl
own sides seed draws old new RandomFault m = absurd m
own sides seed draws old new _ m = absurd m.1

-- of two keysets one refusal comes
one_unmovable : (sides : Sides) (kind other : Kind) → IsUnmovable sides kind → IsUnmovable sides other → kind_status other ≡ kind_status kind
one_unmovable sides kind other (inl p) (inl q) = one_refusal sides.from kind other p q
one_unmovable sides kind other (inl p) (inr q) = absurd (not_loaded sides.from kind q.from_loaded p q.from_loads)
one_unmovable sides kind other (inr p) (inl q) = absurd (not_loaded sides.from other p.from_loaded q p.from_loads)
one_unmovable sides kind other (inr p) (inr q) = one_refusal sides.to kind other p.cause q.cause

-- and none where both load
both_load : {A : Type 0} (sides : Sides) (draws left_draws : List ℕ) (old new : Outside) (answer : Result Report TinkError) (kind : Kind) → IsUnmovable sides kind
    → RewrapsLoaded sides draws left_draws old new answer → A
both_load sides draws left_draws old new answer kind (inl p) m = absurd (not_loaded sides.from kind m.from_loaded p m.from_loads)
both_load sides draws left_draws old new answer kind (inr p) m = absurd (not_loaded sides.to kind m.to_loaded p.cause m.to_loads)

unloaded : (sides : Sides) (draws : List ℕ) (old new : Outside) (kind other : Kind) → IsUnmovable sides kind → RewrapOutcome sides draws old new (Refused other)
    → (kind_status other ≡ kind_status kind) ⊎ (kind_status other ≡ 10)
unloaded sides draws old new kind OutOfMemory is m = inr refl
unloaded sides draws old new kind BadKeyset is m = inl (one_unmovable sides kind BadKeyset is m.1.cause)
unloaded sides draws old new kind InvalidKeyset is m = inl (one_unmovable sides kind InvalidKeyset is m.1.cause)
unloaded sides draws old new kind UnsupportedKeyType is m = inl (one_unmovable sides kind UnsupportedKeyType is m.1.cause)
unloaded sides draws old new kind InvalidKey is m = inl (one_unmovable sides kind InvalidKey is m.1.cause)
unloaded sides draws old new kind NoPrimary is m = inl (one_unmovable sides kind NoPrimary is m.1.cause)
unloaded sides draws old new kind WrongPrimitive is m = inl (one_unmovable sides kind WrongPrimitive is m.1.cause)
unloaded sides draws old new kind UnsupportedHash is m = both_load sides draws m.0 old new (Err (record { kind = UnsupportedHash })) kind is m.1
unloaded sides draws old new kind NoMatchingKey is m = both_load sides draws m.0 old new (Err (record { kind = NoMatchingKey })) kind is m.1
unloaded sides draws old new kind TooManySegments is m = both_load sides draws m.0 old new (Err (record { kind = TooManySegments })) kind is m.1
unloaded sides draws old new kind (BadSegment number) is m = both_load sides draws m.0 old new (Err (record { kind = (BadSegment number) })) kind is m.1
unloaded sides draws old new kind (Truncated number) is m = both_load sides draws m.0 old new (Err (record { kind = (Truncated number) })) kind is m.1
unloaded sides draws old new kind ReadFault is m = both_load sides draws m.0 old new (Err (record { kind = ReadFault })) kind is m.1
unloaded sides draws old new kind WriteFault is m = both_load sides draws m.0 old new (Err (record { kind = WriteFault })) kind is m.1
unloaded sides draws old new kind RandomFault is m = absurd m
unloaded sides draws old new kind _ is m = absurd m.1

caused : (sides : Sides) (draws : List ℕ) (old new : Outside) (kind : Kind) → RewrapOutcome sides draws old new (Refused kind) → IsAmong refused_statuses (kind_status kind) → IsUnmovable sides kind
caused sides draws old new BadKeyset m among = m.1.cause
caused sides draws old new InvalidKeyset m among = m.1.cause
caused sides draws old new UnsupportedKeyType m among = m.1.cause
caused sides draws old new InvalidKey m among = m.1.cause
caused sides draws old new NoPrimary m among = m.1.cause
caused sides draws old new WrongPrimitive m among = m.1.cause
caused sides draws old new UnknownTemplate m among = absurd m.1
caused sides draws old new NoFreshId m among = absurd m.1
caused sides draws old new _ m among = absurd (cc among)

want_cause : (sides : Sides) (draws : List ℕ) (old new : Outside) (kind : Kind) → RewrapOutcome sides draws old new (Refused kind) → kind_status kind ≡ 10 → IsUntouched old new
want_cause sides draws old new OutOfMemory m is = m
want_cause sides draws old new _ m is = absurd (omega (arith, is))

read_cause : (sides : Sides) (draws : List ℕ) (old new : Outside) (kind : Kind) → RewrapOutcome sides draws old new (Refused kind) → kind_status kind ≡ 11 → Rose old.read_faults new.read_faults
read_cause sides draws old new ReadFault m is = m.1.means.means.opened.0.1
read_cause sides draws old new _ m is = absurd (omega (arith, is))

write_cause : (sides : Sides) (draws : List ℕ) (old new : Outside) (kind : Kind) → RewrapOutcome sides draws old new (Refused kind) → kind_status kind ≡ 12 → Rose old.write_faults new.write_faults
write_cause sides draws old new WriteFault m is = m.1.means.means.opened.0.1
write_cause sides draws old new _ m is = absurd (omega (arith, is))

pub rewrap_facts : (sides : Sides) (seed : List ℕ) (old new : Outside) (outcome : Outcome) → RewrapOutcome sides (draws_in seed 256) old new outcome
    → CommandFacts (Rewrapping sides seed) old new (status_of outcome)
rewrap_facts sides seed old new Done m = record {
  not_usage = λ is. cc is;
  own = refl;
  refused = λ kind is. both_load sides (draws_in seed 256) m.1.0 old new (Ok m.0) kind is m.1.1;
  cause = λ among. absurd (cc among);
  want = λ is. absurd (omega (arith, is));
  read_fault = λ is. absurd (omega (arith, is));
  write_fault = λ is. absurd (omega (arith, is));
}
rewrap_facts sides seed old new Usage m = absurd m
rewrap_facts sides seed old new (Refused kind) m = record {
  not_usage = λ is. absurd (omega (arith, is, above_2 kind));
  own = own sides seed (draws_in seed 256) old new kind m;
  refused = λ by is. unloaded sides (draws_in seed 256) old new by kind is m;
  cause = λ among. (kind, refl, caused sides (draws_in seed 256) old new kind m among);
  want = λ is. let same = want_cause sides (draws_in seed 256) old new kind m is in (sink_left old new same, inr same);
  read_fault = read_cause sides (draws_in seed 256) old new kind m;
  write_fault = write_cause sides (draws_in seed 256) old new kind m;
}

-- ---- what a status promises

moves_whole : (sides : Sides) (seed : List ℕ) (old new : Outside) (answer : Result Report TinkError) → Moved sides (draws_in seed 256) old new answer
    → MovesWhole sides seed old new (status_by answer)
moves_whole sides seed old new (Ok report) moved = λ S G told is. (report, moved.left_draws, moved.ok S G told)
moves_whole sides seed old new (Err e) moved = λ S G told is. absurd (omega (arith, is, above_2 e.kind))

pub rewrap_promised : (sides : Sides) (seed : List ℕ) (old new : Outside) (answer : Result Report TinkError) → Moved sides (draws_in seed 256) old new answer
    → RewrapPromises status_by sides seed old new (status_by answer)
rewrap_promised sides seed old new answer moved = record {
  rewrapped = moves_whole sides seed old new answer moved;
  unended = (answer, refl, moved.unended);
  succeeds = λ S G told faultless can. ok_or_want answer (moved.succeeds S G told faultless can);
}

-- ---- from the call to the rewrap

-- a refusal by `OutOfMemory` before the rewrap
pub want_moved : (sides : Sides) (draws : List ℕ) (outside : Outside) (e : TinkError) → e.kind ≡ OutOfMemory → Moved sides draws outside outside (Err e)
want_moved sides draws outside e is =
    let means : RewrapMeans sides draws draws outside outside (Err e) = rw is (record { untouched = refl; undrawn = refl }) in
    record {
      left_draws = draws;
      means = means;
      ok = tt;
      unended = unended sides draws draws outside outside (Err e) means;
      succeeds = complete sides draws draws outside outside (Err e) means;
    }

-- what a rewrap says of equal values
pub moved_along : (s sides : Sides) (d draws : List ℕ) (old new : Outside) (answer : Result Report TinkError) → s ≡ sides → d ≡ draws → Moved s d old new answer → Moved sides draws old new answer
moved_along s sides d draws old new answer sides_are draws_are moved = subst (λ x. Moved sides x old new answer) draws_are (subst (λ x. Moved x d old new answer) sides_are moved)
