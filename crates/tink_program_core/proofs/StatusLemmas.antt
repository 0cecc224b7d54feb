-- What the words' command says by its outcome, the program says by its status.
use Rattle.std.proofs.Common.{◌≡◌, ◌⊎◌, inl, inr, ◌<◌, ℕ, List, true, refl, ap, arith}
use Rattle.std.proofs.lemmas.Bool.{false≢true}
use Rattle.tink_io.specs.Faults.{Rose}
use Rattle.tink_io.specs.declared.error.Kind.{Kind}
use Rattle.tink_io.specs.declared.error.Kind.TheVariants.{OutOfMemory, ReadFault, WriteFault, BadKeyset, InvalidKeyset, UnsupportedKeyType, InvalidKey, NoPrimary, WrongPrimitive, UnsupportedHash, TooManySegments, NoMatchingKey, Truncated, UnknownTemplate, NoFreshId, InputTooLong, BadToken, MacMismatch}
use Rattle.tink_io.specs.Outside.{Outside, IsUntouched}
use Rattle.tink_program_core.specs.declared.outcomes.Outcome.{Outcome}
use Rattle.tink_program_core.specs.declared.outcomes.Outcome.TheVariants.{Done, Usage, Refused}
use Rattle.tink_io.specs.Statuses.{kind_status}
use Rattle.tink_program_core.specs.Program.{early_statuses, late_statuses, own_statuses, reads_first, refused_statuses, status_of, unwritten_statuses, IsAmong, IsCause, IsEarlyKind, IsReadingFirst, IsUnusableBy, IsUnwrittenBy, IsUnwrittenKind, KeepsEnds, Leaves, StatusMeans, TellsNothing}
use Rattle.tink_tokens.specs.Inputs.{IsUnwritten, LeavesSink}
use Rattle.tink_program_core.specs.Words.{Asked, SpellNothing, Spells}
use Rattle.tink_program_core.specs.Words.Asked.{Making, Measuring, Opening, Ranging, Rewrapping, Rotating, Sealing, Signing, Verifying}
use Rattle.tink_program_core.proofs.Spelling.{along}

pub above_2 : (kind : Kind) → 2 < kind_status kind
above_2 OutOfMemory = omega arith
above_2 _ = omega arith

-- what a status says of a command
pub record CommandFacts (a : Asked) (old new : Outside) (status : ℕ) : Type 0 where
  pub not_usage : status ≡ 2 → ⊥
  pub own : IsAmong (own_statuses a) status
  pub refused : (kind : Kind) → IsUnusableBy a kind → (status ≡ kind_status kind) ⊎ (status ≡ 10)
  pub cause : IsAmong refused_statuses status → (kind : Kind) × (status ≡ kind_status kind) × IsCause a kind
  pub want : status ≡ 10 → LeavesSink old new × ((reads_first a ≡ true) ⊎ IsUntouched old new)
  pub read_fault : status ≡ 11 → Rose old.read_faults new.read_faults
  pub write_fault : status ≡ 12 → Rose old.write_faults new.write_faults

-- nothing was written where nothing was touched
pub sink_left : (old new : Outside) → IsUntouched old new → LeavesSink old new
sink_left old new same = record { got = ap (λ (o : Outside). o.got) same; faults = ap (λ (o : Outside). o.write_faults) same }

-- the words say what their command says
pub command_status : (words : List (List ℕ)) (a : Asked) (old new : Outside) (status : ℕ) → Spells words a → CommandFacts a old new status → StatusMeans words old new status
command_status words a old new status spelled facts = record {
  usage = record { cause = λ is. absurd (facts.not_usage is); comes = λ nothing. absurd (nothing a spelled) };
  own = λ b other. along (λ x. IsAmong (own_statuses x) status) words a b spelled other facts.own;
  refused = λ b kind other is.
      along (λ x. IsUnusableBy x kind → (status ≡ kind_status kind) ⊎ (status ≡ 10)) words a b spelled other (facts.refused kind) is;
  refused_cause = λ b other among.
      along (λ x. (kind : Kind) × (status ≡ kind_status kind) × IsCause x kind) words a b spelled other (facts.cause among);
  cause = record {
    want = λ is. by_want (facts.want is);
    read_fault = facts.read_fault;
    write_fault = facts.write_fault;
  };
}
  where
    by_want : LeavesSink old new × ((reads_first a ≡ true) ⊎ IsUntouched old new) → LeavesSink old new × (IsReadingFirst words ⊎ IsUntouched old new)
    by_want h = (h.0, elim h.1 [ inl reads ↦ inl (a, spelled, reads) | inr same ↦ inr same ])

-- ---- words that ask for nothing, and no memory for what they say

pub nothing_status : (words : List (List ℕ)) (old new : Outside) → SpellNothing words → StatusMeans words old new 2
nothing_status words old new nothing = record {
  usage = record { cause = λ _. nothing; comes = λ _. inl refl };
  own = λ a spelled. absurd (nothing a spelled);
  refused = λ a kind spelled is. absurd (nothing a spelled);
  refused_cause = λ a spelled among. absurd (nothing a spelled);
  cause = record {
    want = λ is. absurd (omega (arith, is));
    read_fault = λ is. absurd (omega (arith, is));
    write_fault = λ is. absurd (omega (arith, is));
  };
}

own_ten : (a : Asked) → IsAmong (own_statuses a) 10
own_ten (Sealing keyset aad seed) = refl
own_ten (Opening keyset aad) = refl
own_ten (Making template seed) = refl
own_ten (Rotating keyset template seed) = refl
own_ten (Measuring n) = refl
own_ten (Ranging keyset aad start len) = refl
own_ten (Signing keyset) = refl
own_ten (Verifying keyset) = refl
own_ten (Rewrapping sides seed) = refl

pub want_status : (words : List (List ℕ)) (old new : Outside) → IsUntouched old new → StatusMeans words old new 10
want_status words old new same = record {
  usage = record { cause = λ is. absurd (omega (arith, is)); comes = λ _. inr refl };
  own = λ a spelled. own_ten a;
  refused = λ a kind spelled is. inr refl;
  refused_cause = λ a spelled among. absurd (false≢true among);
  cause = record {
    want = λ _. (sink_left old new same, inr same);
    read_fault = λ is. absurd (omega (arith, is));
    write_fault = λ is. absurd (omega (arith, is));
  };
}

-- ---- the ends themselves

-- a kind by which nothing is written is no fault of the sink
pub unwritten_kinds : (kind : Kind) → IsUnwrittenKind kind → IsUnwritten kind
unwritten_kinds WriteFault early = early
unwritten_kinds _ early = tt

early_kind : (kind : Kind) → IsAmong early_statuses (kind_status kind) → IsEarlyKind kind
early_kind BadKeyset is = tt
early_kind InvalidKeyset is = tt
early_kind UnsupportedKeyType is = tt
early_kind InvalidKey is = tt
early_kind NoPrimary is = tt
early_kind WrongPrimitive is = tt
early_kind UnsupportedHash is = tt
early_kind UnknownTemplate is = tt
early_kind NoFreshId is = tt
early_kind _ is = absurd (false≢true is)

unwritten_kind : (kind : Kind) → IsAmong unwritten_statuses (kind_status kind) → IsUnwrittenKind kind
unwritten_kind OutOfMemory is = tt
unwritten_kind NoMatchingKey is = tt
unwritten_kind InputTooLong is = tt
unwritten_kind BadToken is = tt
unwritten_kind MacMismatch is = tt
unwritten_kind BadKeyset is = tt
unwritten_kind InvalidKeyset is = tt
unwritten_kind UnsupportedKeyType is = tt
unwritten_kind InvalidKey is = tt
unwritten_kind NoPrimary is = tt
unwritten_kind WrongPrimitive is = tt
unwritten_kind UnsupportedHash is = tt
unwritten_kind UnknownTemplate is = tt
unwritten_kind NoFreshId is = tt
unwritten_kind _ is = absurd (false≢true is)

unwritten_by : (a : Asked) (kind : Kind) → IsUnwrittenKind kind → IsUnwrittenBy a kind
unwritten_by (Ranging keyset aad start len) kind unwritten = inl unwritten
unwritten_by (Signing keyset) kind unwritten = unwritten_kinds kind unwritten
unwritten_by (Verifying keyset) kind unwritten = unwritten_kinds kind unwritten
unwritten_by _ kind unwritten = unwritten

-- by the kinds of the late statuses nothing is written either
late_by : (a : Asked) (kind : Kind) → IsAmong (late_statuses a) (kind_status kind) → IsUnwrittenBy a kind
late_by (Ranging keyset aad start len) ReadFault among = inr (inl tt)
late_by (Ranging keyset aad start len) TooManySegments among = inr (inr tt)
late_by (Ranging keyset aad start len) (Truncated n) among = inr (inr tt)
late_by (Ranging keyset aad start len) _ among = absurd (false≢true among)
late_by (Signing keyset) ReadFault among = tt
late_by (Signing keyset) _ among = absurd (false≢true among)
late_by (Verifying keyset) ReadFault among = tt
late_by (Verifying keyset) _ among = absurd (false≢true among)
late_by _ kind among = absurd (false≢true among)

-- 0 is none of them
none_done : {A : Type 0} (a : Asked) → IsAmong (late_statuses a) 0 → A
none_done (Ranging keyset aad start len) among = absurd (false≢true among)
none_done (Signing keyset) among = absurd (false≢true among)
none_done (Verifying keyset) among = absurd (false≢true among)
none_done _ among = absurd (false≢true among)

want_kind : (kind : Kind) → kind_status kind ≡ 10 → kind ≡ OutOfMemory
want_kind OutOfMemory is = refl
want_kind _ is = absurd (omega (arith, is))

-- what a command's outcome leaves
pub command_keeps : {S K : Type 0} (words : List (List ℕ)) (a : Asked) (outcome : Outcome) (s t : S) (k l : K) → Spells words a → Leaves (reads_first a) (λ kind. IsUnwrittenBy a kind) outcome s t k l
    → KeepsEnds words (status_of outcome) s t k l
command_keeps words a Done s t k l spelled left = record {
  unread = λ is. absurd (false≢true is);
  unwritten = λ is. absurd (false≢true is);
  late = λ b other among. none_done b among;
  want = λ is. absurd (omega (arith, is));
}
command_keeps words a Usage s t k l spelled left = record {
  unread = λ _. left.0;
  unwritten = λ _. left.1;
  late = λ b other among. left.1;
  want = λ is. absurd (omega (arith, is));
}
command_keeps words a (Refused kind) s t k l spelled left = record {
  unread = λ is. left.0 (early_kind kind is);
  unwritten = λ is. left.1 (unwritten_by a kind (unwritten_kind kind is));
  late = λ b other among. left.1 (late_by a kind (along (λ x. IsAmong (late_statuses x) (kind_status kind)) words b a other spelled among));
  want = λ is. elim (left.2 (want_kind kind is)) [ inl reads ↦ inl (a, spelled, reads) | inr same ↦ inr same ];
}

-- a status of 0 is that of what was done, of which nothing is told
pub none_told : {E : Type 0} (outcome : Outcome) (faults faults_after : E) → status_of outcome ≡ 0 → TellsNothing outcome faults faults_after → faults_after ≡ faults
none_told Done faults faults_after zero same = same
none_told Usage faults faults_after zero same = absurd (omega (arith, zero))
none_told (Refused kind) faults faults_after zero same = absurd (omega (arith, zero, above_2 kind))

-- nothing was touched
pub all_kept : {S K : Type 0} (words : List (List ℕ)) (status : ℕ) (s : S) (k : K) → KeepsEnds words status s s k k
all_kept words status s k = record { unread = λ _. refl; unwritten = λ _. refl; late = λ _ _ _. refl; want = λ _. inr refl }
