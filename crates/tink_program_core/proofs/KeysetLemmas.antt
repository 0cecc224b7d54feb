-- What a command that makes a keyset says by its answer, it says by its status.
use Rattle.std.proofs.Common.{◌≡◌, ◌⊎◌, inl, inr, ℕ, List, false, refl, sym, ◌∙◌, ap, subst, arith}
use Rattle.std.specs.Prelude.{Ok, Err, Option, IfErr, Result}
use Rattle.tink_io.specs.Faults.{Rose}
use Rattle.tink_io.specs.declared.error.Kind.{Kind}
use Rattle.tink_io.specs.declared.error.Kind.TheVariants.{OutOfMemory, ReadFault, WriteFault, BadKeyset, InvalidKeyset, UnknownTemplate, NoFreshId}
use Rattle.tink_io.specs.declared.error.TinkError.{TinkError}
use Rattle.tink_proto.specs.declared.messages.keys.Keyset.{Keyset}
use Rattle.tink_keysets.specs.Managed.{no_keys}
use Rattle.tink_keygen.specs.Rotating.{IsNotRotated}
use Rattle.tink_io.specs.Outside.{Outside, IsUntouched}
use Rattle.tink_tokens.specs.Inputs.{IsUnwritten}
use Rattle.tink_program_core.specs.Keysets.{made_keyset, of_keyset, of_no_keys, IsLine, IsUnmadeBy, KeysetMeans, MakesKeyset, RefusesLine, RefusesRotation, Rotation, WritesLine, WrotePrefix}
use Rattle.tink_io.specs.Statuses.{kind_status}
use Rattle.tink_program_core.specs.Program.{answer_outcome, own_statuses, refused_statuses, status_of, IsAmong, IsUnwrittenKind, Leaves}
use Rattle.tink_program_core.specs.Words.Asked.{Making, Rotating}
use Rattle.tink_program_core.specs.declared.outcomes.Outcome.{Outcome}
use Rattle.tink_program_core.specs.declared.outcomes.Outcome.TheVariants.{Done, Usage, Refused}
use Rattle.tink_program_core.proofs.StatusLemmas.{above_2, sink_left, unwritten_kinds, CommandFacts}

-- ---- from the call to the outcome

pub outside_same : (l m : Option (List ℕ)) (r s : ℕ) (g h : Option (List ℕ)) (w x : ℕ) → l ≡ m → r ≡ s → g ≡ h → w ≡ x
    → ◌≡◌ {A = Outside} (record { left = l; read_faults = r; got = g; write_faults = w }) (record { left = m; read_faults = s; got = h; write_faults = x })
outside_same l m r s g h w x p q t u = rw (p, q, t, u) refl

refused_outcome : (old new : Outside) (r : Rotation) (kind : Kind) → new.left ≡ old.left → new.read_faults ≡ old.read_faults
    → RefusesLine r old.got new.got old.write_faults new.write_faults kind → KeysetMeans r old new (Refused kind)
refused_outcome old new r OutOfMemory left faults m =
    outside_same new.left old.left new.read_faults old.read_faults new.got old.got new.write_faults old.write_faults left faults m.1 m.2
refused_outcome old new r WriteFault left faults m =
    (m.0, m.1, record { left = left; read_faults = faults; written = m.2; rose = m.3 })
refused_outcome old new r _ left faults m =
    (m.0, outside_same new.left old.left new.read_faults old.read_faults new.got old.got new.write_faults old.write_faults left faults m.1 m.2)

-- a call that wrote a line to the sink, and left the source
pub line_outcome : (old new : Outside) (r : Rotation) (answer : Result (Unit {0}) TinkError) → new.left ≡ old.left → new.read_faults ≡ old.read_faults
    → WritesLine r old.got new.got old.write_faults new.write_faults answer → KeysetMeans r old new (answer_outcome answer)
line_outcome old new r (Ok done) left faults m = (m.0, m.1, record { left = left; read_faults = faults; written = m.2 })
line_outcome old new r (Err e) left faults m = refused_outcome old new r e.kind left faults m

-- and what it left
pub line_leaves : {S K : Type 0} (answer : Result (Unit {0}) TinkError) (source : S) (k l : K) → IfErr answer (λ e. IsUnwritten e.kind → l ≡ k) → Leaves false (λ kind. IsUnwrittenKind kind) (answer_outcome answer) source source k l
line_leaves (Ok done) source k l left = tt
line_leaves (Err e) source k l left = (λ _. refl, λ early. left (unwritten_kinds e.kind early), λ _. inr refl)

-- ---- which statuses come

-- a keyset without keys is not refused
unmade_new : (template seed : List ℕ) (kind : Kind) → IsUnmadeBy (of_no_keys template seed) kind → (kind ≡ UnknownTemplate) ⊎ (kind ≡ NoFreshId)
unmade_new template seed kind unmade = by_cause unmade.cause
  where
    by_cause : IsNotRotated template (Ok no_keys) kind → (kind ≡ UnknownTemplate) ⊎ (kind ≡ NoFreshId)
    by_cause (inl p) = inl p.0
    by_cause (inr (inl is)) = absurd (cc is)
    by_cause (inr (inr is)) = inr is

new_among : (template seed : List ℕ) (kind : Kind) → (kind ≡ UnknownTemplate) ⊎ (kind ≡ NoFreshId) → IsAmong (own_statuses (Making template seed)) (kind_status kind)
new_among template seed kind (inl is) = rw is refl
new_among template seed kind (inr is) = rw is refl

keygen_own : (template seed : List ℕ) (old new : Outside) (kind : Kind) → KeysetMeans (of_no_keys template seed) old new (Refused kind)
    → IsAmong (own_statuses (Making template seed)) (kind_status kind)
keygen_own template seed old new OutOfMemory m = refl
keygen_own template seed old new WriteFault m = refl
keygen_own template seed old new UnknownTemplate m = refl
keygen_own template seed old new NoFreshId m = refl
keygen_own template seed old new BadKeyset m = new_among template seed BadKeyset (unmade_new template seed BadKeyset m.0)
keygen_own template seed old new InvalidKeyset m = new_among template seed InvalidKeyset (unmade_new template seed InvalidKeyset m.0)
keygen_own template seed old new _ m = absurd m.0

rotate_own : (keyset template seed : List ℕ) (old new : Outside) (kind : Kind) → KeysetMeans (of_keyset keyset template seed) old new (Refused kind)
    → IsAmong (own_statuses (Rotating keyset template seed)) (kind_status kind)
rotate_own keyset template seed old new OutOfMemory m = refl
rotate_own keyset template seed old new WriteFault m = refl
rotate_own keyset template seed old new UnknownTemplate m = refl
rotate_own keyset template seed old new NoFreshId m = refl
rotate_own keyset template seed old new BadKeyset m = refl
rotate_own keyset template seed old new InvalidKeyset m = refl
rotate_own keyset template seed old new _ m = absurd m.0

-- ---- a keyset that is not made, and why

both_made : (r : Rotation) (ks : Keyset) (kind : Kind) → made_keyset r ≡ Ok ks → made_keyset r ≡ Err kind → ⊥
both_made r ks kind ok err = let same = sym ok ∙ err in cc same

one_kind : (r : Rotation) (kind other : Kind) → made_keyset r ≡ Err kind → made_keyset r ≡ Err other → kind ≡ other
one_kind r kind other first second = let same = sym first ∙ second in cc same

-- a refusal but `OutOfMemory` is the keyset's
unmade_by : (r : Rotation) (kind : Kind) → RefusesRotation r kind → (kind ≡ OutOfMemory) ⊎ IsUnmadeBy r kind
unmade_by r OutOfMemory m = inl refl
unmade_by r BadKeyset m = inr m
unmade_by r InvalidKeyset m = inr m
unmade_by r UnknownTemplate m = inr m
unmade_by r NoFreshId m = inr m
unmade_by r _ m = absurd m

by_refusal : (r : Rotation) (by kind : Kind) → RefusesRotation r by → made_keyset r ≡ Err kind → (kind_status by ≡ kind_status kind) ⊎ (kind_status by ≡ 10)
by_refusal r by kind m is = elim (unmade_by r by m) [
  | inl want ↦ inr (ap kind_status want)
  | inr unmade ↦ inl (ap kind_status (one_kind r by kind unmade.made is))
]

unmade : (r : Rotation) (old new : Outside) (by kind : Kind) → KeysetMeans r old new (Refused by) → made_keyset r ≡ Err kind → (kind_status by ≡ kind_status kind) ⊎ (kind_status by ≡ 10)
unmade r old new OutOfMemory kind m is = inr refl
unmade r old new WriteFault kind m is = absurd (both_made r m.1.keyset kind m.1.made is)
unmade r old new by kind m is = by_refusal r by kind m.0 is

not_want : {A : Type 0} (kind : Kind) → kind ≡ OutOfMemory → IsAmong refused_statuses (kind_status kind) → A
not_want kind want among = let is = subst (λ k. IsAmong refused_statuses (kind_status k)) want among in absurd (cc is)

caused : (r : Rotation) (old new : Outside) (by : Kind) → KeysetMeans r old new (Refused by) → IsAmong refused_statuses (kind_status by) → IsUnmadeBy r by
caused r old new OutOfMemory m among = absurd (cc among)
caused r old new WriteFault m among = absurd (cc among)
caused r old new by m among = elim (unmade_by r by m.0) [ inl want ↦ not_want by want among | inr is ↦ is ]

-- ---- why a status of 10, 11 or 12 came

want_cause : (r : Rotation) (old new : Outside) (kind : Kind) → KeysetMeans r old new (Refused kind) → kind_status kind ≡ 10 → IsUntouched old new
want_cause r old new OutOfMemory m is = m
want_cause r old new _ m is = absurd (omega (arith, is))

read_cause : (r : Rotation) (old new : Outside) (kind : Kind) → KeysetMeans r old new (Refused kind) → kind_status kind ≡ 11 → Rose old.read_faults new.read_faults
read_cause r old new ReadFault m is = absurd m.0
read_cause r old new _ m is = absurd (omega (arith, is))

write_cause : (r : Rotation) (old new : Outside) (kind : Kind) → KeysetMeans r old new (Refused kind) → kind_status kind ≡ 12 → Rose old.write_faults new.write_faults
write_cause r old new WriteFault m is = m.2.rose
write_cause r old new _ m is = absurd (omega (arith, is))

-- ---- of each command

pub keygen_facts : (template seed : List ℕ) (old new : Outside) (outcome : Outcome) → KeysetMeans (of_no_keys template seed) old new outcome
    → CommandFacts (Making template seed) old new (status_of outcome)
keygen_facts template seed old new Done m = record {
  not_usage = λ is. cc is;
  own = refl;
  refused = λ kind is. absurd (both_made (of_no_keys template seed) m.1.keyset kind m.1.made is);
  cause = λ among. absurd (cc among);
  want = λ is. absurd (omega (arith, is));
  read_fault = λ is. absurd (omega (arith, is));
  write_fault = λ is. absurd (omega (arith, is));
}
keygen_facts template seed old new Usage m = absurd m
keygen_facts template seed old new (Refused kind) m = record {
  not_usage = λ is. absurd (omega (arith, is, above_2 kind));
  own = keygen_own template seed old new kind m;
  refused = λ by is. unmade (of_no_keys template seed) old new kind by m is;
  cause = λ among. (kind, refl, caused (of_no_keys template seed) old new kind m among);
  want = λ is. let same = want_cause (of_no_keys template seed) old new kind m is in (sink_left old new same, inr same);
  read_fault = read_cause (of_no_keys template seed) old new kind m;
  write_fault = write_cause (of_no_keys template seed) old new kind m;
}

pub rotate_facts : (keyset template seed : List ℕ) (old new : Outside) (outcome : Outcome) → KeysetMeans (of_keyset keyset template seed) old new outcome
    → CommandFacts (Rotating keyset template seed) old new (status_of outcome)
rotate_facts keyset template seed old new Done m = record {
  not_usage = λ is. cc is;
  own = refl;
  refused = λ kind is. absurd (both_made (of_keyset keyset template seed) m.1.keyset kind m.1.made is);
  cause = λ among. absurd (cc among);
  want = λ is. absurd (omega (arith, is));
  read_fault = λ is. absurd (omega (arith, is));
  write_fault = λ is. absurd (omega (arith, is));
}
rotate_facts keyset template seed old new Usage m = absurd m
rotate_facts keyset template seed old new (Refused kind) m = record {
  not_usage = λ is. absurd (omega (arith, is, above_2 kind));
  own = rotate_own keyset template seed old new kind m;
  refused = λ by is. unmade (of_keyset keyset template seed) old new kind by m is;
  cause = λ among. (kind, refl, caused (of_keyset keyset template seed) old new kind m among);
  want = λ is. let same = want_cause (of_keyset keyset template seed) old new kind m is in (sink_left old new same, inr same);
  read_fault = read_cause (of_keyset keyset template seed) old new kind m;
  write_fault = write_cause (of_keyset keyset template seed) old new kind m;
}

-- ---- what is written, and when a keyset is made

prefix : (r : Rotation) (old new : Outside) (by : Kind) → KeysetMeans r old new (Refused by) → kind_status by ≡ 12 → (text : List ℕ) × IsLine r text × WrotePrefix old new text
prefix r old new WriteFault m is = m
prefix r old new _ m is = absurd (omega (arith, is))

succeeds : (r : Rotation) (old new : Outside) (by : Kind) → KeysetMeans r old new (Refused by)
    → (keyset : Keyset) → made_keyset r ≡ Ok keyset → (Rose old.write_faults new.write_faults → ⊥) → kind_status by ≡ 10
succeeds r old new OutOfMemory m keyset made faultless = refl
succeeds r old new WriteFault m keyset made faultless = absurd (faultless m.2.rose)
succeeds r old new by m keyset made faultless =
    elim (unmade_by r by m.0) [ inl want ↦ ap kind_status want | inr is ↦ absurd (both_made r keyset by made is.made) ]

-- the promises of a command that makes a keyset
pub keyset_promised : (r : Rotation) (old new : Outside) (outcome : Outcome) → KeysetMeans r old new outcome → MakesKeyset r old new (status_of outcome)
keyset_promised r old new Done m = record {
  whole = λ _. m;
  prefix = λ is. absurd (omega (arith, is));
  succeeds = λ _ _ _. inl refl;
}
keyset_promised r old new Usage m = absurd m
keyset_promised r old new (Refused by) m = record {
  whole = λ is. absurd (omega (arith, is, above_2 by));
  prefix = prefix r old new by m;
  succeeds = λ keyset made faultless. inr (succeeds r old new by m keyset made faultless);
}
