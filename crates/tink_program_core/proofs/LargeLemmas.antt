-- What the command that measures a large text says by its answer, it says by its status.
use Rattle.std.proofs.Common.{◌≡◌, inl, inr, ℕ, refl, arith}
use Rattle.std.specs.Prelude.{Ok, Err, Result}
use Rattle.tink_io.specs.Faults.{Rose}
use Rattle.tink_io.specs.declared.error.Kind.{Kind}
use Rattle.tink_io.specs.declared.error.Kind.TheVariants.{OutOfMemory, WriteFault}
use Rattle.tink_io.specs.declared.error.TinkError.{TinkError}
use Rattle.tink_io.specs.Outside.{Outside, IsUntouched}
use Rattle.tink_program_core.specs.Keysets.{WrotePrefix}
use Rattle.tink_program_core.specs.Large.{lines_of, LargeMeans, MeasuresLarge, RefusesLarge, WritesLarge}
use Rattle.tink_io.specs.Statuses.{kind_status}
use Rattle.tink_program_core.specs.Program.{answer_outcome, own_statuses, refused_statuses, status_of, IsAmong}
use Rattle.tink_program_core.specs.Words.Asked.{Measuring}
use Rattle.tink_program_core.specs.declared.outcomes.Outcome.{Outcome}
use Rattle.tink_program_core.specs.declared.outcomes.Outcome.TheVariants.{Done, Usage, Refused}
use Rattle.tink_program_core.proofs.KeysetLemmas.{outside_same}
use Rattle.tink_program_core.proofs.StatusLemmas.{above_2, sink_left, CommandFacts}

-- ---- from the call to the outcome

refused_outcome : (old new : Outside) (n : ℕ) (kind : Kind) → new.left ≡ old.left → new.read_faults ≡ old.read_faults
    → RefusesLarge n old.got new.got old.write_faults new.write_faults kind → LargeMeans n old new (Refused kind)
refused_outcome old new n OutOfMemory left faults m =
    outside_same new.left old.left new.read_faults old.read_faults new.got old.got new.write_faults old.write_faults left faults m.0 m.1
refused_outcome old new n WriteFault left faults m = record { left = left; read_faults = faults; written = m.0; rose = m.1 }
refused_outcome old new n _ left faults m = absurd m

-- a call that wrote the lines to the sink, and left the source
pub large_outcome : (old new : Outside) (n : ℕ) (answer : Result (Unit {0}) TinkError) → new.left ≡ old.left → new.read_faults ≡ old.read_faults
    → WritesLarge n old.got new.got old.write_faults new.write_faults answer → LargeMeans n old new (answer_outcome answer)
large_outcome old new n (Ok done) left faults m = record { left = left; read_faults = faults; written = m }
large_outcome old new n (Err e) left faults m = refused_outcome old new n e.kind left faults m

-- ---- what a status says

own : (n : ℕ) (old new : Outside) (kind : Kind) → LargeMeans n old new (Refused kind) → IsAmong (own_statuses (Measuring n)) (kind_status kind)
own n old new OutOfMemory m = refl
own n old new WriteFault m = refl
own n old new _ m = absurd m

uncaused : {A : Type 0} (n : ℕ) (old new : Outside) (kind : Kind) → LargeMeans n old new (Refused kind) → IsAmong refused_statuses (kind_status kind) → A
uncaused n old new OutOfMemory m among = absurd (cc among)
uncaused n old new WriteFault m among = absurd (cc among)
uncaused n old new _ m among = absurd m

want_cause : (n : ℕ) (old new : Outside) (kind : Kind) → LargeMeans n old new (Refused kind) → kind_status kind ≡ 10 → IsUntouched old new
want_cause n old new OutOfMemory m is = m
want_cause n old new WriteFault m is = absurd (omega (arith, is))
want_cause n old new _ m is = absurd m

read_cause : (n : ℕ) (old new : Outside) (kind : Kind) → LargeMeans n old new (Refused kind) → kind_status kind ≡ 11 → Rose old.read_faults new.read_faults
read_cause n old new OutOfMemory m is = absurd (omega (arith, is))
read_cause n old new WriteFault m is = absurd (omega (arith, is))
read_cause n old new _ m is = absurd m

write_cause : (n : ℕ) (old new : Outside) (kind : Kind) → LargeMeans n old new (Refused kind) → kind_status kind ≡ 12 → Rose old.write_faults new.write_faults
write_cause n old new OutOfMemory m is = absurd (omega (arith, is))
write_cause n old new WriteFault m is = m.rose
write_cause n old new _ m is = absurd m

pub large_facts : (n : ℕ) (old new : Outside) (outcome : Outcome) → LargeMeans n old new outcome → CommandFacts (Measuring n) old new (status_of outcome)
large_facts n old new Done m = record {
  not_usage = λ is. cc is;
  own = refl;
  refused = λ kind is. absurd is;
  cause = λ among. absurd (cc among);
  want = λ is. absurd (omega (arith, is));
  read_fault = λ is. absurd (omega (arith, is));
  write_fault = λ is. absurd (omega (arith, is));
}
large_facts n old new Usage m = absurd m
large_facts n old new (Refused kind) m = record {
  not_usage = λ is. absurd (omega (arith, is, above_2 kind));
  own = own n old new kind m;
  refused = λ by is. absurd is;
  cause = λ among. uncaused n old new kind m among;
  want = λ is. let same = want_cause n old new kind m is in (sink_left old new same, inr same);
  read_fault = read_cause n old new kind m;
  write_fault = write_cause n old new kind m;
}

-- ---- what is written, and when a large text is measured

prefix : (n : ℕ) (old new : Outside) (by : Kind) → LargeMeans n old new (Refused by) → kind_status by ≡ 12 → WrotePrefix old new (lines_of n)
prefix n old new OutOfMemory m is = absurd (omega (arith, is))
prefix n old new WriteFault m is = m
prefix n old new _ m is = absurd m

succeeds : (n : ℕ) (old new : Outside) (by : Kind) → LargeMeans n old new (Refused by) → (Rose old.write_faults new.write_faults → ⊥) → kind_status by ≡ 10
succeeds n old new OutOfMemory m faultless = refl
succeeds n old new WriteFault m faultless = absurd (faultless m.rose)
succeeds n old new _ m faultless = absurd m

-- the promises of a large text
pub large_promised : (n : ℕ) (old new : Outside) (outcome : Outcome) → LargeMeans n old new outcome → MeasuresLarge n old new (status_of outcome)
large_promised n old new Done m = record {
  whole = λ _. m;
  prefix = λ is. absurd (omega (arith, is));
  succeeds = λ _. inl refl;
}
large_promised n old new Usage m = absurd m
large_promised n old new (Refused by) m = record {
  whole = λ is. absurd (omega (arith, is, above_2 by));
  prefix = prefix n old new by m;
  succeeds = λ faultless. inr (succeeds n old new by m faultless);
}
