-- What is written is the one text of a message.
use Rattle.std.proofs.Common.{◌≡◌, ℕ, List, subst}
use Rattle.std.specs.Prelude.{Result, Ok, Err, OnOk, IfErr}
use Rattle.std.specs.declared.option.Option.{Option}
use Rattle.std.specs.Io.KnownBytes.{Appends}
use Rattle.tink_io.specs.declared.error.Kind.TheVariants.{OutOfMemory, WriteFault}
use Rattle.tink_io.specs.declared.error.TinkError.{TinkError}
use Rattle.tink_keyset_io.specs.Writing.{AppendsText}

-- told of the sink that a writer holds
pub written_is : {K E : Type 0} (got : K → Option (List ℕ)) (inside before after : K) (answer : Result (Unit {0}) E) (text : List ℕ) → inside ≡ before
    → OnOk answer (AppendsText (λ t. t ≡ text) (got inside) (got after)) → OnOk answer (Appends (got before) (got after) text)
written_is got inside before after (Ok v) text is wrote =
    subst (λ s. Appends (got s) (got after) text) is (subst (Appends (got inside) (got after)) wrote.1 wrote.2)
written_is got inside before after (Err e) text is wrote = tt

-- a fault of the sink is no want of memory
pub fault_writes : {K : Type 0} (answer : Result (Unit {0}) TinkError) (before after : K) → IfErr answer (λ e. e ≡ record { kind = WriteFault }) → IfErr answer (λ e. e.kind ≡ OutOfMemory → after ≡ before)
fault_writes (Ok v) before after fault = tt
fault_writes (Err e) before after fault = rw fault (λ unmade. absurd (cc))
