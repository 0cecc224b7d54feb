-- From the calls that measure a large text and write its lines to their answers.
use Rattle.std.proofs.Common.{◌≡◌, ◌∙◌, ℕ, List, refl, ap, subst, arith}
use Rattle.std.specs.Prelude.{Ok, Err, Option, Result, Vec, IfErr, IfOk, OnErr, OnOk}
use Rattle.std.specs.Io.KnownBytes.{Appends}
use Rattle.tink_io.specs.Faults.{Rose}
use Rattle.tink_io.specs.Written.{AppendsPrefix}
use Rattle.tink_io.specs.declared.error.Kind.{Kind}
use Rattle.tink_io.specs.declared.error.Kind.TheVariants.{OutOfMemory, RandomFault, WriteFault}
use Rattle.tink_io.specs.declared.error.TinkError.{TinkError}
use Rattle.tink_large.specs.Large.{large_lines, large_output, IsMeasured, MeasureRefused}
use Rattle.tink_large.specs.declared.measuring.Measured.{Measured}
use Rattle.tink_large.proofs.LargeFacts.{measured_lines}
use Rattle.tink_program_core.specs.Draws.{draws_in}
use Rattle.tink_program_core.specs.Large.{lines_of, large_draws, RefusesLarge, WritesLarge}
use Rattle.tink_program_core.proofs.StreamLemmas.{length-draws_in}

-- the draws of a seed suffice
enough : (seed left : List ℕ) (kind : Kind) → MeasureRefused (draws_in seed 256) left kind → kind ≡ OutOfMemory
enough seed left OutOfMemory m = refl
enough seed left RandomFault m = absurd (omega (arith, m.0, length-draws_in seed 256))
enough seed left _ m = absurd m

pub only_want : (seed draws left : List ℕ) (e : TinkError) → draws ≡ draws_in seed 256 → MeasureRefused draws left e.kind → e ≡ record { kind = OutOfMemory }
only_want seed draws left e same m =
    ap (λ (k : Kind). let x : TinkError = record { kind = k } in x) (enough seed left e.kind (subst (λ d. MeasureRefused d left e.kind) same m))

-- the lines of what was measured are those of the number
pub lines_are : {G : Type 0} (n : ℕ) (draws left : List ℕ) (m : Measured) (result : Result (Vec ℕ G) TinkError) → draws ≡ large_draws → IsMeasured n draws left m
    → IfOk result (λ v. v.items ≡ large_lines m) → IfOk result (λ v. v.items ≡ lines_of n)
lines_are n draws left m (Ok v) same is lines = lines ∙ measured_lines n draws left m is ∙ ap (large_output n) same
lines_are n draws left m (Err e) same is lines = tt

-- nothing was written
pub not_written : (n : ℕ) (got : Option (List ℕ)) (faults : ℕ) (e : TinkError) → e.kind ≡ OutOfMemory → RefusesLarge n got got faults faults e.kind
not_written n got faults e is = rw is (refl, refl)

-- the lines were written, or a prefix of them
pub lines_written : (n : ℕ) (old new : Option (List ℕ)) (before now : ℕ) (written : List ℕ) (result : Result (Unit {0}) TinkError) → written ≡ lines_of n
    → OnOk result (Appends old new written) → OnErr result (AppendsPrefix old new written) → OnErr result (Rose before now) → IfErr result (λ e. e ≡ record { kind = WriteFault })
    → WritesLarge n old new before now result
lines_written n old new before now written (Ok done) same whole front rose fault = subst (λ x. Appends old new x) same whole
lines_written n old new before now written (Err e) same whole front rose fault =
    rw (ap (λ (x : TinkError). x.kind) fault) (subst (λ x. AppendsPrefix old new x) same front, rose)
