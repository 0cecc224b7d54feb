use Rattle.std.proofs.Common.{◌≡◌, ◌∙◌, inl, inr, Err, ap, sym, rules}
use Rattle.tink_io.specs.Answering.{or_refused}
use Rattle.tink_io.specs.declared.error.Kind.TheVariants.{BadKeyset}
use Rattle.tink_io.specs.declared.error.TinkError.{TinkError}
use Rattle.tink_proto.specs.declared.error.ProtoError.TheVariants.{OutOfMemory}
use Rattle.tink_keysets.proofs.ThroughFacts.{not_read}
use Rattle.tink_keysets.proofs.keyset.insecure.decode.Goals as goal

pub returns-in-Err-OutOfMemory : goal.returns-in-Err-OutOfMemory
returns-in-Err-OutOfMemory c = inl (ap (λ (e : TinkError). e.kind) c.new.ensures)

pub returns-in-Err : goal.returns-in-Err
returns-in-Err c =
    let other : (c.in-Err.field-0 ≡ OutOfMemory) → ⊥ = search rules in
    inr (ap (or_refused BadKeyset) (not_read c.in-Err.field-0 _ other c.in-Err.ensures.exact) ∙ ap (λ (e : TinkError). Err e.kind) (sym c.new-in-Err.ensures))
