use Rattle.std.proofs.Common.{◌≡◌, ◌∷◌, ◌++◌, inl, inr, ℕ, List, [], subst}
use Rattle.std.specs.Prelude.{Result, Ok, Err, OnOk}
use Rattle.std.proofs.lemmas.Result.{on_ok_weaker}
use Rattle.tink_io.specs.Answering.{Answers}
use Rattle.tink_io.specs.declared.error.Kind.{Kind}
use Rattle.tink_io.specs.declared.error.Kind.TheVariants.{OutOfMemory}
use Rattle.tink_io.specs.declared.error.TinkError.{TinkError}
use Rattle.tink_proto.specs.declared.messages.keys.KeyTemplate.{KeyTemplate}
use Rattle.tink_aead.proofs.registering.add.Goals as goal

same : (t v : KeyTemplate) → Answers {T = KeyTemplate} (Ok v) (Ok t) → v ≡ t
same t v e = cc

memory_alone : (made : Result KeyTemplate TinkError) (e : TinkError) (t : KeyTemplate) → made ≡ Err e → Answers made (Ok t) → e.kind ≡ OutOfMemory
memory_alone made e t is answers = by (subst (λ (r : Result KeyTemplate TinkError). Answers r (Ok t)) is answers)
  where
    by : Answers {T = KeyTemplate} (Err e) (Ok t) → e.kind ≡ OutOfMemory
    by (inl none) = none
    by (inr other) = absurd cc

pub returns-in-Ok-clause-value : goal.returns-in-Ok-clause-value
returns-in-Ok-clause-value c = λ t answers.
    on_ok_weaker c.add_template.result
    (subst (λ (v : KeyTemplate). c.add_template.new.named.items ≡ c.args.named.now.items ++ (c.args.name.now, v) ∷ []) (same t c.in-Ok.template (subst (λ (r : Result KeyTemplate TinkError). Answers r (Ok t)) c.in-Ok.is answers)))
    c.add_template.ensures.ok

pub returns-in-Err-clause-cause : goal.returns-in-Err-clause-cause
returns-in-Err-clause-cause c = memory_alone c.args.made c.in-Err.e c.requires.0 c.in-Err.is c.requires.1
