-- From a reader to the object that C holds.
use Rattle.std.proofs.Common.{◌≡◌, inl, inr, ℕ, Option, Some, Result, Ok, Err, sym, subst}
use Rattle.std.specs.Prelude.{IfOk, IfErr, MatchResult}
use Rattle.std.specs.Global.{Box}
use Rattle.tink_io.specs.declared.error.Kind.{Kind}
use Rattle.tink_io.specs.declared.error.Kind.TheVariants.{OutOfMemory}
use Rattle.tink_io.specs.declared.error.TinkError.{TinkError}
use Rattle.tink_c_objects.specs.declared.object.Object.{Object}
use Rattle.tink_c_objects.specs.Objects.{Puts, Refills}

module _ (Is : Option Object → Type 0) (Refuses : Kind → Type 0) where
  pub refilled : (loaded : Result (Box Object) TinkError) (old new : Option Object) (status : ℕ)
      → MatchResult loaded (λ b. Is (Some b.value)) (λ e. Refuses e.kind) → Puts loaded old new status → Refills Is Refuses old new status
  refilled (Ok b) old new status is puts = inl (record { is = subst Is (sym puts.0) is; status_ok = puts.1 })
  refilled (Err e) old new status refused puts = inr (record { kind = e.kind; refused = refused; same = puts.0; status_err = puts.1 })

  -- there may be no memory for the box
  pub boxed : (object : Object) (result : Result (Box Object) TinkError) → ((kind : Kind) → kind ≡ OutOfMemory → Refuses kind) → Is (Some object)
      → IfOk result (λ b. b.value ≡ object) → IfErr result (λ e. e.kind ≡ OutOfMemory)
      → MatchResult result (λ b. Is (Some b.value)) (λ e. Refuses e.kind)
  boxed object (Ok b) wants is made short = subst (λ (x : Object). Is (Some x)) (sym made) is
  boxed object (Err e) wants is made short = wants e.kind short
