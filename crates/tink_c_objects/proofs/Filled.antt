-- From what was loaded to what C holds.
use Rattle.std.proofs.Common.{◌≡◌, inl, inr, ℕ, Option, Result, Ok, Err, ap, ◌∙◌}
use Rattle.std.specs.Prelude.{IfOk, IfErr}
use Rattle.std.specs.Global.{Box}
use Rattle.tink_io.specs.declared.error.Kind.{Kind}
use Rattle.tink_io.specs.declared.error.Kind.TheVariants.{OutOfMemory}
use Rattle.tink_io.specs.declared.error.TinkError.{TinkError}
use Rattle.tink_c_bytes.specs.Statuses.{c_status}
use Rattle.tink_c_objects.specs.declared.object.Object.{Object}
use Rattle.tink_c_objects.specs.Objects.{Fills, Loads, Puts}

pub filled : {K W : Type 0} (Is : K → W → Type 0) (make : W → Object) (told : Result K Kind) (loaded : Result (Box Object) TinkError) (old new : Option Object) (status : ℕ)
    → Loads Is make told loaded → Puts loaded old new status → Fills Is make told old new status
filled Is make told (Ok b) old new status loads puts = inl (record { object = b.value; loaded = loads; held = puts.0; status_ok = puts.1 })
filled Is make told (Err e) old new status (inl want) puts = inr (inr (puts.0, puts.1 ∙ ap c_status want))
filled Is make told (Err e) old new status (inr is) puts = inr (inl (record { kind = e.kind; refused = is; same = puts.0; status_err = puts.1 }))

-- the primitives of a file in a box are what it loads as
pub loaded : {K W : Type 0} (Is : K → W → Type 0) (make : W → Object) (told : Result K Kind) (k : K) (w : W) (result : Result (Box Object) TinkError)
    → told ≡ Ok k → Is k w → IfOk result (λ b. b.value ≡ make w) → IfErr result (λ e. e.kind ≡ OutOfMemory) → Loads Is make told result
loaded Is make told k w (Ok b) loads is made short = record { keys = k; loads = loads; primitive = w; is = is; made = made }
loaded Is make told k w (Err e) loads is made short = inl short
