-- What holds of a value after a call of it holds of the value that is kept where the call was Ok.
use Rattle.std.proofs.Common.{◌≡◌, Result, Ok, Err, IfOk, OnOk, subst, sym}

pub kept_is : {A E : Type 0} (told : Result (Unit {0}) E) (result : Result A E) (value : A) (P : A → Type 0) → IfOk result (λ kept. (told ≡ Ok tt) × (kept ≡ value)) → OnOk told (P value) → IfOk result P
kept_is told (Ok kept) value P is holds = subst P (sym is.1) (subst (λ r. OnOk r (P value)) is.0 holds)
kept_is told (Err e) value P is holds = tt
