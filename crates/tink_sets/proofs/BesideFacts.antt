-- A value beside another that was made, or the refusal of the other.
use Rattle.std.proofs.Common.{Ok, ap, sym, Result, Err, ◌≡◌}
use Rattle.std.specs.Prelude.{MatchResult}
use Rattle.tink_io.specs.declared.error.TinkError.{TinkError}

-- the two values, where the other was made
pub made : {A B : Type 0} (a v : A) (w : B) (other : Result B TinkError) (both : Result (A × B) TinkError) → MatchResult other (λ o. both ≡ Ok (a, o)) (λ e. both ≡ Err e)
    → both ≡ Ok (v, w) → (v ≡ a) × (other ≡ Ok w)
made {A} {B} a v w (Ok o) both h is =
    let pair : (v, w) ≡ (a, o) = cc in
    (ap (λ (p : A × B). p.0) pair, ap (λ (p : A × B). Ok p.1) (sym pair))
made a v w (Err e) both h is = absurd (cc)

-- the refusal is that of the other
pub refused : {A B : Type 0} (a : A) (e : TinkError) (other : Result B TinkError) (both : Result (A × B) TinkError) → MatchResult other (λ o. both ≡ Ok (a, o)) (λ e. both ≡ Err e)
    → both ≡ Err e → other ≡ Err e
refused a e (Ok o) both h is = absurd (cc)
refused a e (Err x) both h is = let same : x ≡ e = cc in ap Err same
