-- What the fields of a message leave behind what stood there, the last of them by a call that may be refused.
use Rattle.std.proofs.Common.{◌≡◌, ℕ, List, ◌++◌, Bool, true, Result, subst, sym}
use Rattle.std.specs.Prelude.{OnOk, ◌&&◌}
use Rattle.std.proofs.lemmas.Result.{on_ok_weaker}
use Rattle.wire_format.specs.Grammar.{Field}
use Rattle.wire_format.specs.Writing.{spelling}
use Rattle.wire_format.proofs.WritingLaws.{both_after}

module _ {T E : Type 0} (r : Result T E) where
  -- fields behind fields
  pub behind : (out first second : List ℕ) (xs ys : List Field) → first ≡ out ++ spelling xs → OnOk r (second ≡ first ++ spelling ys) → OnOk r (second ≡ out ++ spelling (xs ++ ys))
  behind out first second xs ys p q = on_ok_weaker r (both_after out first second xs ys p) q

  -- both parts fit
  pub both_fit : (a b : Bool) → a ≡ true → OnOk r (b ≡ true) → OnOk r ((a && b) ≡ true)
  both_fit a b p q = subst (λ x. OnOk r ((x && b) ≡ true)) (sym p) q
