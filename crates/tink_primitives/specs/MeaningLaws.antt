-- What implementations show of their meanings, and what callers conclude.
use Rattle.std.specs.Prelude.{◌≡◌, ◌++◌, List, [], ℕ, Bool, true, false, drop, take, Result, Ok, Err, if◌then◌else◌}
use Rattle.std.proofs.Common.{refl, sym, ◌∙◌, ap, subst, append_assoc, ⊎_elim}
use Rattle.std.proofs.lemmas.List.{take-append-drop}
use Rattle.tink_io.specs.declared.error.Kind.{Kind}
use Rattle.tink_io.specs.declared.error.Kind.TheVariants.{OutOfMemory}
use Rattle.tink_io.specs.declared.error.TinkError.{TinkError}
use Rattle.tink_io.specs.Answering.{Replies, made_of}
use Rattle.tink_primitives.specs.Meaning.{IsTold, IsEndOf, IsDrawn}

-- one of two answers
pub told_if : {T : Type 0} (b : Bool) (r s : Result T Kind) → IsTold r → IsTold s → IsTold (if b then r else s)
told_if true r s if_true if_false = if_true
told_if false r s if_true if_false = if_false

-- what is made of a given answer is given
pub made_told : {S T : Type 0} (f : S → T) (r : Result S Kind) → IsTold r → IsTold (made_of f r)
made_told f (Ok v) told = tt
made_told f (Err k) told = told

-- `OutOfMemory` is given by none
pub told_apart : {T : Type 0} (r : Result T Kind) → IsTold r → r ≡ Err OutOfMemory → ⊥
told_apart r told is = subst IsTold is told

pub drawn_if : {T : Type 0} (draws : List ℕ) (b : Bool) (r s : Result T Kind × List ℕ) → IsDrawn draws r → IsDrawn draws s → IsDrawn draws (if b then r else s)
drawn_if draws true r s if_true if_false = if_true
drawn_if draws false r s if_true if_false = if_false

-- an answer without draws
pub drawn_none : {T : Type 0} (draws : List ℕ) (r : Result T Kind) → IsTold r → IsDrawn draws (r, draws)
drawn_none draws r told = record { answer = told; ends = ([], refl) }

-- an answer after a take
pub drawn_take : {T : Type 0} (draws : List ℕ) (n : ℕ) (r : Result T Kind) → IsTold r → IsDrawn draws (r, drop n draws)
drawn_take draws n r told = record { answer = told; ends = (take n draws, sym (take-append-drop n draws)) }

-- an end of an end is an end
pub end_trans : (a b c : List ℕ) → IsEndOf b a → IsEndOf c b → IsEndOf c a
end_trans a b c first second = (first.0 ++ second.0, first.1 ∙ ap (λ l. first.0 ++ l) second.1 ∙ sym (append_assoc first.0 second.0 c))

-- what a call leaves of the draws is an end of them
pub replies_end : {T : Type 0} (r : Result T TinkError) (told : Result T Kind × List ℕ) (old new : List ℕ) → IsDrawn old told → Replies r told old new → IsEndOf new old
replies_end (Ok v) told old new drawn replies = subst (λ l. IsEndOf l old) (sym replies.1) drawn.ends
replies_end (Err e) told old new drawn replies = ⊎_elim (λ short. short.ends) (λ as_told. subst (λ l. IsEndOf l old) (sym as_told.1) drawn.ends) replies
