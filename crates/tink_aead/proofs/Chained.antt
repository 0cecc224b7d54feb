-- Calls one after the other, of which each may draw.
use Rattle.std.proofs.Common.{inl, inr, ⊎_elim, ◌≡◌, ℕ, List, [], ap, ap₂, refl, sym, subst, ◌∙◌}
use Rattle.std.specs.Prelude.{Result, Ok, Err}
use Rattle.tink_io.specs.declared.error.Kind.{Kind}
use Rattle.tink_io.specs.declared.error.TinkError.{TinkError}
use Rattle.tink_io.specs.Answering.{Answers, Replies}
use Rattle.tink_primitives.specs.Meaning.{IsEndOf}
use Rattle.tink_primitives.specs.MeaningLaws.{end_trans}
use Rattle.tink_aead.specs.Envelope.{after, after_answer}

-- a call that draws nothing, by what it leaves
pub undrawn : {T : Type 0} (r : Result T TinkError) (told : Result T Kind) (draws : List ℕ) → Answers r told → Replies r (told, draws) draws draws
undrawn (Ok v) told draws answers = (answers, refl)
undrawn (Err e) told draws answers = ⊎_elim (λ short. inl (record { kind = short; ends = ([], refl) })) (λ refused. inr (refused, refl)) answers

-- what a call replies, where others drew before it
widened : {T : Type 0} (r : Result T TinkError) (told : Result T Kind × List ℕ) (old mid new : List ℕ) → IsEndOf mid old → Replies r told mid new → Replies r told old new
widened (Ok v) told old mid new ends replies = replies
widened (Err e) told old mid new ends replies = ⊎_elim (λ short. inl (record { kind = short.kind; ends = end_trans old mid new ends short.ends })) (λ as_told. inr as_told) replies

module _ {A B : Type 0} (next : A → List ℕ → Result B Kind × List ℕ) (first : Result A Kind × List ℕ) (old : List ℕ) where
  -- a first call that refuses is the answer
  pub refused : (e : TinkError) (new : List ℕ) → Replies {T = A} (Err e) first old new → Replies {T = B} (Err e) (after first next) old new
  refused e new replies =
      ⊎_elim (λ short. inl short)
      (λ as_told.
      let whole : after first next ≡ (Err e.kind, first.1) = ap (λ (r : Result A Kind). after_answer r first.1 next) as_told.0 in
      inr (ap (λ (t : Result B Kind × List ℕ). t.0) whole, as_told.1 ∙ sym (ap (λ (t : Result B Kind × List ℕ). t.1) whole)))
      replies

  -- behind a first call that gave a value the second is
  pub followed : (v : A) (mid new : List ℕ) (r : Result B TinkError) → IsEndOf mid old → Replies {T = A} (Ok v) first old mid → Replies r (next v mid) mid new → Replies r (after first next) old new
  followed v mid new r ends told replies =
      let whole : after first next ≡ next v mid = ap₂ (λ (x : Result A Kind) (d : List ℕ). after_answer x d next) told.0 (sym told.1) in
      subst (λ (t : Result B Kind × List ℕ). Replies r t old new) (sym whole) (widened r (next v mid) old mid new ends replies)
