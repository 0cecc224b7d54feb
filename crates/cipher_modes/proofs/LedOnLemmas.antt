-- What the steps of a mode leave behind the closures of this crate.
use Rattle.std.proofs.Common.{◌≡◌, ℕ, List, [], ◌∷◌, get_or, ap, subst, sym, ◌∙◌, refl}
use Rattle.cipher.specs.Buffers.{pick}
use Rattle.cipher.specs.Transcript.{Transcript, Block, inputs, outputs}
use Rattle.cipher_modes.specs.Steps.{run_of, state_after, Steps, LedOn}
use Rattle.cipher.specs.Contexts.{OneBlock, EachBlock}
use Rattle.cipher.specs.declared.blocks.contexts.BlockCtx.{BlockCtx}
use Rattle.cipher.specs.declared.blocks.contexts.BlocksCtx.{BlocksCtx}

-- the transcript that a mode gives on these blocks
abbrev pub steps_of : {S : Type 0} → (S → Block → Block × S) → S → List Block → Transcript
steps_of step s [] = []
steps_of step s (x ∷ xs) = (x, (step s x).0) ∷ steps_of step (step s x).1 xs

Steps-steps_of : {S : Type 0} (step : S → Block → Block × S) (s : S) (xs : List Block) → Steps step s (steps_of step s xs) (state_after step s xs)
Steps-steps_of step s [] = refl
Steps-steps_of step s (x ∷ xs) = (refl, Steps-steps_of step (step s x).1 xs)

inputs-steps_of : {S : Type 0} (step : S → Block → Block × S) (s : S) (xs : List Block) → inputs (steps_of step s xs) ≡ xs
inputs-steps_of step s [] = refl
inputs-steps_of step s (x ∷ xs) = ap (λ ys. x ∷ ys) (inputs-steps_of step (step s x).1 xs)

outputs-steps_of : {S : Type 0} (step : S → Block → Block × S) (s : S) (xs : List Block) → outputs (steps_of step s xs) ≡ run_of step s xs
outputs-steps_of step s [] = refl
outputs-steps_of step s (x ∷ xs) = ap (λ ys. (step s x).0 ∷ ys) (outputs-steps_of step (step s x).1 xs)

outputs-of_steps : {S : Type 0} (step : S → Block → Block × S) (s s' : S) (ts : Transcript) → Steps step s ts s' → outputs ts ≡ run_of step s (inputs ts)
outputs-of_steps step s s' [] h = refl
outputs-of_steps step s s' (t ∷ ts) h = ap (λ y. y ∷ outputs ts) h.0 ∙ ap (λ ys. (step s t.0).0 ∷ ys) (outputs-of_steps step (step s t.0).1 s' ts h.1)

state-of_steps : {S : Type 0} (step : S → Block → Block × S) (s s' : S) (ts : Transcript) → Steps step s ts s' → s' ≡ state_after step s (inputs ts)
state-of_steps step s s' [] h = h
state-of_steps step s s' (t ∷ ts) h = state-of_steps step (step s t.0).1 s' ts h.1

-- one block: its output and the state after it
pub OneBlock-output : {B : ℕ} {T : Type 0} {step : T → Block → Block × T} {old new : BlockCtx B} {before after : T} → LedOn step OneBlock old new before after
    → new.output.now ≡ (step before (get_or old.input.now 0 old.output.now)).0
OneBlock-output {B} {T} {step} {old} {new} {before} {after} l = (subst (λ ts. Steps step before ts after) l.goes l.steps).0

pub OneBlock-state : {B : ℕ} {T : Type 0} {step : T → Block → Block × T} {old new : BlockCtx B} {before after : T} → LedOn step OneBlock old new before after
    → after ≡ (step before (get_or old.input.now 0 old.output.now)).1
OneBlock-state {B} {T} {step} {old} {new} {before} {after} l = (subst (λ ts. Steps step before ts after) l.goes l.steps).1

-- each block
pub EachBlock-output : {B : ℕ} {T : Type 0} {step : T → Block → Block × T} {old new : BlocksCtx B} {before after : T} → LedOn step EachBlock old new before after
    → new.output.now ≡ run_of step before (pick old.input.now old.output.now)
EachBlock-output {B} {T} {step} {old} {new} {before} {after} l = sym l.goes.1 ∙ (outputs-of_steps step before after l.pairs l.steps ∙ ap (run_of step before) l.goes.0)

pub EachBlock-state : {B : ℕ} {T : Type 0} {step : T → Block → Block × T} {old new : BlocksCtx B} {before after : T} → LedOn step EachBlock old new before after
    → after ≡ state_after step before (pick old.input.now old.output.now)
EachBlock-state {B} {T} {step} {old} {new} {before} {after} l = state-of_steps step before after l.pairs l.steps ∙ ap (state_after step before) l.goes.0

-- and so it leads them
pub LedOn-from_one : {B : ℕ} {T : Type 0} {step : T → Block → Block × T} {old new : BlockCtx B} {before after : T} → new.output.now ≡ (step before (get_or old.input.now 0 old.output.now)).0
    → after ≡ (step before (get_or old.input.now 0 old.output.now)).1 → LedOn step OneBlock old new before after
LedOn-from_one {B} {T} {step} {old} {new} {before} {after} e s = record { pairs = (get_or old.input.now 0 old.output.now, new.output.now) ∷ []; steps = (e, s); goes = refl }

pub LedOn-from_each : {B : ℕ} {T : Type 0} {step : T → Block → Block × T} {old new : BlocksCtx B} {before after : T} → new.output.now ≡ run_of step before (pick old.input.now old.output.now)
    → after ≡ state_after step before (pick old.input.now old.output.now) → LedOn step EachBlock old new before after
LedOn-from_each {B} {T} {step} {old} {new} {before} {after} e s =
    let xs : List Block = pick old.input.now old.output.now in
    record {
      pairs = steps_of step before xs;
      steps = subst (λ t. Steps step before (steps_of step before xs) t) (sym s) (Steps-steps_of step before xs);
      goes = (inputs-steps_of step before xs, outputs-steps_of step before xs ∙ sym e);
    }
