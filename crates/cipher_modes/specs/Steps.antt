-- A block mode: a state and a step, which makes of a state and a block an output and the next state.
use Rattle.std.specs.Prelude.{◌≡◌, List, [], ◌∷◌}
use Rattle.cipher.specs.Transcript.{Transcript, Block}

-- the outputs of a mode on these blocks, in order
abbrev pub run_of : {S : Type 0} → (S → Block → Block × S) → S → List Block → List Block
run_of step s [] = []
run_of step s (x ∷ xs) = (step s x).0 ∷ run_of step (step s x).1 xs

-- the state after them
abbrev pub state_after : {S : Type 0} → (S → Block → Block × S) → S → List Block → S
state_after step s [] = s
state_after step s (x ∷ xs) = state_after step (step s x).1 xs

-- these are the outputs of a mode on blocks, and the state after them
abbrev pub IsRun : {S : Type 0} → (S → Block → Block × S) → S → List Block → List Block → S → Type 0
IsRun step s xs ys s' = (ys ≡ run_of step s xs) × (s' ≡ state_after step s xs)

-- the pairs of this transcript are the steps of a mode from one state to another
abbrev pub Steps : {S : Type 0} → (S → Block → Block × S) → S → Transcript → S → Type 0
Steps step s [] s' = s' ≡ s
Steps step s (p ∷ ts) s' = (p.1 ≡ (step s p.0).0) × Steps step (step s p.0).1 ts s'

-- some transcript of a mode's steps alone leads from the old state to the new one, and the mode has made those steps
pub record LedOn {S T : Type 0} (step : T → Block → Block × T) (leads : Transcript → S → S → Type 0) (old new : S) (before after : T) : Type 0 where
  pub pairs : Transcript
  pub steps : Steps step before pairs after
  pub goes : leads pairs old new
