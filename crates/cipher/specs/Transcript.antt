-- What a backend did for a closure: a list of (input, output) pairs, in order.
use Rattle.std.specs.Prelude.{◌≡◌, ℕ, List, [], ◌∷◌}

abbrev pub Block : Type 0
Block = List ℕ

-- an input is a block, or a tweak and a block
abbrev pub Pairs : Type 0 → Type 0
Pairs X = List (X × Block)

abbrev pub Transcript : Type 0
Transcript = Pairs Block

-- the calls of a tweakable cipher: (tweak, block) with the output
abbrev pub TweakTranscript : Type 0
TweakTranscript = Pairs (Block × Block)

-- a map on tweaks and blocks, as a map on their pairs
abbrev pub tweaked : (Block → Block → Block) → Block × Block → Block
tweaked f p = f p.0 p.1

-- each pair is of the map f
abbrev pub IsOf : {X : Type 0} → (X → Block) → Pairs X → Type 0
IsOf f [] = Unit {0}
IsOf f (p ∷ ts) = (p.1 ≡ f p.0) × IsOf f ts

abbrev pub inputs : {X : Type 0} → Pairs X → List X
inputs [] = []
inputs (p ∷ ts) = p.0 ∷ inputs ts

abbrev pub outputs : {X : Type 0} → Pairs X → List Block
outputs [] = []
outputs (p ∷ ts) = p.1 ∷ outputs ts

-- some transcript of the map f alone leads from the old state to the new one
pub record Led {S X : Type 0} (f : X → Block) (leads : Pairs X → S → S → Type 0) (old new : S) : Type 0 where
  pub pairs : Pairs X
  pub of_map : IsOf f pairs
  pub goes : leads pairs old new
