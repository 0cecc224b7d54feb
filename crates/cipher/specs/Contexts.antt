-- The meaning of the closures of this crate.
use Rattle.std.specs.Prelude.{◌≡◌, ℕ, [], ◌∷◌, slice_index_or}
use Rattle.cipher.specs.Buffers.{pick}
use Rattle.cipher.specs.Transcript.{Transcript, inputs, outputs}
use Rattle.cipher.specs.declared.blocks.contexts.BlockCtx.{BlockCtx}
use Rattle.cipher.specs.declared.blocks.contexts.BlocksCtx.{BlocksCtx}

-- one pair: what the closure reads, and what its output is afterwards
abbrev pub OneBlock : {B : ℕ} → Transcript → BlockCtx B → BlockCtx B → Type 0
OneBlock ts old new = ts ≡ (slice_index_or old.input.now 0 old.output.now, new.output.now) ∷ []

-- the blocks that the closure reads, in order, each with what its output is afterwards
abbrev pub EachBlock : {B : ℕ} → Transcript → BlocksCtx B → BlocksCtx B → Type 0
EachBlock ts old new = (inputs ts ≡ pick old.input.now old.output.now) × (outputs ts ≡ new.output.now)
