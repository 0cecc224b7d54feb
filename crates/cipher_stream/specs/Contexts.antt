-- The meaning of the closures of this crate.
use Rattle.std.specs.Prelude.{◌≡◌, ℕ, List, [], ◌∷◌, length, slice_index_or}
use Rattle.cipher.specs.Buffers.{pick}
use Rattle.standards.specs.Lists.{xor_bytes}
use Rattle.cipher.specs.Transcript.{Block}
use Rattle.cipher_stream.specs.Keystream.{combined}
use Rattle.cipher_stream.specs.declared.cores.contexts.ApplyBlocksCtx.{ApplyBlocksCtx}
use Rattle.cipher_stream.specs.declared.cores.contexts.ApplyBlockCtx.{ApplyBlockCtx}
use Rattle.cipher_stream.specs.declared.cores.contexts.WriteBlockCtx.{WriteBlockCtx}
use Rattle.cipher_stream.specs.declared.cores.contexts.WriteBlocksCtx.{WriteBlocksCtx}

-- one block, which is written
abbrev pub WritesOne : {B : ℕ} → List Block → WriteBlockCtx B → WriteBlockCtx B → Type 0
WritesOne bs old new = bs ≡ new.block.now ∷ []

-- as many blocks as there are places, which are written
abbrev pub WritesEach : {B : ℕ} → List Block → WriteBlocksCtx B → WriteBlocksCtx B → Type 0
WritesEach bs old new = (length bs ≡ length old.blocks.now) × (new.blocks.now ≡ bs)

-- one block, which what is read is xored with
abbrev pub AppliesOne : {B : ℕ} → List Block → ApplyBlockCtx B → ApplyBlockCtx B → Type 0
AppliesOne bs old new =
    (key : Block) × (bs ≡ key ∷ []) × (new.output.now ≡ xor_bytes (slice_index_or old.input.now 0 old.output.now) key)

-- as many blocks as there are places, which what is read is xored with
abbrev pub AppliesEach : {B : ℕ} → List Block → ApplyBlocksCtx B → ApplyBlocksCtx B → Type 0
AppliesEach bs old new =
    (length bs ≡ length old.output.now) × (new.output.now ≡ combined xor_bytes (pick old.input.now old.output.now) bs)
