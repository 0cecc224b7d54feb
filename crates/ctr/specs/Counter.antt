-- Keystreams of enciphered counter blocks (SP 800-38A, 2001, 6.5).
use Rattle.std.specs.Prelude.{◌≡◌, ℕ, List}
use Rattle.cipher.specs.Transcript.{Block, Transcript, inputs, outputs}
use Rattle.cipher_stream.specs.Keystream.{Keystream, next, IsMoved}

-- block i is E of the nonce with i added, the blocks repeat from the period on, and p is the number of the next
abbrev pub counter_stream : (Block → Block) → (Block → ℕ → Block) → Block → ℕ → ℕ → Keystream
counter_stream E plus nonce period p = record { block_at = λ i. E (plus nonce i); period = period; position = p }

-- the counter blocks themselves
abbrev pub counters : (Block → ℕ → Block) → Block → ℕ → ℕ → Keystream
counters plus nonce period p = counter_stream (λ block. block) plus nonce period p

-- a transcript whose inputs are the next counter blocks: its outputs lead on, and the counter has moved
pub record IsOfCounters {S : Type 0} (leads : List Block → S → S → Type 0) (ts : Transcript) (old new : S) (k k' : Keystream) : Type 0 where
  pub count : ℕ
  pub blocks : inputs ts ≡ next count k
  pub goes : leads (outputs ts) old new
  pub is_moved : IsMoved k count k'
