-- A keystream that goes on from the current counter block.
use Rattle.std.proofs.Common.{◌≡◌, ℕ, ◌+◌, ◌%◌, List, [], ◌∷◌, ap, ap₂, sym, ◌∙◌, refl, arith}
use Rattle.cipher.specs.Transcript.{Block}
use Rattle.standards.specs.Lists.{xor_bytes}
use Rattle.cipher_stream.specs.Keystream.{stream_of, xored_blocks}
use Rattle.ctr.specs.Counter.{counter_stream}

-- streams with the same blocks
pub xored_blocks_same : (s t : ℕ → Block) → ((i : ℕ) → s i ≡ t i) → (xs : List Block) → xored_blocks s xs ≡ xored_blocks t xs
xored_blocks_same s t same [] = refl
xored_blocks_same s t same (x ∷ xs) = ap₂ (λ y ys. y ∷ ys) (ap (xor_bytes x) (same 0)) (xored_blocks_same (λ j. s (1 + j)) (λ j. t (1 + j)) (λ j. same (1 + j)) xs)

module _ (plus : Block → ℕ → Block) (period : ℕ) (repeats : (xs : Block) (i : ℕ) → plus xs (i % period) ≡ plus xs i) (adds : (xs : Block) (i j : ℕ) → plus (plus xs i) j ≡ plus xs (i + j)) where
  -- from counter block p of a nonce on, with the counter at 0, come the blocks from p on
  pub resumed : (E F : Block → Block) (start nonce : Block) (q p : ℕ) → F ≡ E → start ≡ plus nonce p → q ≡ 0 → (xs : List Block)
      → xored_blocks (stream_of (counter_stream E plus start period q)) xs ≡ xored_blocks (stream_of (counter_stream F plus nonce period p)) xs
  resumed E F start nonce q p same at none =
      xored_blocks_same (stream_of (counter_stream E plus start period q)) (stream_of (counter_stream F plus nonce period p))
      (λ i. let e : q + i ≡ i = omega arith in
      ap E (repeats start (q + i) ∙ ap (plus start) e ∙ ap (λ xs. plus xs i) at ∙ adds nonce p i ∙ sym (repeats nonce (p + i))) ∙ ap (λ f. f (plus nonce ((p + i) % period))) (sym same))
