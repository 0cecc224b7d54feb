-- Enciphered counter blocks as a keystream.
use Rattle.std.proofs.Common.{◌≡◌, ℕ, List, [], ◌∷◌, map, ap, subst, sym, ◌∙◌, refl}
use Rattle.std.specs.List.{range_with_len}
use Rattle.cipher.specs.Transcript.{Block, Transcript, IsOf, inputs, outputs}
use Rattle.cipher_stream.specs.Keystream.{next, stream_of, IsFed}
use Rattle.ctr.specs.Counter.{counter_stream, counters, IsOfCounters}

-- the transcript that a map gives on these inputs
transcript : (Block → Block) → List Block → Transcript
transcript f [] = []
transcript f (x ∷ xs) = (x, f x) ∷ transcript f xs

IsOf-transcript : (f : Block → Block) (xs : List Block) → IsOf f (transcript f xs)
unfolding transcript
IsOf-transcript f [] = tt
IsOf-transcript f (x ∷ xs) = (refl, IsOf-transcript f xs)

inputs-transcript : (f : Block → Block) (xs : List Block) → inputs (transcript f xs) ≡ xs
unfolding transcript
inputs-transcript f [] = refl
inputs-transcript f (x ∷ xs) = ap (λ ys. x ∷ ys) (inputs-transcript f xs)

outputs-transcript : (f : Block → Block) (xs : List Block) → outputs (transcript f xs) ≡ map f xs
unfolding transcript
outputs-transcript f [] = refl
outputs-transcript f (x ∷ xs) = ap (λ ys. f x ∷ ys) (outputs-transcript f xs)

outputs-of_map : (f : Block → Block) (ts : Transcript) → IsOf f ts → outputs ts ≡ map f (inputs ts)
outputs-of_map f [] h = refl
outputs-of_map f (t ∷ ts) h = ap (λ x. x ∷ outputs ts) h.0 ∙ ap (λ xs. f t.0 ∷ xs) (outputs-of_map f ts h.1)

map_map : (f : Block → Block) (s : ℕ → Block) (xs : List ℕ) → map f (map s xs) ≡ map (λ i. f (s i)) xs
map_map f s [] = refl
map_map f s (x ∷ xs) = ap (λ ys. f (s x) ∷ ys) (map_map f s xs)

-- E of the next counter blocks: the next blocks of the keystream
next-enciphered : (E : Block → Block) (plus : Block → ℕ → Block) (nonce : Block) (period p n : ℕ) → map E (next n (counters plus nonce period p)) ≡ next n (counter_stream E plus nonce period p)
next-enciphered E plus nonce period p n = map_map E (stream_of (counters plus nonce period p)) (range_with_len 0 n)

-- .. as a backend makes them
pub enciphered : (E : Block → Block) (plus : Block → ℕ → Block) (nonce : Block) (period p n : ℕ) (filled made : List Block) → filled ≡ next n (counters plus nonce period p) → made ≡ map E filled
    → made ≡ next n (counter_stream E plus nonce period p)
enciphered E plus nonce period p n filled made h e = e ∙ ap (map E) h ∙ next-enciphered E plus nonce period p n

module _ {S : Type 0} (L : List Block → S → S → Type 0) (E : Block → Block) (plus : Block → ℕ → Block) (period : ℕ) (old new : S) (nonce nonce' : Block) (p p' : ℕ) where
  -- a fed closure over a keystream, as a transcript of the cipher
  pub led : IsFed L old new (counter_stream E plus nonce period p) (counter_stream E plus nonce' period p') → nonce' ≡ nonce
      → (ts : Transcript) × (IsOf E ts × IsOfCounters L ts old new (counters plus nonce period p) (counters plus nonce' period p'))
  led h same =
      let xs = next h.count (counters plus nonce period p) in (
        transcript E xs,
        (
          IsOf-transcript E xs,
          record {
            count = h.count;
            blocks = inputs-transcript E xs;
            goes = subst (λ (l : List Block). L l old new) (sym (outputs-transcript E xs ∙ next-enciphered E plus nonce period p h.count)) h.goes;
            is_moved = record { same_blocks = λ i. ap (λ n. plus n i) same; same_period = refl; moved = h.is_moved.moved };
          },
        ),
      )

  -- and back
  pub fed : (ts : Transcript) → IsOf E ts → IsOfCounters L ts old new (counters plus nonce period p) (counters plus nonce' period p') → IsFed L old new (counter_stream E plus nonce period p) (counter_stream E plus nonce' period p')
  fed ts o h =
      record {
        count = h.count;
        goes = subst (λ (l : List Block). L l old new) (outputs-of_map E ts o ∙ (ap (map E) h.blocks ∙ next-enciphered E plus nonce period p h.count)) h.goes;
        is_moved = record { same_blocks = λ i. ap E (h.is_moved.same_blocks i); same_period = refl; moved = h.is_moved.moved };
      }
