-- Bytes of which the first n are xor others.
use Rattle.std.proofs.Common.{◌≡◌, ℕ, zero, suc, ◌+◌, ◌<◌, ◌≤◌, List, [], ◌∷◌, ◌++◌, take, drop, set, get_or, length, bit_xor, refl, sym, ap, ◌∙◌, arith}
use Rattle.std.proofs.lemmas.List.{take-append-drop}
use lib.Lanes.{chunk, put_chunk, zip2}
use Rattle.standards.specs.Lists.{xor_bytes}

abbrev pub done : ℕ → List ℕ → List ℕ → List ℕ
done n xs ws = take n (xor_bytes xs ws) ++ drop n xs

first : (k : ℕ) (xs ws : List ℕ) → k ≤ length ws → k ≤ length xs → put_chunk 0 xs (zip2 bit_xor (take k xs) (take k ws)) ≡ done k xs ws
first zero [] ws e h = refl
first zero (x ∷ xs) ws e h = refl
first (suc k) [] ws e h = absurd (omega arith)
first (suc k) (x ∷ xs) [] e h = absurd (omega arith)
first (suc k) (x ∷ xs) (w ∷ ws) e h = ap (λ l. bit_xor x w ∷ l) (first k xs ws (omega arith) (omega arith))

-- k bytes more at once
pub chunk_step : (n k : ℕ) (xs ws : List ℕ) → length ws ≤ length xs → n + k ≤ length ws
    → put_chunk n (done n xs ws) (zip2 bit_xor (chunk n k (done n xs ws)) (chunk n k ws)) ≡ done (n + k) xs ws
chunk_step zero k xs ws e h =
    let z : 0 + k ≡ k = omega arith in
    first k xs ws (omega arith) (omega arith) ∙ ap (λ m. done m xs ws) (sym z)
chunk_step (suc n) k xs [] e h = absurd (omega arith)
chunk_step (suc n) k [] (w ∷ ws) e h = absurd (omega arith)
chunk_step (suc n) k (x ∷ xs) (w ∷ ws) e h =
    let z : suc n + k ≡ suc (n + k) = omega arith in
    ap (λ l. bit_xor x w ∷ l) (chunk_step n k xs ws (omega arith) (omega arith)) ∙ ap (λ m. done m (x ∷ xs) (w ∷ ws)) (sym z)

-- one byte more
pub set_step : (n : ℕ) (xs ws : List ℕ) → length ws ≤ length xs → n < length ws
    → set (done n xs ws) n (bit_xor (get_or (done n xs ws) n 0) (get_or ws n 0)) ≡ done (n + 1) xs ws
set_step n xs [] e h = absurd (omega arith)
set_step n [] (w ∷ ws) e h = absurd (omega arith)
set_step zero (x ∷ xs) (w ∷ ws) e h = refl
set_step (suc n) (x ∷ xs) (w ∷ ws) e h =
    let z : suc n + 1 ≡ suc (n + 1) = omega arith in
    ap (λ l. bit_xor x w ∷ l) (set_step n xs ws (omega arith) (omega arith)) ∙ ap (λ m. done m (x ∷ xs) (w ∷ ws)) (sym z)

pub all_done : (n : ℕ) (xs ws : List ℕ) → length ws ≤ n → done n xs ws ≡ xor_bytes xs ws
all_done n [] ws h = take-append-drop n []
all_done n (x ∷ xs) [] h = take-append-drop n (x ∷ xs)
all_done zero (x ∷ xs) (w ∷ ws) h = absurd (omega arith)
all_done (suc n) (x ∷ xs) (w ∷ ws) h = ap (λ l. bit_xor x w ∷ l) (all_done n xs ws (omega arith))
