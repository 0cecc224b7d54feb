-- A text that is had from its ciphertext part by part, eight blocks at a time.
use Rattle.std.proofs.Common.{◌≡◌, ◌≤◌, ◌<◌, ◌+◌, ◌-◌, ◌*◌, ◌/◌, ◌%◌, ℕ, List, ◌++◌, length, take, drop, replicate, min, get_or, inl, inr, ap, ap₂, sym, ◌∙◌, arith, append_assoc, bit_xor}
use Rattle.std.proofs.lemmas.Bool.{cases_lt}
use Rattle.std.proofs.lemmas.Grind.{same_number_lists}
use Rattle.std.proofs.lemmas.List.{drop_at, get_or-take, length-drop, length-take, length-take-le, take-append-drop, take_all}
use Rattle.standards.specs.Blocks.{over_blocks, zero_padded}
use Rattle.standards.specs.Counter.{ctr}
use Rattle.standards.proofs.BlockFacts.{over_blocks-append, over_blocks-front}
use Rattle.standards.proofs.CounterFacts.{ctr-append}
use Rattle.standards.proofs.Keystream.{get_or-ctr, length-ctr}

-- a prefix of a text in counter mode
ctr_front : (E : List ℕ → List ℕ) (plus : List ℕ → ℕ → List ℕ) (b xs : List ℕ) (n : ℕ) → ((i : ℕ) → length (E (plus b i)) ≡ 16) → ctr E plus b (take n xs) ≡ take n (ctr E plus b xs)
ctr_front E plus b xs n size =
    let whole = ctr E plus b xs in
    let long = length-ctr E plus b xs in
    same_number_lists (ctr E plus b (take n xs)) (take n whole) (length-ctr E plus b (take n xs) ∙ length-take n xs ∙ ap (min n) (sym long) ∙ sym (length-take n whole))
    (λ k h.
    let below : k < length (take n xs) = omega (arith, length-ctr E plus b (take n xs)) in
    let in_front : k < n = omega (arith, length-take n xs) in
    let in_all : k < length xs = omega (arith, length-take n xs) in
    get_or-ctr E plus b (take n xs) k size below
    ∙ ap (λ v. bit_xor v (get_or (E (plus b (k / 16))) (k % 16) 0)) (get_or-take n xs k 0 in_front)
    ∙ sym (get_or-take n whole k 0 in_front ∙ get_or-ctr E plus b xs k size in_all))

-- a part of a text in counter mode, from block m on
pub ctr_part : (E : List ℕ → List ℕ) (plus : List ℕ → ℕ → List ℕ) (b xs : List ℕ) (m n : ℕ) → ((i : ℕ) → length (E (plus b i)) ≡ 16) → ((i : ℕ) → plus (plus b m) i ≡ plus b (m + i)) → 16 * m ≤ length xs
    → ctr E plus (plus b m) (take n (drop (16 * m) xs)) ≡ take n (drop (16 * m) (ctr E plus b xs))
ctr_part E plus b xs m n size on within =
    let front = take (16 * m) xs in
    let rest = drop (16 * m) xs in
    let long : length front ≡ 16 * m = length-take-le (16 * m) xs within in
    let cut : ctr E plus b xs ≡ ctr E plus b front ++ ctr E plus (plus b m) rest = ap (ctr E plus b) (sym (take-append-drop (16 * m) xs)) ∙ ctr-append E plus b front rest m long size on in
    ctr_front E plus (plus b m) rest n (λ i. ap (λ c. length (E c)) (on i) ∙ size (m + i))
    ∙ ap (take n) (sym (ap (drop (16 * m)) cut ∙ drop_at (ctr E plus b front) (ctr E plus (plus b m) rest) (16 * m) (length-ctr E plus b front ∙ long)))

-- the padding is that of the rest behind whole blocks
padded_rest : (t : List ℕ) (i : ℕ) → 128 * i ≤ length t → zero_padded t ≡ take (128 * i) t ++ zero_padded (drop (128 * i) t)
padded_rest t i within =
    let rest = drop (128 * i) t in
    let count : (16 - length t % 16) % 16 ≡ (16 - length rest % 16) % 16 = omega (arith, length-drop (128 * i) t) in
    ap₂ (λ xs n. xs ++ replicate n 0) (sym (take-append-drop (128 * i) t)) count ∙ append_assoc (take (128 * i) t) rest (replicate ((16 - length rest % 16) % 16) 0)

-- eight blocks more, or what is left
pub part_more : (f : ℕ → List ℕ → ℕ) (y : ℕ) (t : List ℕ) (i n : ℕ) → 128 * i < length t → n ≡ min (length t - 128 * i) 128
    → over_blocks f (over_blocks f y (zero_padded t) (8 * i)) (zero_padded (take n (drop (128 * i) t))) ((n + 15) / 16) ≡ over_blocks f y (zero_padded t) (min (8 * (i + 1)) ((length t + 15) / 16))
part_more f y t i n within n_is =
    let xs = take (128 * i) t in
    let rest = drop (128 * i) t in
    let part = take n rest in
    let m = (n + 15) / 16 in
    let long : length xs ≡ 16 * (8 * i) = length-take-le (128 * i) t (omega arith) ∙ (let e : 128 * i ≡ 16 * (8 * i) = omega arith in e) in
    let size : length rest ≡ length t - 128 * i = length-drop (128 * i) t in
    let cut = padded_rest t i (omega arith) in
    let s = over_blocks f y xs (8 * i) in
    let start : over_blocks f y (zero_padded t) (8 * i) ≡ s = ap (λ z. over_blocks f y z (8 * i)) cut ∙ over_blocks-front f y xs (zero_padded rest) (8 * i) (omega arith) in
    let count : min (8 * (i + 1)) ((length t + 15) / 16) ≡ 8 * i + m = omega arith in
    let end : over_blocks f y (zero_padded t) (min (8 * (i + 1)) ((length t + 15) / 16)) ≡ over_blocks f s (zero_padded rest) m =
    ap₂ (over_blocks f y) cut count ∙ over_blocks-append f y xs (zero_padded rest) (8 * i) m long in
    let same : over_blocks f s (zero_padded part) m ≡ over_blocks f s (zero_padded rest) m = elim (cases_lt (length rest) 128) [
      | inl short ↦ let all : part ≡ rest = take_all n rest (omega arith) in ap (λ p. over_blocks f s (zero_padded p) m) all
      | inr whole ↦
          let full : n ≡ 128 = omega arith in
          let inside : 16 * m ≤ length part = omega (arith, length-take n rest) in
          let zeros = replicate ((16 - length rest % 16) % 16) 0 in
          over_blocks-front f s part (replicate ((16 - length part % 16) % 16) 0) m inside
          ∙ sym (ap (λ z. over_blocks f s (z ++ zeros) m) (sym (take-append-drop n rest)) ∙ ap (λ z. over_blocks f s z m) (append_assoc part (drop n rest) zeros) ∙ over_blocks-front f s part (drop n rest ++ zeros) m inside)
    ] in
    ap (λ v. over_blocks f v (zero_padded part) m) start ∙ same ∙ sym end
