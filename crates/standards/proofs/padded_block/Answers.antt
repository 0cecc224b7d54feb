use Rattle.std.proofs.Common.{◌≡◌, ◌≤◌, ◌<◌, ◌+◌, ◌-◌, ◌*◌, ◌%◌, ℕ, List, ◌++◌, length, take, drop, replicate, min, inl, inr, ap, ap₂, sym, ◌∙◌, arith, length-append, append-nil}
use Rattle.std.proofs.lemmas.Bool.{cases_lt}
use Rattle.std.proofs.lemmas.List.{drop-append-le, drop-replicate, length-drop, length-replicate, take-append-le, take_all}
use Rattle.standards.specs.Blocks.{block_at, zero_padded}
use Rattle.standards.proofs.padded_block.Goals as goal

-- a prefix of a block and zeros are that block of the padded bytes
padded : (bytes front : List ℕ) (i n : ℕ) → 16 * i < length bytes → n ≡ min (length bytes - 16 * i) 16 → front ≡ take n (drop (16 * i) bytes)
    → front ++ drop n (replicate 16 0) ≡ block_at (zero_padded bytes) i
padded bytes front i n some n_is front_is =
    let r = drop (16 * i) bytes in
    let zeros : List ℕ = replicate ((16 - length bytes % 16) % 16) 0 in
    let size : length r ≡ length bytes - 16 * i = length-drop (16 * i) bytes in
    let cut : drop (16 * i) (bytes ++ zeros) ≡ r ++ zeros = drop-append-le (16 * i) bytes zeros (omega arith) in
    elim (cases_lt (length r) 16) [
      | inr whole ↦
          let all : n ≡ 16 = omega arith in
          let front_whole : front ≡ take 16 r = front_is ∙ ap (λ k. take k r) all in
          ap₂ (λ xs k. xs ++ drop k (replicate 16 0)) front_whole all
          ∙ append-nil (take 16 r)
          ∙ sym (ap (take 16) cut ∙ take-append-le 16 r zeros whole)
      | inl short ↦
          let all : n ≡ length r = omega arith in
          let front_all : front ≡ r = front_is ∙ take_all n r (omega arith) in
          let count : 16 - n ≡ (16 - length bytes % 16) % 16 = omega arith in
          let long : length (r ++ zeros) ≤ 16 = omega (arith, length-append r zeros, length-replicate {A = ℕ} ((16 - length bytes % 16) % 16) 0) in
          ap₂ (λ xs ys. xs ++ ys) front_all (drop-replicate n 16 0 ∙ ap (λ k. replicate k 0) count)
          ∙ sym (ap (take 16) cut ∙ take_all 16 (r ++ zeros) long)
    ]

pub returns : goal.returns
returns c =
    let i = c.args.i in
    let n = c.min-n.result in
    let e : 16 * i + n - 16 * i ≡ n = omega arith in
    padded c.args.bytes.now c.copy_from_slice.new.self i n (omega arith) c.min-n.ensures (c.copy_from_slice.ensures.after ∙ ap (λ k. take k (drop (16 * i) c.args.bytes.now)) e)
