use Rattle.std.proofs.Common.{◌≡◌, ◌+◌, ◌%◌, ◌<◌, ◌^◌, ℕ, ap, ◌∙◌, add-one, arith, List, ◌++◌}
use Rattle.std.specs.Int.{w32, to_le_bytes}
use Rattle.rand_chacha.specs.ChaCha.{ChaCha, next_word, word_at, key_of}
use Rattle.tink_program_core.specs.Draws.{draws_in}
use Rattle.tink_program_core.proofs.words.first_draws.Goals as goal

pub loop-place-init : goal.loop-place-init
unfolding draws_in
loop-place-init c = record { bytes = c.new-bytes.ensures.items; place = c.from_seed-rng.ensures }

one_more : (seed bytes more le : List ℕ) (n word : ℕ) (rng after : ChaCha) → rng ≡ record { key = key_of seed; stream = 0; word_pos = n } → ◌≡◌ {A = ℕ × ChaCha} (word, after) (next_word 10 rng)
    → bytes ≡ draws_in seed n → le ≡ to_le_bytes w32 word → more ≡ bytes ++ le → n < 256
    → (more ≡ draws_in seed (n + 1)) × (after ≡ record { key = key_of seed; stream = 0; word_pos = n + 1 })
unfolding draws_in
one_more seed bytes more le n word rng after r step b l m h =
    let word_is : word ≡ word_at 10 (key_of seed) 0 n = ap (λ (p : ℕ × ChaCha). p.0) step ∙ ap (λ (g : ChaCha). word_at 10 g.key g.stream g.word_pos) r in
    let small : (n + 1) % 2 ^ 68 ≡ n + 1 = omega arith in (
      rw add-one (m ∙ ap (λ xs. xs ++ le) b ∙ ap (λ xs. draws_in seed n ++ xs) (l ∙ ap (to_le_bytes w32) word_is)),
      ap (λ (p : ℕ × ChaCha). p.1) step ∙ ap (λ (g : ChaCha). (next_word 10 g).1) r ∙ ap (λ (k : ℕ). let g : ChaCha = record { key = key_of seed; stream = 0; word_pos = k } in g) small,
    )

pub loop-place-preserved : goal.loop-place-preserved
loop-place-preserved c =
    let p = one_more c.args.seed c.loop-place.bytes.items c.extend_from_slice.new.self.items c.to_le_bytes.result c.loop-place.place c.next_word.result c.loop-place.rng c.next_word.new.self c.loop-place.invariant.place c.next_word.ensures c.loop-place.invariant.bytes c.to_le_bytes.ensures c.in_ok-extend_from_slice.ensures.items (omega arith) in
    record { bytes = p.0; place = p.1 }
