-- The key of large texts, and the sizes of a text and its stream.
use Rattle.std.proofs.Common.{◌≡◌, ◌∙◌, inl, inr, ◌<◌, ◌≤◌, ◌+◌, ◌*◌, ◌^◌, ℕ, zero, suc, Bool, true, false, List, [], ◌∷◌, ◌++◌, length, drop, refl, sym, ap, arith, Some, length-append, length-drop}
use Rattle.std.proofs.lemmas.Bool.{cases_lt}
use Rattle.std.proofs.lemmas.List.{length-take}
use Rattle.hash_keys.specs.declared.Hash.TheVariants.{Sha256}
use Rattle.hash_keys.specs.Hash.{hkdf_of}
use Rattle.std.specs.List.{range_with_len}
use Rattle.stream_model.specs.Agree.{joined}
use Rattle.stream_model.specs.Cut.{chunks, full_chunks, sealed, segments}
use Rattle.stream_model.specs.Key.{IsUsable, first_room, front, keys_of, room, segment_at}
use Rattle.stream_model.specs.Sealing.{chunk_count, drawn, nonce_prefix_of, salt_of}
use Rattle.stream_model.proofs.CutFacts.{full_chunks_fits, full_chunks_more}
use Rattle.stream_model.proofs.KeyFacts.{lawful_at}
use Rattle.stream_model.proofs.SealingFacts.{length-chunks}
use Rattle.tink_streaming_aead.proofs.SealedFacts.{joined_text}
use Rattle.tink_streaming_aead.proofs.StreamLaws.{stream_is}
use Rattle.tink_large.specs.Large.{IsMeasured, four_lines, large_key, large_lines, large_output, large_stream, large_text, text_length}
use Rattle.tink_large.specs.declared.measuring.Measured.{Measured}
use Rattle.tink_large.proofs.SealedSteps.{IsLonger}
use Rattle.tink_large.proofs.TextFacts.{length-text_from}

pub large_usable : IsUsable large_key
large_usable = record { derived = inl refl; tag = (omega arith, omega arith); room = omega arith; segment = omega arith }

-- the keys that are derived
abbrev pub large_keys : List ℕ → List ℕ
large_keys salt = hkdf_of Sha256 (range_with_len 0 16) salt [] 48

pub large_keys_are : (salt : List ℕ) → keys_of large_key [] salt ≡ Some (large_keys salt)
large_keys_are salt = refl

pub length-salt : (draws : List ℕ) → drawn large_key ≤ length draws → length (salt_of large_key draws) ≡ 16
length-salt draws h = omega (arith, length-take 16 draws)

pub length-prefix : (draws : List ℕ) → drawn large_key ≤ length draws → length (nonce_prefix_of large_key draws) ≡ 7
length-prefix draws h = omega (arith, length-take 7 (drop 16 draws), length-drop 16 draws)

pub length-front : (draws : List ℕ) → length (front large_key (salt_of large_key draws) (nonce_prefix_of large_key draws)) ≤ 24
length-front draws =
    omega (arith, length-append (salt_of large_key draws) (nonce_prefix_of large_key draws), length-take 16 draws, length-take 7 (drop 16 draws))

pub length-large_text : (n : ℕ) → length (large_text n) ≡ text_length n
unfolding large_text
length-large_text n = length-text_from n 0 (text_length n)

-- a full chunk has two bytes at least
few_full : (turns a b : ℕ) (R : List ℕ) → length R ≤ turns → 2 ≤ a → 2 ≤ b → 2 * length (full_chunks a b R) ≤ length R
few_full zero a b R h p q = omega (arith, ap length (full_chunks_fits a b R (omega arith)))
few_full (suc turns) a b R h p q = elim (cases_lt a (length R)) [
  | inr fits ↦ omega (arith, ap length (full_chunks_fits a b R fits))
  | inl more ↦
      let rest = few_full turns b b (drop a R) (omega (arith, length-drop a R)) q q in
      omega (arith, rest, length-drop a R, ap length (full_chunks_more a b R more (omega arith) (omega arith)))
]

pub few_chunks : (n : ℕ) → 2 * chunk_count large_key (large_text n) ≤ text_length n + 2
few_chunks n =
    omega (arith, length-chunks (first_room large_key) (room large_key) (large_text n), few_full (length (large_text n)) (first_room large_key) (room large_key) (large_text n) (omega arith) (omega arith) (omega arith), length-large_text n)

length-segments : (seg : ℕ → Bool → List ℕ → List ℕ) (i : ℕ) (cs : List (List ℕ)) → IsLonger seg 32 → length (segments seg i cs) ≡ length (joined cs) + 32 * length cs
length-segments seg i [] long = refl
length-segments seg i (t ∷ []) long = omega (arith, long i true t, length-append t [])
length-segments seg i (t ∷ u ∷ ts) long =
    omega (arith, length-segments seg (i + 1) (u ∷ ts) long, long i false t, length-append t (joined (u ∷ ts)), length-append (seg i false t) (segments seg (i + 1) (u ∷ ts)))

length-sealed : (seg : ℕ → Bool → List ℕ → List ℕ) (a b : ℕ) (R : List ℕ) → IsLonger seg 32 → length (sealed seg a b R) ≡ length (joined (chunks a b R)) + 32 * length (chunks a b R)
unfolding sealed
length-sealed seg a b R long = length-segments seg 0 (chunks a b R) long

-- the stream as its parts
pub large_parts : (n : ℕ) (draws : List ℕ) → large_stream n draws
    ≡ front large_key (salt_of large_key draws) (nonce_prefix_of large_key draws)
    ++ sealed (segment_at large_key (large_keys (salt_of large_key draws)) (nonce_prefix_of large_key draws)) (first_room large_key) (room large_key) (large_text n)
unfolding large_stream
large_parts n draws = sym (stream_is large_key [] (salt_of large_key draws) (nonce_prefix_of large_key draws) (large_keys (salt_of large_key draws)) (large_text n) (large_keys_are (salt_of large_key draws)))

-- the bytes of the stream can be counted
pub large_small : (n : ℕ) (draws : List ℕ) → n < 2 ^ 32 → length (large_stream n draws) < 2 ^ 64
large_small n draws small =
    let seg = segment_at large_key (large_keys (salt_of large_key draws)) (nonce_prefix_of large_key draws) in
    let F = front large_key (salt_of large_key draws) (nonce_prefix_of large_key draws) in
    let Z = sealed seg (first_room large_key) (room large_key) (large_text n) in
    let long = (lawful_at large_key (large_keys (salt_of large_key draws)) (nonce_prefix_of large_key draws) large_usable.tag).longer in
    omega (
      arith,
      ap length (large_parts n draws),
      length-append F Z,
      length-front draws,
      length-sealed seg (first_room large_key) (room large_key) (large_text n) long,
      ap length (joined_text large_key (large_text n) large_usable),
      few_chunks n,
      length-large_text n,
    )

-- the lines of what was measured are those of the number under the draws
pub measured_lines : (n : ℕ) (draws left : List ℕ) (m : Measured) → IsMeasured n draws left m → large_lines m ≡ large_output n draws
unfolding large_output
measured_lines n draws left m i =
    ap (λ k. four_lines k m.stream m.segments m.sha256) i.text ∙ ap (λ k. four_lines (length (large_text n)) k m.segments m.sha256) i.stream
    ∙ ap (λ k. four_lines (length (large_text n)) (length (large_stream n draws)) k m.sha256) i.segments
    ∙ ap (four_lines (length (large_text n)) (length (large_stream n draws)) (chunk_count large_key (large_text n))) i.sha256
