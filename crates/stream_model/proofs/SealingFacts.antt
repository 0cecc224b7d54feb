-- Numbers of chunks.
use Rattle.std.proofs.Common.{◌≡◌, ◌≤◌, ◌<◌, ◌+◌, ◌-◌, ◌^◌, ℕ, List, [], ◌∷◌, ◌++◌, length, take, refl, sym, ap, ◌∙◌, arith, length-append}
use Rattle.std.proofs.lemmas.List.{take-append-le}
use Rattle.stream_model.specs.Cut.{cut, but_last, chunks, full_chunks, open_chunk, or_one, room_at}
use Rattle.stream_model.specs.Key.{StreamKey, front, keys_of, first_room, room}
use Rattle.stream_model.specs.Sealing.{chunk_count, longest_part, unmarked_under}
use Rattle.stream_model.proofs.CutFacts.{full_chunks-append}

but_last_or_one : (cs : List (List ℕ)) → length (or_one cs) ≡ length (but_last cs) + 1
but_last_or_one [] = refl
but_last_or_one (c ∷ []) = refl
but_last_or_one (c ∷ d ∷ cs) = omega (arith, but_last_or_one (d ∷ cs))

-- one chunk more than the full ones
pub length-chunks : (a b : ℕ) (R : List ℕ) → length (chunks a b R) ≡ length (full_chunks a b R) + 1
unfolding chunks full_chunks
length-chunks a b R = but_last_or_one (cut a b R)

-- a longer text has no fewer chunks
pub chunks_more : (a b : ℕ) (R S : List ℕ) → 0 < a → 0 < b → length (chunks a b R) ≤ length (chunks a b (R ++ S))
chunks_more a b R S p q =
    let more = full_chunks (room_at a b (length (full_chunks a b R))) b (open_chunk a b R ++ S) in
    omega (arith, length-chunks a b R, length-chunks a b (R ++ S), ap length (full_chunks-append a b R S p q), length-append (full_chunks a b R) more)

-- the longest part of a text is that of a longer one
pub longest_part_more : (k : StreamKey) (aad salt prefix R S : List ℕ) → 0 < first_room k → 0 < room k → 2 ^ 32 < chunk_count k R → longest_part k aad salt prefix R ≡ longest_part k aad salt prefix (R ++ S)
unfolding longest_part
longest_part_more k aad salt prefix R S p q many =
    let a = first_room k in
    let b = room k in
    let more = full_chunks (room_at a b (length (full_chunks a b R))) b (open_chunk a b R ++ S) in
    let enough : 2 ^ 32 - 1 ≤ length (full_chunks a b R) = omega (arith, length-chunks a b R) in
    let same : take (2 ^ 32 - 1) (full_chunks a b (R ++ S)) ≡ take (2 ^ 32 - 1) (full_chunks a b R) = ap (take (2 ^ 32 - 1)) (full_chunks-append a b R S p q) ∙ take-append-le (2 ^ 32 - 1) (full_chunks a b R) more enough in
    ap (λ cs. front k salt prefix ++ unmarked_under k (keys_of k aad salt) prefix cs) (sym same)
