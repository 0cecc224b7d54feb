-- A mode over bytes, block by block.
use Rattle.std.proofs.Common.{◌≡◌, ℕ, suc, ◌+◌, ◌-◌, ◌/◌, ◌%◌, ◌≤◌, ◌<◌, List, [], ◌∷◌, ◌++◌, length, take, drop, ap, sym, ◌∙◌, refl, arith, append_assoc, length-append, length-take, length-drop, add-one}
use Rattle.std.proofs.lemmas.List.{take_at, drop_at, drop_all, append-nil, take_all}
use Rattle.std.proofs.Math.Nat.{mod-eq-sub-mod, div-eq-sub-div, zero-div}
use Rattle.std.specs.List.{concat}
use Rattle.std.specs.Simd.{first_chunks}
use Rattle.cipher.specs.Transcript.{Block}
use Rattle.cipher_modes.specs.Steps.{run_of}
use Rattle.cipher_modes.specs.Padded.{blocks_of, bytes_run}
use borrow.Rule.Slice.PartMut.{put_mid}

-- the first block, and then the blocks of the rest
blocks_of-first : (B : ℕ) (bytes : List ℕ) → 0 < B → B ≤ length bytes → blocks_of B bytes ≡ take B bytes ∷ blocks_of B (drop B bytes)
blocks_of-first B bytes some least =
    let count : length bytes / B ≡ suc (length (drop B bytes) / B) = div-eq-sub-div some least ∙ (add-one _ ∙ ap (λ n. suc (n / B)) (sym (length-drop B bytes))) in
    ap (λ k. first_chunks B k bytes) count

blocks_of-none : (B : ℕ) (bytes : List ℕ) → length bytes ≡ 0 → blocks_of B bytes ≡ []
blocks_of-none B bytes none = ap (λ k. first_chunks B (k / B) bytes) none ∙ ap (λ k. first_chunks B k bytes) (zero-div B)

-- what is left to do at a place: the bytes before it are done, and the rest gives the rest
pub record Remains {S : Type 0} (step : S → Block → Block × S) (B : ℕ) (s : S) (cur : List ℕ) (at : ℕ) (wanted : List ℕ) : Type 0 where
  pub within : at ≤ length cur
  pub whole : (length cur - at) % B ≡ 0
  pub gives : take at cur ++ bytes_run step s B (drop at cur) ≡ wanted

pub remains-first : {S : Type 0} (step : S → Block → Block × S) (B : ℕ) (s : S) (bytes : List ℕ) → length bytes % B ≡ 0 → Remains step B s bytes 0 (bytes_run step s B bytes)
remains-first step B s bytes whole = record { within = omega arith; whole = ap (λ n. n % B) (let all : length bytes - 0 ≡ length bytes = omega arith in all) ∙ whole; gives = refl }

-- one block more: ys is the rest with its first block stepped
pub remains-next : {S : Type 0} (step : S → Block → Block × S) (B : ℕ) → 0 < B → ((s : S) (x : Block) → length x ≡ B → length (step s x).0 ≡ B) → (s t : S) (cur ys rest wanted : List ℕ) (at : ℕ)
    → rest ≡ drop at cur → B ≤ length cur - at → Remains step B s cur at wanted → ys ≡ (step s (take B rest)).0 ++ drop B rest → t ≡ (step s (take B rest)).1
    → Remains step B t (put_mid at (length cur - at) cur ys) (at + B) wanted
remains-next {S} step B some sized s t cur ys rest wanted at is least r e se =
    let size_rest : length rest ≡ length cur - at = ap length is ∙ length-drop at cur in
    let block : Block = take B rest in
    let y : Block = (step s block).0 in
    let size_block : length block ≡ B = simp length-take (omega arith) in
    let size_y : length y ≡ B = sized s block size_block in
    let size_ys : length ys ≡ length cur - at = ap length e ∙ simp (length-append, length-drop) (omega arith) in
    let front : List ℕ = take at cur in
    let size_front : length front ≡ at = let w : at ≤ length cur = r.within in simp length-take (omega arith) in
    let none_behind : drop (length cur - at + at) cur ≡ [] = drop_all (length cur - at + at) cur (omega arith) in
    let new : List ℕ = put_mid at (length cur - at) cur ys in
    let is_new : new ≡ front ++ ys =
    let behind : drop (length cur - at) (drop at cur) ≡ [] = drop_all (length cur - at) (drop at cur) (simp length-drop (omega arith)) in
    ap (λ zs. front ++ (ys ++ zs)) behind ∙ ap (λ zs. front ++ zs) (append-nil ys) in
    let apart : front ++ ys ≡ (front ++ y) ++ drop B rest = ap (λ zs. front ++ zs) e ∙ sym (append_assoc front y (drop B rest)) in
    let size_done : length (front ++ y) ≡ at + B = length-append front y ∙ omega arith in
    let size_new : length new ≡ length cur = ap length is_new ∙ (length-append front ys ∙ (let w : at ≤ length cur = r.within in omega arith)) in
    let done : take (at + B) new ≡ front ++ y = ap (take (at + B)) (is_new ∙ apart) ∙ take_at (front ++ y) (drop B rest) (at + B) size_done in
    let left : drop (at + B) new ≡ drop B rest = ap (drop (at + B)) (is_new ∙ apart) ∙ drop_at (front ++ y) (drop B rest) (at + B) size_done in
    let again : bytes_run step s B rest ≡ y ++ bytes_run step (step s block).1 B (drop B rest) =
    ap (λ xs. concat (run_of step s xs)) (blocks_of-first B rest some (omega arith)) in
    record {
      within = let w : at ≤ length cur = r.within in omega arith;
      whole =
          let less : length new - (at + B) ≡ (length cur - at) - B = omega arith in
          ap (λ n. n % B) less ∙ (sym (mod-eq-sub-mod least) ∙ r.whole);
      gives =
          ap (λ xs. xs ++ bytes_run step t B (drop (at + B) new)) done
          ∙ (ap (λ xs. (front ++ y) ++ bytes_run step t B xs) left
          ∙ (ap (λ u. (front ++ y) ++ bytes_run step u B (drop B rest)) se
          ∙ (append_assoc front y (bytes_run step (step s block).1 B (drop B rest))
          ∙ (ap (λ xs. front ++ xs) (sym again) ∙ (ap (λ xs. front ++ bytes_run step s B xs) is ∙ r.gives)))));
    }

-- nothing is left
pub remains-none : {S : Type 0} (step : S → Block → Block × S) (B : ℕ) (s : S) (cur wanted : List ℕ) (at : ℕ) → length cur ≤ at → Remains step B s cur at wanted → cur ≡ wanted
remains-none step B s cur wanted at end r =
    let w : at ≤ length cur = r.within in
    let none : blocks_of B (drop at cur) ≡ [] = blocks_of-none B (drop at cur) (simp length-drop (omega arith)) in
    sym (append-nil cur) ∙ (ap (λ xs. xs ++ []) (sym (take_all at cur end)) ∙ (ap (λ xs. take at cur ++ concat (run_of step s xs)) (sym none) ∙ r.gives))
