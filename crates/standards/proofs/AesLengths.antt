-- The lengths of AES's words, round keys and blocks.
use Rattle.std.proofs.Common.{◌≡◌, ◌≤◌, ◌<◌, ◌+◌, ◌-◌, ◌*◌, ◌/◌, ◌%◌, ℕ, zero, suc, cond, eqb, ◌&&◌, Bool, true, false, List, [], ◌∷◌, ◌++◌, length, get_or, bit_xor, refl, ap, sym, ◌∙◌, subst, arith, length-append, inl, inr}
use Rattle.std.proofs.lemmas.List.{get_or_append_left, get_or_push, length-map}
use Rattle.std.proofs.lemmas.Simd.{length-zip2}
use Rattle.std.proofs.Math.Nat.{eq-or-lt_of_le}
use Rattle.standards.specs.Aes.{shift_rows, sub_bytes, state_after, add_round_key, key_at}
use Rattle.standards.specs.AesKeys.{aes, keys_of, key_words, mixed, round_key, round_keys, schedule, sub_word, rot_word, word_after, word_at, xor_word, power_of_x}
use Rattle.standards.specs.AesInverse.{aes_inverse, inv_shift_rows, inv_sub_bytes, inv_state_after}

-- an element before a new last one, and that one
pub push_place : {X : Type 0} (xs : List X) (y d : X) (P : X → Type 0) (n i : ℕ) → length xs ≡ n → i < suc n → ((j : ℕ) → j < n → P (get_or xs j d)) → P y → P (get_or (xs ++ y ∷ []) i d)
push_place xs y d P n i l h before here =
    let le : i ≤ n = omega arith in
    elim (eq-or-lt_of_le le) [
      | inl e ↦ subst P (sym (get_or_push xs y d i (l ∙ sym e))) here
      | inr low ↦ subst P (sym (get_or_append_left xs (y ∷ []) d i (rw l low))) (before i low)
    ]

-- there are m of them
pub length-key_words : (key : List ℕ) (m : ℕ) → length (key_words key m) ≡ m
unfolding key_words
length-key_words key zero = refl
length-key_words key (suc m) = omega (arith, length-key_words key m, length-append (key_words key m) (word_at key (4 * m) ∷ []))

-- there are n + m words
pub length-schedule : (n : ℕ) (key : List ℕ) (m : ℕ) → length (schedule n key m) ≡ n + m
unfolding schedule
length-schedule n key zero = omega (arith, length-key_words key n)
length-schedule n key (suc m) = omega (arith, length-schedule n key m, length-append (schedule n key m) (word_after n (schedule n key m) (n + m) ∷ []))

-- four bytes
abbrev pub IsWord : List ℕ → Type 0
IsWord w = length w ≡ 4

xor_is_word : (v w : List ℕ) → IsWord v → IsWord w → IsWord (xor_word v w)
xor_is_word v w p q = length-zip2 bit_xor v w (p ∙ sym q) ∙ p

mixed_is_word : (n : ℕ) (w : List ℕ) (i : ℕ) → IsWord w → IsWord (mixed n w i)
mixed_is_word n w i p = go (eqb (i % n) 0) (eqb n 8 && eqb (i % 8) 4)
  where
    go : (a b : Bool) → IsWord (cond a (xor_word (sub_word (rot_word w)) (power_of_x (i / n - 1) ∷ 0 ∷ 0 ∷ 0 ∷ [])) (cond b (sub_word w) w))
    go true b = refl
    go false true = length-map w _ ∙ p
    go false false = p

key_word : (key : List ℕ) (m i : ℕ) → i < m → IsWord (get_or (key_words key m) i [])
unfolding key_words
key_word key zero i h = absurd (omega arith)
key_word key (suc m) i h = push_place (key_words key m) (word_at key (4 * m)) [] IsWord m i (length-key_words key m) h (key_word key m) refl

-- each word of the schedule has four bytes, for a key of a word or more
pub schedule_word : (n : ℕ) (key : List ℕ) (m i : ℕ) → 0 < n → i < n + m → IsWord (get_or (schedule n key m) i [])
unfolding schedule
schedule_word n key zero i pos h = key_word key n i (omega arith)
schedule_word n key (suc m) i pos h =
    push_place (schedule n key m) (word_after n (schedule n key m) (n + m)) [] IsWord (n + m) i (length-schedule n key m) (omega arith) (λ j k. schedule_word n key m j pos k)
    (xor_is_word _ _ (schedule_word n key m (n + m - n) pos (omega arith)) (mixed_is_word n _ (n + m) (schedule_word n key m (n + m - 1) pos (omega arith))))

-- there are r of them
pub length-round_keys : (ws : List (List ℕ)) (r : ℕ) → length (round_keys ws r) ≡ r
unfolding round_keys
length-round_keys ws zero = refl
length-round_keys ws (suc r) = omega (arith, length-round_keys ws r, length-append (round_keys ws r) (round_key ws r ∷ []))

-- round key i of a list of them
pub get_or-round_keys : (ws : List (List ℕ)) (r i : ℕ) → i < r → get_or (round_keys ws r) i [] ≡ round_key ws i
unfolding round_keys
get_or-round_keys ws zero i h = absurd (omega arith)
get_or-round_keys ws (suc r) i h =
    let le : i ≤ r = omega arith in
    elim (eq-or-lt_of_le le) [
      | inl e ↦ get_or_push (round_keys ws r) (round_key ws r) [] i (length-round_keys ws r ∙ sym e) ∙ ap (round_key ws) (sym e)
      | inr low ↦ get_or_append_left (round_keys ws r) (round_key ws r ∷ []) [] i (rw length-round_keys low) ∙ get_or-round_keys ws r i low
    ]

-- sixteen bytes
abbrev pub IsBlock : List ℕ → Type 0
IsBlock s = length s ≡ 16

four_words : (a b c d : List ℕ) → IsWord a → IsWord b → IsWord c → IsWord d → IsBlock (a ++ b ++ c ++ d)
four_words a b c d p q r s = omega (arith, length-append {A = ℕ}, p, q, r, s)

-- each of the rounds' keys has 16 bytes
pub length-key_at : (key : List ℕ) (i : ℕ) → 4 ≤ length key → i < length key / 4 + 7 → IsBlock (key_at (keys_of key) i)
unfolding keys_of
length-key_at key i long h =
    let n = length key / 4 in
    let m = 4 * (n + 7) - n in
    let pos : 0 < n = omega arith in
    let total : n + m ≡ 4 * (n + 7) = omega arith in
    let word = λ (j : ℕ) (k : j < n + m). schedule_word n key m j pos k in
    rw (get_or-round_keys (schedule n key m) (n + 7) i h) (four_words _ _ _ _ (word (4 * i) (omega arith)) (word (4 * i + 1) (omega arith)) (word (4 * i + 2) (omega arith)) (word (4 * i + 3) (omega arith)))

-- AddRoundKey of a block and a key of its size
pub length-add : (s k : List ℕ) → IsBlock s → IsBlock k → IsBlock (add_round_key s k)
length-add s k p q = length-zip2 bit_xor s k (p ∙ sym q) ∙ p

-- AES gives a block, for a key of a word or more
pub length-aes : (key block : List ℕ) → 4 ≤ length key → length (aes key block) ≡ 16
unfolding aes
length-aes key block long =
    let r = length key / 4 + 6 in
    let ks = keys_of key in
    length-add (shift_rows (sub_bytes (state_after ks block (r - 1)))) (key_at ks r) refl (length-key_at key r long (omega arith))

-- so does its inverse
pub length-aes_inverse : (key block : List ℕ) → 4 ≤ length key → length (aes_inverse key block) ≡ 16
unfolding aes_inverse
length-aes_inverse key block long =
    let r = length key / 4 + 6 in
    let ks = keys_of key in
    length-add (inv_sub_bytes (inv_shift_rows (inv_state_after r ks block (r - 1)))) (key_at ks 0) refl (length-key_at key 0 long (omega arith))
