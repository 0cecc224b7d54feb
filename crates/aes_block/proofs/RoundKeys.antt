-- The round keys of a schedule, and the key that stands in front of them.
use Rattle.std.proofs.Common.{◌≡◌, inl, inr, ℕ, zero, suc, ◌+◌, ◌-◌, ◌*◌, ◌/◌, ◌<◌, ◌≤◌, List, [], ◌∷◌, ◌++◌, length, take, set, get_or, refl, sym, ap, ◌∙◌, subst, arith, lit<}
use Rattle.std.proofs.lemmas.List.{get_or-take, get_or_append_left, get_or_push, take_more_set}
use Rattle.std.proofs.lemmas.Simd.{pick_l_whole}
use Rattle.std.proofs.Math.Nat.{eq-or-lt_of_le}
use Rattle.standards.specs.Aes.{cipher}
use Rattle.standards.specs.AesInverse.{aes_inverse, inv_cipher}
use Rattle.standards.specs.AesKeys.{aes, key_words, keys_of, round_key, round_keys, schedule, word_after, word_at}
use Rattle.standards.proofs.AesLengths.{get_or-round_keys, length-key_words, length-schedule}
use Rattle.aes_block.specs.Ciphers.{IsKeySize}
use Rattle.aes_block.specs.Schedules.{IsSchedule, cipher_key}
use Rattle.aes_block.proofs.Rounds.{cipher-take, inv_cipher-take}

-- one round key more
pub one_key_more : (ws keys : List (List ℕ)) (key : List ℕ) (r : ℕ) → r < length keys → take r keys ≡ round_keys ws r → key ≡ round_key ws r → take (r + 1) (set keys r key) ≡ round_keys ws (r + 1)
unfolding round_keys
one_key_more ws keys key r h e f =
    let s : r + 1 ≡ suc r = omega arith in
    take_more_set keys r key h ∙ ap (λ l. l ++ key ∷ []) e ∙ ap (λ v. round_keys ws r ++ v ∷ []) f ∙ ap (round_keys ws) (sym s)

word_of_key : (key : List ℕ) (m i : ℕ) → i < m → get_or (key_words key m) i [] ≡ word_at key (4 * i)
unfolding key_words
word_of_key key zero i h = absurd (omega arith)
word_of_key key (suc m) i h =
    let le : i ≤ m = omega arith in
    elim (eq-or-lt_of_le le) [
      | inl e ↦ get_or_push (key_words key m) (word_at key (4 * m)) [] i (length-key_words key m ∙ sym e) ∙ ap (λ n. word_at key (4 * n)) (sym e)
      | inr low ↦ get_or_append_left (key_words key m) (word_at key (4 * m) ∷ []) [] i (rw length-key_words low) ∙ word_of_key key m i low
    ]

-- the first n words of a schedule are the key's
word_of_schedule : (n : ℕ) (key : List ℕ) (m i : ℕ) → i < n → get_or (schedule n key m) i [] ≡ word_at key (4 * i)
unfolding schedule
word_of_schedule n key zero i h = word_of_key key n i h
word_of_schedule n key (suc m) i h =
    get_or_append_left (schedule n key m) (word_after n (schedule n key m) (n + m) ∷ []) [] i (rw length-schedule (omega arith)) ∙ word_of_schedule n key m i h

-- the words that begin a schedule
abbrev Begins : List (List ℕ) → List ℕ → ℕ → Type 0
Begins ws key n = (i : ℕ) → i < n → get_or ws i [] ≡ word_at key (4 * i)

-- so the key stands in front of two round keys
key_16 : (ws : List (List ℕ)) (key : List ℕ) → length key ≡ 16 → Begins ws key 4 → take 16 (round_key ws 0 ++ round_key ws 1) ≡ key
key_16 ws key l b = rw (b 0 (lit< tt), b 1 (lit< tt), b 2 (lit< tt), b 3 (lit< tt)) (pick_l_whole 0 key 16 l)

key_24 : (ws : List (List ℕ)) (key : List ℕ) → length key ≡ 24 → Begins ws key 6 → take 24 (round_key ws 0 ++ round_key ws 1) ≡ key
key_24 ws key l b = rw (b 0 (lit< tt), b 1 (lit< tt), b 2 (lit< tt), b 3 (lit< tt), b 4 (lit< tt), b 5 (lit< tt)) (pick_l_whole 0 key 24 l)

key_32 : (ws : List (List ℕ)) (key : List ℕ) → length key ≡ 32 → Begins ws key 8 → take 32 (round_key ws 0 ++ round_key ws 1) ≡ key
key_32 ws key l b =
    rw (b 0 (lit< tt), b 1 (lit< tt), b 2 (lit< tt), b 3 (lit< tt), b 4 (lit< tt), b 5 (lit< tt), b 6 (lit< tt), b 7 (lit< tt)) (pick_l_whole 0 key 32 l)

-- the words behind those of the rounds do not matter
round_keys-take : (ws : List (List ℕ)) (m r : ℕ) → 4 * r ≤ m → round_keys (take m ws) r ≡ round_keys ws r
unfolding round_keys
round_keys-take ws m zero h = refl
round_keys-take ws m (suc r) h =
    let here = λ (i : ℕ) (k : i < m). get_or-take m ws i [] k in
    let same : round_key (take m ws) r ≡ round_key ws r = rw (here (4 * r) (omega arith), here (4 * r + 1) (omega arith), here (4 * r + 2) (omega arith), here (4 * r + 3) (omega arith)) refl in
    ap (λ k. round_keys (take m ws) r ++ k ∷ []) same ∙ ap (λ ks. ks ++ round_key ws r ∷ []) (round_keys-take ws m r (omega arith))

rounds_of_key : (ks : List (List ℕ)) (rounds : ℕ) (key : List ℕ) → IsSchedule ks rounds → cipher_key ks rounds ≡ key → rounds ≡ length key / 4 + 6
rounds_of_key ks rounds key s v =
    elim s.count [
      | inl a ↦ omega (arith, s.size, ap length v)
      | inr more ↦ elim more [ inl a ↦ omega (arith, s.size, ap length v) | inr a ↦ omega (arith, s.size, ap length v) ]
    ]

-- a block enciphered under the round keys of a key
pub enciphered : (ks : List (List ℕ)) (rounds : ℕ) (key block : List ℕ) → IsSchedule ks rounds → cipher_key ks rounds ≡ key → cipher rounds ks block ≡ aes key block
unfolding aes
enciphered ks rounds key block s v =
    sym (cipher-take ks block rounds) ∙ ap (λ k. cipher rounds k block) (s.keys ∙ ap keys_of v) ∙ ap (λ r. cipher r (keys_of key) block) (rounds_of_key ks rounds key s v)

-- a block deciphered under them
pub deciphered : (ks : List (List ℕ)) (rounds : ℕ) (key block : List ℕ) → IsSchedule ks rounds → cipher_key ks rounds ≡ key → inv_cipher rounds ks block ≡ aes_inverse key block
unfolding aes_inverse
deciphered ks rounds key block s v =
    sym (inv_cipher-take ks block rounds) ∙ ap (λ k. inv_cipher rounds k block) (s.keys ∙ ap keys_of v) ∙ ap (λ r. inv_cipher r (keys_of key) block) (rounds_of_key ks rounds key s v)

-- the key in front of the round keys
key_in_front : (ks ws : List (List ℕ)) (key : List ℕ) (n : ℕ) → IsKeySize (length key) → n ≡ length key / 4 → take (n + 6 + 1) ks ≡ round_keys ws (n + 6 + 1)
    → Begins ws key n → cipher_key ks (n + 6) ≡ key
key_in_front ks ws key n sizes count keys b =
    let at = λ (i : ℕ) (h : i < n + 6 + 1). sym (get_or-take (n + 6 + 1) ks i [] h) ∙ ap (λ k. get_or k i []) keys ∙ get_or-round_keys ws (n + 6 + 1) i h in
    let here = ap (λ k. take (4 * (n + 6 - 6)) (k ++ get_or ks 1 [])) (at 0 (omega arith)) ∙ ap (λ k. take (4 * (n + 6 - 6)) (round_key ws 0 ++ k)) (at 1 (omega arith)) in
    let front = λ (m : ℕ) (e : 4 * (n + 6 - 6) ≡ m). here ∙ ap (λ m. take m (round_key ws 0 ++ round_key ws 1)) e in
    elim sizes [
      | inl a ↦ let four : n ≡ 4 = omega arith in front 16 (omega arith) ∙ key_16 ws key a (subst (Begins ws key) four b)
      | inr more ↦ elim more [
        | inl a ↦ let six : n ≡ 6 = omega arith in front 24 (omega arith) ∙ key_24 ws key a (subst (Begins ws key) six b)
        | inr a ↦ let eight : n ≡ 8 = omega arith in front 32 (omega arith) ∙ key_32 ws key a (subst (Begins ws key) eight b)
      ]
    ]

scheduled : {ks : List (List ℕ)} (words : List (List ℕ)) (key : List ℕ) (n r : ℕ) → take (4 * n + 28) words ≡ schedule n key (3 * n + 28) → 4 * r ≤ 4 * n + 28 → ks ≡ round_keys words r
    → ks ≡ round_keys (schedule n key (3 * n + 28)) r
scheduled words key n r front h keys = keys ∙ sym (round_keys-take words (4 * n + 28) r h) ∙ ap (λ w. round_keys w r) front

-- a schedule as a prefix of a buffer, joined to round keys
pub view_of_new : (ks words : List (List ℕ)) (key : List ℕ) (n : ℕ) → IsKeySize (length key) → n ≡ length key / 4 → take (n + 6 + 1) ks ≡ round_keys words (n + 6 + 1)
    → take (4 * n + 28) words ≡ schedule n key (3 * n + 28) → cipher_key ks (n + 6) ≡ key
view_of_new ks words key n sizes count keys front =
    key_in_front ks (schedule n key (3 * n + 28)) key n sizes count (scheduled words key n (n + 6 + 1) front (omega arith) keys) (λ i h. word_of_schedule n key (3 * n + 28) i h)

-- such round keys are a key's schedule
pub schedule_of_new : (ks words : List (List ℕ)) (key : List ℕ) (n : ℕ) → IsKeySize (length key) → n ≡ length key / 4 → take (n + 6 + 1) ks ≡ round_keys words (n + 6 + 1)
    → take (4 * n + 28) words ≡ schedule n key (3 * n + 28) → IsSchedule ks (n + 6)
unfolding keys_of
schedule_of_new ks words key n sizes count keys front =
    let view = view_of_new ks words key n sizes count keys front in
    let rounds : n + 6 + 1 ≡ length key / 4 + 7 = omega arith in
    let more : 3 * n + 28 ≡ 4 * (length key / 4 + 7) - length key / 4 = omega arith in
    record {
      size = ap length view ∙ elim sizes [ inl a ↦ omega arith | inr g ↦ elim g [ inl a ↦ omega arith | inr a ↦ omega arith ] ];
      count = elim sizes [ inl a ↦ inl (omega arith) | inr g ↦ elim g [ inl a ↦ inr (inl (omega arith)) | inr a ↦ inr (inr (omega arith)) ] ];
      keys =
          scheduled words key n (n + 6 + 1) front (omega arith) keys
          ∙ ap (λ m. round_keys (schedule n key m) (n + 6 + 1)) more
          ∙ ap (λ m. round_keys (schedule m key (4 * (length key / 4 + 7) - length key / 4)) (n + 6 + 1)) count
          ∙ ap (round_keys (schedule (length key / 4) key (4 * (length key / 4 + 7) - length key / 4))) rounds
          ∙ ap keys_of (sym view);
    }
