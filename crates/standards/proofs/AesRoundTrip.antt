-- AES and its inverse undo each other, on blocks of 16 bytes under any key of a word or more.
use Rattle.std.proofs.Common.{◌≡◌, ◌≤◌, ◌+◌, ◌-◌, ◌/◌, ℕ, zero, suc, List, length, refl, sym, ap, ◌∙◌, arith}
use Rattle.std.proofs.lemmas.List.{length-map}
use Rattle.standards.specs.Lists.{AreBytes}
use Rattle.standards.specs.Aes.{add_round_key, cipher, key_at, mix_columns, shift_rows, state_after, sub_byte, sub_bytes}
use Rattle.standards.specs.AesKeys.{aes, keys_of}
use Rattle.standards.specs.AesInverse.{aes_inverse, inv_cipher, inv_mix_columns, inv_shift_rows, inv_state_after, inv_sub_byte, inv_sub_bytes}
use Rattle.standards.proofs.AesLengths.{IsBlock, length-add, length-key_at}
use Rattle.standards.proofs.AesUndo.{add_round_key_twice, inv_mix_columns-mix_columns, inv_shift_rows-shift_rows, inv_sub_bytes-sub_bytes, mix_columns-inv_mix_columns, shift_rows-inv_shift_rows, sub_bytes-inv_sub_bytes}
use Rattle.standards.proofs.AreBytes.{AreBytes-map, AreBytes-zip2}
use Rattle.standards.proofs.AesBytes.{AreBytes-inv_shift_rows, AreBytes-inv_state_after, AreBytes-key_at, AreBytes-shift_rows, AreBytes-state_after}
use Rattle.standards.proofs.Bytes.{inv_sub_byte_below, sub_byte_below}

-- the round keys 0 to r are blocks of bytes
pub record AreKeys (ks : List (List ℕ)) (r : ℕ) : Type 0 where
  size : (i : ℕ) → i ≤ r → IsBlock (key_at ks i)
  bytes : (i : ℕ) → i ≤ r → AreBytes (key_at ks i)

-- what SubBytes and ShiftRows did
unrolled : (s : List ℕ) → IsBlock s → AreBytes s → inv_sub_bytes (inv_shift_rows (shift_rows (sub_bytes s))) ≡ s
unrolled s e h = ap inv_sub_bytes (inv_shift_rows-shift_rows (sub_bytes s) (length-map s sub_byte ∙ e)) ∙ inv_sub_bytes-sub_bytes s h

rolled : (s : List ℕ) → IsBlock s → AreBytes s → shift_rows (sub_bytes (inv_sub_bytes (inv_shift_rows s))) ≡ s
rolled s e h = ap shift_rows (sub_bytes-inv_sub_bytes (inv_shift_rows s) (AreBytes-inv_shift_rows s h)) ∙ shift_rows-inv_shift_rows s e

state_block : (ks : List (List ℕ)) (s : List ℕ) (r n : ℕ) → n ≤ r → IsBlock s → AreKeys ks r → IsBlock (state_after ks s n)
unfolding state_after
state_block ks s r zero l e k = length-add s (key_at ks 0) e (k.size 0 (omega arith))
state_block ks s r (suc n) l e k = length-add (mix_columns (shift_rows (sub_bytes (state_after ks s n)))) (key_at ks (suc n)) refl (k.size (suc n) l)

inv_state_block : (r : ℕ) (ks : List (List ℕ)) (s : List ℕ) (n : ℕ) → IsBlock s → AreKeys ks r → IsBlock (inv_state_after r ks s n)
unfolding inv_state_after
inv_state_block r ks s zero e k = length-add s (key_at ks r) e (k.size r (omega arith))
inv_state_block r ks s (suc n) e k = refl

-- one round back
round_back : (ks : List (List ℕ)) (s : List ℕ) (r n : ℕ) → suc n ≤ r → IsBlock s → AreBytes s → AreKeys ks r
    → inv_mix_columns (add_round_key (state_after ks s (suc n)) (key_at ks (suc n))) ≡ shift_rows (sub_bytes (state_after ks s n))
unfolding state_after
round_back ks s r n l e h k =
    let t = shift_rows (sub_bytes (state_after ks s n)) in
    let b = AreBytes-state_after ks s n h (λ i j. k.bytes i (omega arith)) in
    ap inv_mix_columns (add_round_key_twice (mix_columns t) (key_at ks (suc n)) (sym (k.size (suc n) l)))
    ∙ inv_mix_columns-mix_columns t refl (AreBytes-shift_rows (sub_bytes (state_after ks s n)) (AreBytes-map sub_byte (state_after ks s n) sub_byte_below b))

-- after n rounds the inverse has gone back before the last n rounds of the cipher but for ShiftRows and SubBytes
back : (ks : List (List ℕ)) (s : List ℕ) (r n m : ℕ) → suc (m + n) ≡ r → IsBlock s → AreBytes s → AreKeys ks r
    → inv_state_after r ks (cipher r ks s) n ≡ shift_rows (sub_bytes (state_after ks s m))
unfolding inv_state_after
back ks s r zero m e p h k =
    let last : r - 1 ≡ m = omega arith in
    add_round_key_twice (shift_rows (sub_bytes (state_after ks s (r - 1)))) (key_at ks r) (sym (k.size r (omega arith)))
    ∙ ap (λ i. shift_rows (sub_bytes (state_after ks s i))) last
back ks s r (suc n) m e p h k =
    let at : r - suc n ≡ suc m = omega arith in
    let t = state_after ks s (suc m) in
    ap (λ v. inv_mix_columns (add_round_key (inv_sub_bytes (inv_shift_rows v)) (key_at ks (r - suc n)))) (back ks s r n (suc m) (omega arith) p h k)
    ∙ ap (λ v. inv_mix_columns (add_round_key v (key_at ks (r - suc n)))) (unrolled t (state_block ks s r (suc m) (omega arith) p k) (AreBytes-state_after ks s (suc m) h (λ i j. k.bytes i (omega arith))))
    ∙ ap (λ i. inv_mix_columns (add_round_key t (key_at ks i))) at
    ∙ round_back ks s r m (omega arith) p h k

start : (ks : List (List ℕ)) (s : List ℕ) → state_after ks s 0 ≡ add_round_key s (key_at ks 0)
unfolding state_after
start ks s = refl

inv_start : (r : ℕ) (ks : List (List ℕ)) (s : List ℕ) → inv_state_after r ks s 0 ≡ add_round_key s (key_at ks r)
unfolding inv_state_after
inv_start r ks s = refl

-- the inverse cipher undoes the cipher
pub inv_cipher-cipher : (r : ℕ) (ks : List (List ℕ)) (s : List ℕ) → 1 ≤ r → IsBlock s → AreBytes s → AreKeys ks r → inv_cipher r ks (cipher r ks s) ≡ s
inv_cipher-cipher r ks s pos e h k =
    ap (λ v. add_round_key (inv_sub_bytes (inv_shift_rows v)) (key_at ks 0)) (back ks s r (r - 1) 0 (omega arith) e h k)
    ∙ ap (λ v. add_round_key v (key_at ks 0)) (unrolled (state_after ks s 0) (state_block ks s r 0 (omega arith) e k) (AreBytes-state_after ks s 0 h (λ i j. k.bytes i (omega arith))) ∙ start ks s)
    ∙ add_round_key_twice s (key_at ks 0) (e ∙ sym (k.size 0 (omega arith)))

-- one round on again
round_on : (r : ℕ) (ks : List (List ℕ)) (s : List ℕ) (n : ℕ) → suc n ≤ r → IsBlock s → AreBytes s → AreKeys ks r
    → add_round_key (mix_columns (inv_state_after r ks s (suc n))) (key_at ks (r - suc n)) ≡ inv_sub_bytes (inv_shift_rows (inv_state_after r ks s n))
unfolding inv_state_after
round_on r ks s n l e h k =
    let t = inv_state_after r ks s n in
    let u = inv_sub_bytes (inv_shift_rows t) in
    let key = key_at ks (r - suc n) in
    let size = k.size (r - suc n) (omega arith) in
    let b = AreBytes-inv_state_after r ks s n h k.bytes in
    ap (λ v. add_round_key v key)
    (mix_columns-inv_mix_columns (add_round_key u key) (length-add u key refl size)
    (AreBytes-zip2 u key (AreBytes-map inv_sub_byte (inv_shift_rows t) inv_sub_byte_below (AreBytes-inv_shift_rows t b)) (k.bytes (r - suc n) (omega arith))))
    ∙ add_round_key_twice u key (sym size)

-- after n rounds the cipher has gone on behind the last n rounds of the inverse but for InvShiftRows and InvSubBytes
on : (r : ℕ) (ks : List (List ℕ)) (s : List ℕ) (n m : ℕ) → suc (m + n) ≡ r → IsBlock s → AreBytes s → AreKeys ks r
    → state_after ks (inv_cipher r ks s) n ≡ inv_sub_bytes (inv_shift_rows (inv_state_after r ks s m))
unfolding state_after
on r ks s zero m e p h k =
    let last : r - 1 ≡ m = omega arith in
    add_round_key_twice (inv_sub_bytes (inv_shift_rows (inv_state_after r ks s (r - 1)))) (key_at ks 0) (sym (k.size 0 (omega arith)))
    ∙ ap (λ i. inv_sub_bytes (inv_shift_rows (inv_state_after r ks s i))) last
on r ks s (suc n) m e p h k =
    let at : suc n ≡ r - suc m = omega arith in
    let t = inv_state_after r ks s (suc m) in
    ap (λ v. add_round_key (mix_columns (shift_rows (sub_bytes v))) (key_at ks (suc n))) (on r ks s n (suc m) (omega arith) p h k)
    ∙ ap (λ v. add_round_key (mix_columns v) (key_at ks (suc n))) (rolled t (inv_state_block r ks s (suc m) p k) (AreBytes-inv_state_after r ks s (suc m) h k.bytes))
    ∙ ap (λ i. add_round_key (mix_columns t) (key_at ks i)) at
    ∙ round_on r ks s m (omega arith) p h k

-- the cipher undoes the inverse cipher
pub cipher-inv_cipher : (r : ℕ) (ks : List (List ℕ)) (s : List ℕ) → 1 ≤ r → IsBlock s → AreBytes s → AreKeys ks r → cipher r ks (inv_cipher r ks s) ≡ s
cipher-inv_cipher r ks s pos e h k =
    ap (λ v. add_round_key (shift_rows (sub_bytes v)) (key_at ks r)) (on r ks s (r - 1) 0 (omega arith) e h k)
    ∙ ap (λ v. add_round_key v (key_at ks r)) (rolled (inv_state_after r ks s 0) (inv_state_block r ks s 0 e k) (AreBytes-inv_state_after r ks s 0 h k.bytes) ∙ inv_start r ks s)
    ∙ add_round_key_twice s (key_at ks r) (e ∙ sym (k.size r (omega arith)))

-- the round keys of a key of bytes
pub keys_are : (key : List ℕ) → AreBytes key → 4 ≤ length key → AreKeys (keys_of key) (length key / 4 + 6)
keys_are key h long = record { size = λ i l. length-key_at key i long (omega arith); bytes = λ i l. AreBytes-key_at key i h long (omega arith) }

-- deciphering undoes enciphering
pub aes_inverse-aes : (key block : List ℕ) → 4 ≤ length key → length block ≡ 16 → AreBytes key → AreBytes block → aes_inverse key (aes key block) ≡ block
unfolding aes aes_inverse
aes_inverse-aes key block long e h b = inv_cipher-cipher (length key / 4 + 6) (keys_of key) block (omega arith) e b (keys_are key h long)

-- enciphering undoes deciphering
pub aes-aes_inverse : (key block : List ℕ) → 4 ≤ length key → length block ≡ 16 → AreBytes key → AreBytes block → aes key (aes_inverse key block) ≡ block
unfolding aes aes_inverse
aes-aes_inverse key block long e h b = cipher-inv_cipher (length key / 4 + 6) (keys_of key) block (omega arith) e b (keys_are key h long)
