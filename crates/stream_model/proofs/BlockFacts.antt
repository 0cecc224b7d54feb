-- No block is asked for twice under one stream's keys.
use Rattle.std.proofs.Common.{◌≡◌, ◌≤◌, ◌<◌, ◌+◌, ◌-◌, ◌*◌, ◌%◌, ◌^◌, ℕ, zero, suc, Bool, true, false, List, [], ◌∷◌, ◌++◌, length, take, drop, get_or, refl, ap, ap₂, sym, ◌∙◌, arith, length-append, append_assoc, length-take}
use Rattle.std.specs.Prelude.{replicate, nat_le}
use Rattle.std.proofs.lemmas.Bool.Decides.{nat_tests}
use Rattle.std.proofs.lemmas.List.{drop_at, take_at}
use Rattle.std.specs.Int.{w32, w64, byte_at, byte_len, from_be_bytes, to_be_bytes}
use Rattle.hash_keys.specs.Hash.{hmac_of}
use Rattle.standards.specs.AesKeys.{aes}
use Rattle.standards.specs.Counter.{ctr, keystream, plus_be}
use Rattle.standards.specs.Gcm.{first_block, gcm, gcm_tag}
use Rattle.standards.specs.Ghash.{ghash}
use Rattle.standards.specs.Lists.{AreBytes, xor_bytes}
use Rattle.standards.proofs.AreBytes.{AreBytes-cons}
use Rattle.standards.proofs.ByteOrder.{AreBytes-to_be_bytes, from_be_bytes-to_be_bytes, from_be_bytes_below, to_be_bytes-from_be_bytes}
use Rattle.stream_model.specs.Blocks.{AsksForItsOwn, BlocksDiffer, NoneIsZero, StreamBlocksDiffer, block_count, enciphered, zero_block}
use Rattle.stream_model.specs.Cut.{chunks, cut, cut_in, mark, nonce, or_one}
use Rattle.stream_model.specs.Key.{first_room, room}
use Rattle.stream_model.specs.Key.SegmentKind.{CtrHmac, Gcm}

-- ---- a block by its parts

-- prefix, number, mark and a last number, each in its own bytes
abbrev parts : List ℕ → ℕ → Bool → ℕ → List ℕ
parts prefix i last c = prefix ++ (to_be_bytes w32 i ++ (mark last ∷ to_be_bytes w32 c))

-- the high and the low half of a number of eight bytes
halves : (a b c d e f g h : ℕ) → from_be_bytes w64 (a ∷ b ∷ c ∷ d ∷ e ∷ f ∷ g ∷ h ∷ [])
    ≡ from_be_bytes w64 (a ∷ b ∷ c ∷ d ∷ 0 ∷ 0 ∷ 0 ∷ 0 ∷ []) + from_be_bytes w32 (e ∷ f ∷ g ∷ h ∷ [])
halves a b c d e f g h = omega arith

-- a number of four bytes that is added to four bytes of zeros stands there
added : (a b c d j : ℕ) → a < 256 → b < 256 → c < 256 → d < 256 → j < 2 ^ 32
    → to_be_bytes w64 ((from_be_bytes w64 (a ∷ b ∷ c ∷ d ∷ 0 ∷ 0 ∷ 0 ∷ 0 ∷ []) + j) % 2 ^ (8 * byte_len w64))
    ≡ a ∷ b ∷ c ∷ d ∷ to_be_bytes w32 j
added a b c d j p q r s h =
    let bytes = a ∷ b ∷ c ∷ d ∷ to_be_bytes w32 j in
    let are : AreBytes bytes =
    AreBytes-cons a (b ∷ c ∷ d ∷ to_be_bytes w32 j) p (AreBytes-cons b (c ∷ d ∷ to_be_bytes w32 j) q
    (AreBytes-cons c (d ∷ to_be_bytes w32 j) r (AreBytes-cons d (to_be_bytes w32 j) s (AreBytes-to_be_bytes w32 j)))) in
    let value : from_be_bytes w64 bytes ≡ from_be_bytes w64 (a ∷ b ∷ c ∷ d ∷ 0 ∷ 0 ∷ 0 ∷ 0 ∷ []) + j =
    halves a b c d (byte_at 3 j) (byte_at 2 j) (byte_at 1 j) (byte_at 0 j)
    ∙ ap (λ n. from_be_bytes w64 (a ∷ b ∷ c ∷ d ∷ 0 ∷ 0 ∷ 0 ∷ 0 ∷ []) + n) (from_be_bytes-to_be_bytes w32 j h) in
    let below = from_be_bytes_below w64 bytes refl are in
    let fits : from_be_bytes w64 bytes % 2 ^ (8 * byte_len w64) ≡ from_be_bytes w64 bytes = omega (arith, below) in
    ap (λ n. to_be_bytes w64 (n % 2 ^ (8 * byte_len w64))) (sym value) ∙ ap (to_be_bytes w64) fits
    ∙ to_be_bytes-from_be_bytes w64 bytes refl are

byte_fits : (i n : ℕ) → byte_at i n < 256
byte_fits zero n = omega arith
byte_fits (suc i) n = omega arith

mark_fits : (last : Bool) → mark last < 256
mark_fits true = omega arith
mark_fits false = omega arith

nonce_of_16 : (prefix : List ℕ) (i : ℕ) (last : Bool) → length prefix ≡ 7
    → nonce 16 prefix i last ≡ prefix ++ (to_be_bytes w32 i ++ (mark last ∷ 0 ∷ 0 ∷ 0 ∷ 0 ∷ []))
nonce_of_16 prefix i last e =
    ap (λ n. prefix ++ to_be_bytes w32 i ++ mark last ∷ replicate (16 - (n + 5)) 0) e
    ∙ append_assoc prefix (to_be_bytes w32 i) (mark last ∷ 0 ∷ 0 ∷ 0 ∷ 0 ∷ [])

nonce_of_12 : (prefix : List ℕ) (i : ℕ) (last : Bool) → length prefix ≡ 7
    → nonce 12 prefix i last ≡ prefix ++ (to_be_bytes w32 i ++ (mark last ∷ []))
nonce_of_12 prefix i last e =
    ap (λ n. prefix ++ to_be_bytes w32 i ++ mark last ∷ replicate (12 - (n + 5)) 0) e
    ∙ append_assoc prefix (to_be_bytes w32 i) (mark last ∷ [])

nonce_has_12 : (prefix : List ℕ) (i : ℕ) (last : Bool) → length prefix ≡ 7 → length (nonce 12 prefix i last) ≡ 12
nonce_has_12 prefix i last e =
    omega (arith, ap length (nonce_of_12 prefix i last e), e, length-append prefix (to_be_bytes w32 i ++ (mark last ∷ [])))

-- eight bytes in front of eight that are counted in
counted : (front back : List ℕ) (j : ℕ) → length front ≡ 8 → length back ≡ 8
    → plus_be w64 (front ++ back) j ≡ front ++ to_be_bytes w64 ((from_be_bytes w64 back + j) % 2 ^ (8 * byte_len w64))
counted front back j e f =
    let at : length (front ++ back) - byte_len w64 ≡ 8 = omega (arith, length-append front back, e, f) in
    ap₂ (λ xs ys. xs ++ to_be_bytes w64 ((from_be_bytes w64 ys + j) % 2 ^ (8 * byte_len w64)))
    (ap (λ n. take n (front ++ back)) at ∙ take_at front back 8 e)
    (ap (λ n. drop n (front ++ back)) at ∙ drop_at front back 8 e)

ctr_parts : (prefix : List ℕ) (i : ℕ) (last : Bool) (j : ℕ) → length prefix ≡ 7 → j < 2 ^ 32
    → plus_be w64 (nonce 16 prefix i last) j ≡ parts prefix i last j
ctr_parts prefix i last j e h =
    let front = prefix ++ byte_at 3 i ∷ [] in
    let back = byte_at 2 i ∷ byte_at 1 i ∷ byte_at 0 i ∷ mark last ∷ 0 ∷ 0 ∷ 0 ∷ 0 ∷ [] in
    let eight : length front ≡ 8 = omega (arith, length-append prefix (byte_at 3 i ∷ []), e) in
    ap (λ b. plus_be w64 b j) (nonce_of_16 prefix i last e ∙ sym (append_assoc prefix (byte_at 3 i ∷ []) back))
    ∙ counted front back j eight refl
    ∙ ap (λ ys. front ++ ys) (added (byte_at 2 i) (byte_at 1 i) (byte_at 0 i) (mark last) j
    (byte_fits 2 i) (byte_fits 1 i) (byte_fits 0 i) (mark_fits last) h)
    ∙ append_assoc prefix (byte_at 3 i ∷ [])
    (byte_at 2 i ∷ byte_at 1 i ∷ byte_at 0 i ∷ mark last ∷ to_be_bytes w32 j)

gcm_parts : (prefix : List ℕ) (i : ℕ) (last : Bool) (c : ℕ) → length prefix ≡ 7
    → nonce 12 prefix i last ++ to_be_bytes w32 c ≡ parts prefix i last c
gcm_parts prefix i last c e =
    ap (λ n. n ++ to_be_bytes w32 c) (nonce_of_12 prefix i last e)
    ∙ append_assoc prefix (to_be_bytes w32 i ++ mark last ∷ []) (to_be_bytes w32 c)

-- ---- equal blocks have equal parts

number_same : (i m : ℕ) → i < 2 ^ 32 → m < 2 ^ 32 → to_be_bytes w32 i ≡ to_be_bytes w32 m → i ≡ m
number_same i m p q e =
    sym (from_be_bytes-to_be_bytes w32 i p) ∙ ap (from_be_bytes w32) e ∙ from_be_bytes-to_be_bytes w32 m q

mark_same : (last final : Bool) → mark last ≡ mark final → last ≡ final
mark_same true true e = refl
mark_same true false e = absurd (omega (arith, e))
mark_same false true e = absurd (omega (arith, e))
mark_same false false e = refl

parts_same : (prefix : List ℕ) (i m c d : ℕ) (last final : Bool) → i < 2 ^ 32 → m < 2 ^ 32 → c < 2 ^ 32 → d < 2 ^ 32
    → parts prefix i last c ≡ parts prefix m final d → (i ≡ m) × (last ≡ final) × (c ≡ d)
parts_same prefix i m c d last final p q r s e =
    let one = to_be_bytes w32 i ++ (mark last ∷ to_be_bytes w32 c) in
    let two = to_be_bytes w32 m ++ (mark final ∷ to_be_bytes w32 d) in
    let tail : one ≡ two =
    sym (drop_at prefix one (length prefix) refl) ∙ ap (drop (length prefix)) e ∙ drop_at prefix two (length prefix) refl in (
      number_same i m p q (ap (take 4) tail),
      mark_same last final (ap (λ bs. get_or bs 4 0) tail),
      number_same c d r s (ap (drop 5) tail),
    )

-- ---- the laws

pub blocks_differ : BlocksDiffer
blocks_differ (CtrHmac hash tag) prefix text other i m j n last final e p q l k asked again same =
    let a : j < 2 ^ 32 = omega (arith, asked, l) in
    let b : n < 2 ^ 32 = omega (arith, again, k) in
    parts_same prefix i m j n last final p q a b
    (sym (ctr_parts prefix i last j e a) ∙ same ∙ ctr_parts prefix m final n e b)
blocks_differ Gcm prefix text other i m j n last final e p q l k asked again same =
    let a : j + 1 < 2 ^ 32 = omega (arith, asked, l) in
    let b : n + 1 < 2 ^ 32 = omega (arith, again, k) in
    let all = parts_same prefix i m (j + 1) (n + 1) last final p q a b
    (sym (gcm_parts prefix i last (j + 1) e) ∙ same ∙ gcm_parts prefix m final (n + 1) e) in
    (all.0, all.1, omega (arith, all.2))

-- no chunk is longer than its room
within : (turns a b : ℕ) (R : List ℕ) (i : ℕ) → a ≤ b → length (get_or (cut_in turns a b R) i []) ≤ b
within zero a b R i h = omega arith
within (suc turns) a b [] i h = omega arith
within (suc turns) a b (x ∷ R) i h = go (nat_le (length (x ∷ R)) a) refl i (λ n. within turns b b (drop a (x ∷ R)) n (omega arith))
  where
    go : (v : Bool) → nat_le (length (x ∷ R)) a ≡ v → (i : ℕ)
        → ((n : ℕ) → length (get_or (cut_in turns b b (drop a (x ∷ R))) n []) ≤ b)
        → length (get_or (cut_in (suc turns) a b (x ∷ R)) i []) ≤ b
    go true e zero more = rw e (grind (arith, nat_tests))
    go true e (suc i) more = rw e (omega arith)
    go false e zero more = rw e (omega (arith, h, length-take a (x ∷ R)))
    go false e (suc i) more = rw e (more i)

one_within : (cs : List (List ℕ)) (b i : ℕ) → length (get_or cs i []) ≤ b → length (get_or (or_one cs) i []) ≤ b
one_within [] b zero h = h
one_within [] b (suc i) h = h
one_within (c ∷ cs) b i h = h

chunk_within : (a b : ℕ) (R : List ℕ) (i : ℕ) → a ≤ b → length (get_or (chunks a b R) i []) ≤ b
unfolding chunks cut
chunk_within a b R i h = one_within (cut a b R) b i (within (length R + 1) a b R i h)

pub stream_blocks_differ : StreamBlocksDiffer
stream_blocks_differ k prefix text marks i m j n usable e few asked again same =
    let chunk = λ (at : ℕ). get_or (chunks (first_room k) (room k) text) at [] in
    let small : (at : ℕ) → length (chunk at) < 2 ^ 32 =
    λ at. omega (arith, chunk_within (first_room k) (room k) text at (omega (arith, usable.room)), usable.segment) in
    let all = blocks_differ k.kind prefix (chunk i) (chunk m) i m j n (marks i) (marks m) e
    (omega (arith, few, asked.segment)) (omega (arith, few, again.segment)) (small i) (small m) asked.block again.block
    same in
    (all.0, all.2)

pub none_is_zero : NoneIsZero
none_is_zero prefix text i j last e l asked same =
    let a : j + 1 < 2 ^ 32 = omega (arith, asked, l) in
    let twelve = nonce_has_12 prefix i last e in
    let bytes : to_be_bytes w32 (j + 1) ≡ to_be_bytes w32 0 =
    sym (drop_at (nonce 12 prefix i last) (to_be_bytes w32 (j + 1)) 12 twelve) ∙ ap (drop 12) same in
    omega (arith, number_same (j + 1) 0 a (omega arith) bytes)

-- ---- a segment asks for its own blocks

keystream_of_blocks : (E : List ℕ → List ℕ) (plus : List ℕ → ℕ → List ℕ) (first : List ℕ) (n : ℕ)
    → keystream E plus first n ≡ enciphered E (plus first) n
unfolding keystream
keystream_of_blocks E plus first zero = refl
keystream_of_blocks E plus first (suc n) = ap (λ xs. xs ++ E (plus first n)) (keystream_of_blocks E plus first n)

-- counting in the last four bytes, of which the first 12 stay
counted_32 : (front : List ℕ) (c n : ℕ) → length front ≡ 12 → c + n < 2 ^ 32
    → plus_be w32 (front ++ to_be_bytes w32 c) n ≡ front ++ to_be_bytes w32 (c + n)
counted_32 front c n e h =
    let at : length (front ++ to_be_bytes w32 c) - byte_len w32 ≡ 12 =
    omega (arith, length-append front (to_be_bytes w32 c), e) in
    let value : (from_be_bytes w32 (to_be_bytes w32 c) + n) % 2 ^ (8 * byte_len w32) ≡ c + n =
    omega (arith, from_be_bytes-to_be_bytes w32 c (omega (arith, h)), h) in
    ap₂ (λ xs ys. xs ++ to_be_bytes w32 ((from_be_bytes w32 ys + n) % 2 ^ (8 * byte_len w32)))
    (ap (λ k. take k (front ++ to_be_bytes w32 c)) at ∙ take_at front (to_be_bytes w32 c) 12 e)
    (ap (λ k. drop k (front ++ to_be_bytes w32 c)) at ∙ drop_at front (to_be_bytes w32 c) 12 e)
    ∙ ap (λ v. front ++ to_be_bytes w32 v) value

gcm_keystream : (E : List ℕ → List ℕ) (front : List ℕ) (n : ℕ) → length front ≡ 12 → n + 1 < 2 ^ 32
    → keystream E (plus_be w32) (plus_be w32 (first_block front) 1) n
    ≡ enciphered E (λ j. front ++ to_be_bytes w32 (j + 1 + 1)) n
unfolding keystream
gcm_keystream E front zero e h = refl
gcm_keystream E front (suc n) e h =
    let second = counted_32 front 1 1 e (omega arith) in
    let block : plus_be w32 (plus_be w32 (first_block front) 1) n ≡ front ++ to_be_bytes w32 (n + 1 + 1) =
    ap (λ b. plus_be w32 b n) second ∙ counted_32 front 2 n e (omega (arith, h))
    ∙ ap (λ v. front ++ to_be_bytes w32 v) (omega arith) in
    ap₂ (λ xs b. xs ++ E b) (gcm_keystream E front n e (omega (arith, h))) block

pub asks_for_its_own : AsksForItsOwn
unfolding ctr gcm gcm_tag
asks_for_its_own (CtrHmac hash tag) derived keys prefix i last text e l =
    let n = nonce 16 prefix i last in
    let key = take derived keys in
    ap (λ ks. xor_bytes text ks ++ take tag (hmac_of hash (drop derived keys) (n ++ xor_bytes text ks)))
    (keystream_of_blocks (aes key) (plus_be w64) n (block_count text))
asks_for_its_own Gcm derived keys prefix i last text e l =
    let n = nonce 12 prefix i last in
    let twelve = nonce_has_12 prefix i last e in
    ap (λ ks. xor_bytes text ks ++ xor_bytes (ghash (aes keys zero_block) [] (xor_bytes text ks)) (aes keys (first_block n)))
    (gcm_keystream (aes keys) n (block_count text) twelve (omega (arith, l)))
