use Rattle.std.proofs.Common.{◌≡◌, ℕ, ◌/◌, ◌%◌, ◌<◌, ◌^◌, ◌∙◌, ap, ap₂, bit_xor, get_or, subst, arith}
use Rattle.std.proofs.lemmas.Nat.{xor_lt}
use Rattle.gcm.specs.Carries.{bytes_of}
use Rattle.gcm.specs.Multiples.{multiple8}
use Rattle.gcm.proofs.long_hash_key.entries.Goals as goal

-- a number's lowest byte, after no bit
byte : (x : ℕ) → x % 256 ≡ x / 1 % 256
byte x = omega arith

pub returns-clause-bytes : goal.returns-clause-bytes
returns-clause-bytes c =
    let x = c.args.x in
    c.sum_of-3.ensures _ _
    (c.sum_of.ensures _ _ c.entry_bytes.ensures.bytes c.entry_bytes-2.ensures.bytes)
    (c.sum_of-2.ensures _ _ c.entry_bytes-3.ensures.bytes c.entry_bytes-4.ensures.bytes)
    ∙ ap bytes_of (ap₂ bit_xor
    (ap₂ bit_xor (ap (multiple8 c.args.p.now) (byte (get_or x 0 0))) (ap (multiple8 c.args.q.now) (byte (get_or x 1 0))))
    (ap₂ bit_xor (ap (multiple8 c.args.r.now) (byte (get_or x 2 0))) (ap (multiple8 c.args.s.now) (byte (get_or x 3 0)))))

pub returns-clause-below : goal.returns-clause-below
returns-clause-below c =
    let x = c.args.x in
    let at : (y n : ℕ) → multiple8 y (n % 256) < 2 ^ 128 → multiple8 y (n / 1 % 256) < 2 ^ 128 = λ y n h. subst (λ k. multiple8 y k < 2 ^ 128) (byte n) h in
    xor_lt 128 _ _
    (xor_lt 128 _ _ (at _ (get_or x 0 0) c.entry_bytes.ensures.below) (at _ (get_or x 1 0) c.entry_bytes-2.ensures.below))
    (xor_lt 128 _ _ (at _ (get_or x 2 0) c.entry_bytes-3.ensures.below) (at _ (get_or x 3 0) c.entry_bytes-4.ensures.below))
