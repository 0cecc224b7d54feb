use Rattle.std.proofs.Common.{◌≡◌, ℕ, ◌/◌, ◌%◌, ◌^◌, ◌∙◌, [], ◌∷◌, ap, ap₂, get_or, bit_xor, arith, lit≤}
use Rattle.gcm.specs.Carries.{AreEightBytes, rest}
use Rattle.gcm.proofs.Carries.{none_summed}
use Rattle.gcm.proofs.long_hash_key.sum_of_long_products.Goals as goal

pub rest_of-requires : goal.rest_of-requires
rest_of-requires c =
    let x = c.args.x in
    let p = c.args.p.now in
    let q = c.args.q.now in
    let r = c.args.r.now in
    let s = c.args.s.now in
    let a = get_or x 0 0 in
    let b = get_or x 1 0 in
    let d = get_or x 2 0 in
    let e = get_or x 3 0 in
    let begins : (n : ℕ) → n % 2 ^ 64 ≡ n / 1 % 2 ^ 64 = λ n. omega arith in
    let first : AreEightBytes a b d e 0 (c.lower.result ∷ c.lower-2.result ∷ c.lower-3.result ∷ c.lower-4.result ∷ []) =
    record { of_a = c.lower.ensures ∙ begins a; of_b = c.lower-2.ensures ∙ begins b; of_c = c.lower-3.ensures ∙ begins d; of_d = c.lower-4.ensures ∙ begins e } in
    let second : AreEightBytes a b d e 8 (c.upper.result ∷ c.upper-2.result ∷ c.upper-3.result ∷ c.upper-4.result ∷ []) =
    record { of_a = c.upper.ensures; of_b = c.upper-2.ensures; of_c = c.upper-3.ensures; of_d = c.upper-4.ensures } in
    let half = c.eight_bytes-half.ensures a b d e 0 (lit≤ tt) first (none_summed p q r s a b d e _ _ c.zeros.ensures c.zeros-2.ensures) in
    let whole = c.eight_bytes.ensures a b d e 8 (lit≤ tt) second half in
    ap (λ v. v % 256) (c.number_of-2.ensures whole.l whole.low_fits whole.low_is) ∙ whole.room

pub returns : goal.returns
returns c =
    let x = c.args.x in
    let p = c.args.p.now in
    let q = c.args.q.now in
    let r = c.args.r.now in
    let s = c.args.s.now in
    let a = get_or x 0 0 in
    let b = get_or x 1 0 in
    let d = get_or x 2 0 in
    let e = get_or x 3 0 in
    let begins : (n : ℕ) → n % 2 ^ 64 ≡ n / 1 % 2 ^ 64 = λ n. omega arith in
    let first : AreEightBytes a b d e 0 (c.lower.result ∷ c.lower-2.result ∷ c.lower-3.result ∷ c.lower-4.result ∷ []) =
    record { of_a = c.lower.ensures ∙ begins a; of_b = c.lower-2.ensures ∙ begins b; of_c = c.lower-3.ensures ∙ begins d; of_d = c.lower-4.ensures ∙ begins e } in
    let second : AreEightBytes a b d e 8 (c.upper.result ∷ c.upper-2.result ∷ c.upper-3.result ∷ c.upper-4.result ∷ []) =
    record { of_a = c.upper.ensures; of_b = c.upper-2.ensures; of_c = c.upper-3.ensures; of_d = c.upper-4.ensures } in
    let half = c.eight_bytes-half.ensures a b d e 0 (lit≤ tt) first (none_summed p q r s a b d e _ _ c.zeros.ensures c.zeros-2.ensures) in
    let whole = c.eight_bytes.ensures a b d e 8 (lit≤ tt) second half in
    ap₂ bit_xor (c.number_of.ensures whole.h whole.high_fits whole.high_is) (c.rest_of.ensures ∙ ap rest (c.number_of-2.ensures whole.l whole.low_fits whole.low_is))
    ∙ whole.both
