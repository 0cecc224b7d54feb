use Rattle.std.proofs.Common.{◌≡◌, ℕ, ◌+◌, ◌*◌, ◌/◌, ◌^◌, ◌∙◌, ap, ap₂, get_or, arith}
use Rattle.std.proofs.lemmas.Nat.{shr-shr}
use Rattle.gcm.specs.Carries.{entries}
use Rattle.gcm.proofs.Carries.{entries_at, of_same, summed_next}
use Rattle.gcm.proofs.long_hash_key.eight_bytes.Goals as goal

pub loop-k-init : goal.loop-k-init
loop-k-init c =
    let whole : (n : ℕ) → n ≡ n / 1 = λ n. omega arith in
    let x = c.args.x in
    record {
      of_a = whole (get_or x 0 0);
      of_b = whole (get_or x 1 0);
      of_c = whole (get_or x 2 0);
      of_d = whole (get_or x 3 0);
      summed = λ a b d e i below are begun. of_same (omega arith) begun;
    }

pub loop-k-preserved : goal.loop-k-preserved
loop-k-preserved c =
    let x = c.args.x in
    let p = c.args.p.now in
    let q = c.args.q.now in
    let r = c.args.r.now in
    let s = c.args.s.now in
    let k = c.loop-k.k in
    let held = c.loop-k.invariant in
    let more : 8 * k + 8 ≡ 8 * (k + 1) = omega arith in
    let rest : (n m : ℕ) → n ≡ m / 2 ^ (8 * k) → n / 256 ≡ m / 2 ^ (8 * (k + 1)) = λ n m e. ap (λ v. v / 256) e ∙ shr-shr m (8 * k) 8 ∙ ap (λ j. m / 2 ^ j) more in
    record {
      of_a = rest _ _ held.of_a;
      of_b = rest _ _ held.of_b;
      of_c = rest _ _ held.of_c;
      of_d = rest _ _ held.of_d;
      summed = λ a b d e i below are begun.
          let was = held.summed a b d e i below are begun in
          let made = c.entries.ensures in
          let at : entries p q r s c.loop-k.a c.loop-k.b c.loop-k.c c.loop-k.d 0 ≡ entries p q r s a b d e (8 * (i + k)) =
          ap₂ (λ v w. entries p q r s v w c.loop-k.c c.loop-k.d 0) held.of_a held.of_b
          ∙ ap₂ (λ v w. entries p q r s (get_or x 0 0 / 2 ^ (8 * k)) (get_or x 1 0 / 2 ^ (8 * k)) v w 0) held.of_c held.of_d
          ∙ entries_at p q r s a b d e i k x are (omega arith) in
          let next = summed_next p q r s a b d e (i + k) _ _ _ _ (entries p q r s c.loop-k.a c.loop-k.b c.loop-k.c c.loop-k.d 0) was (omega (arith, below)) at made.below
          (c.sum_of-high.ensures (was.h / 256) _ (c.shifted.ensures was.h was.high_fits was.high_is) made.bytes)
          (c.carry_of-low.ensures was.h was.l was.low_fits was.high_is was.low_is) in
          of_same (omega arith) next;
    }

pub returns : goal.returns
returns c a b d e i below are begun =
    let k : c.loop-k.k ≡ 8 = omega arith in
    of_same (ap (λ n. i + n) k) (c.loop-k.invariant.summed a b d e i below are begun)
