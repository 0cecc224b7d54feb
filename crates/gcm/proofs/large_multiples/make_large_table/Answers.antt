use Rattle.std.proofs.Common.{◌≡◌, ◌/◌, ◌%◌, ◌<◌, [], ◌∙◌, ap, bit_xor, arith}
use Rattle.std.proofs.lemmas.List.{get_or-set_same, get_or-set_other, length-set}
use borrow.Author.Count.{below_more}
use Rattle.gcm.specs.Carries.{bytes_of}
use Rattle.gcm.specs.Multiples.{four, multiple}
use Rattle.gcm.proofs.large_multiples.make_large_table.Goals as goal

pub loop-n-preserved : goal.loop-n-preserved
loop-n-preserved c =
    let t = c.loop-n.table in
    let n = c.loop-n.n in
    let m = c.args.m.now in
    let below : n % 16 < 16 = omega arith in
    let high_below : n / 16 < 16 = omega arith in
    let same : n / 16 ≡ n / 16 % 16 = omega arith in (
      length-set t n _ ∙ c.loop-n.invariant.0,
      below_more _ _ (λ k h. get_or-set_other t n k _ [] (λ e. absurd (omega arith)) ∙ c.loop-n.invariant.1 k h)
          (get_or-set_same t n _ [] (omega arith)
          ∙ c.sum_of_bytes.ensures (four (multiple m (n % 16))) (multiple m (n / 16)) (c.make_low_rows-low.ensures (n % 16) below) (c.make_high_rows-high.ensures (n / 16) high_below)
          ∙ ap (λ k. bytes_of (bit_xor (four (multiple m (n % 16))) (multiple m k))) same),
    )
