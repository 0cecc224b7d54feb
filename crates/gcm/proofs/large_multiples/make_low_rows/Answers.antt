use Rattle.std.proofs.Common.{◌≡◌, ◌%◌, [], ◌∙◌, ap, arith}
use Rattle.std.proofs.lemmas.List.{get_or-set_same, get_or-set_other, length-set}
use borrow.Author.Count.{below_more}
use Rattle.gcm.specs.Carries.{bytes_of}
use Rattle.gcm.specs.Multiples.{four, multiple}
use Rattle.gcm.proofs.large_multiples.make_low_rows.Goals as goal

pub loop-n-preserved : goal.loop-n-preserved
loop-n-preserved c =
    let t = c.loop-n.rows in
    let n = c.loop-n.n in
    let same : n % 16 ≡ n = omega arith in (
      length-set t n _ ∙ c.loop-n.invariant.0,
      below_more _ _ (λ k h. get_or-set_other t n k _ [] (λ e. absurd (omega arith)) ∙ c.loop-n.invariant.1 k h)
          (get_or-set_same t n _ [] (omega arith) ∙ c.to_le_bytes.ensures ∙ ap bytes_of (c.shift.ensures ∙ ap four (c.entry.ensures ∙ ap (multiple c.args.m.now) same))),
    )
