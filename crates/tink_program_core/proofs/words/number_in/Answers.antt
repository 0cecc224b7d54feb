use Rattle.std.proofs.Common.{◌∙◌, sym, arith}
use Rattle.std.proofs.lemmas.Bool.{not-true, true≢false}
use Rattle.tink_program_core.proofs.LargeWordFacts.{not_parsed, number_read, printed_word}
use Rattle.tink_program_core.proofs.words.number_in.Goals.{then-n-most-via-then-n-most, then-n-most-via-else-n-most+then-ne}
use Rattle.tink_program_core.proofs.words.number_in.Goals as goal

pub returns-in_default : goal.returns-in_default
returns-in_default c = λ n is. not_parsed c.args.most c.args.word.now n c.parse.result c.in_default.field-0 c.in_default.is c.parse.ensures.value.0 (omega (arith, c.ranges.most.fits)) is

pub returns-then-n-most : goal.returns-then-n-most
returns-then-n-most c = λ n is. elim c.then-n-most.branch [
  | then-n-most-via-then-n-most w ↦ absurd (omega (arith, is.small, number_read c.args.most c.args.word.now n c.in-Ok.n c.parse.result c.in-Ok.is c.parse.ensures.value.0 (omega (arith, c.ranges.most.fits)) is, w.if-n-most.true))
  | then-n-most-via-else-n-most+then-ne w ↦
      let same = printed_word c.args.most c.args.word.now w.as_str.result.now n c.in-Ok.n c.parse.result c.in-Ok.is c.parse.ensures.value.0 (w.as_str.ensures.value ∙ c.in-Ok-to_string.ensures.ok) (omega (arith, c.ranges.most.fits)) is in
      absurd (true≢false (sym same ∙ not-true _ (sym w.ne.ensures ∙ w.if-ne.true)))
]
