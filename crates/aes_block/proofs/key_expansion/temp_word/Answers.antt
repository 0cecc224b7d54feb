use Rattle.std.proofs.Common.{◌-◌, ◌/◌, ◌%◌, ◌∙◌, ◌&&◌, cond, eqb, [], ◌∷◌, ap, sym, get_or, eq-eqb}
use Rattle.aes_block.specs.declared.tables.TheConstants.{POWERS}
use Rattle.standards.specs.AesKeys.{power_of_x, rot_word, sub_word, xor_word}
use Rattle.aes_block.proofs.KeyWords.{power_at}
use Rattle.aes_block.proofs.key_expansion.temp_word.Goals as goal

pub returns-then-i-n-eq0 : goal.returns-then-i-n-eq0
returns-then-i-n-eq0 c =
    let n = c.args.n in
    let i = c.args.i in
    let w = c.args.w in
    let r = c.requires in
    c.xor_word.ensures
    ∙ ap (λ v. xor_word v (get_or POWERS (i / n) 0 ∷ 0 ∷ 0 ∷ 0 ∷ [])) (c.sub_word.ensures ∙ ap sub_word c.rot_word.ensures)
    ∙ ap (λ p. xor_word (sub_word (rot_word w)) (p ∷ 0 ∷ 0 ∷ 0 ∷ [])) (power_at n i r.size r.low r.high)
    ∙ ap (λ b. cond b (xor_word (sub_word (rot_word w)) (power_of_x (i / n - 1) ∷ 0 ∷ 0 ∷ 0 ∷ [])) (cond (eqb n 8 && eqb (i % 8) 4) (sub_word w) w)) (sym (eq-eqb (i % n) 0 c.if-i-n-eq0.true))
