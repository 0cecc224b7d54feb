-- Parts that are put one behind another.
use Rattle.std.proofs.Common.{◌≡◌, ℕ, List, ◌++◌, ◌∙◌, ap, append_assoc}

-- five parts make a line
pub five_parts : (t0 t1 t2 t3 t4 t5 a b c d e : List ℕ) → t1 ≡ t0 ++ a → t2 ≡ t1 ++ b → t3 ≡ t2 ++ c → t4 ≡ t3 ++ d → t5 ≡ t4 ++ e
    → t5 ≡ t0 ++ (a ++ b ++ c ++ d ++ e)
five_parts t0 t1 t2 t3 t4 t5 a b c d e first second third fourth fifth =
    fifth
    ∙ ap (λ t. t ++ e) (fourth ∙ ap (λ t. t ++ d) (third ∙ ap (λ t. t ++ c) (second ∙ ap (λ t. t ++ b) first ∙ append_assoc t0 a b)
    ∙ append_assoc t0 (a ++ b) c) ∙ append_assoc t0 (a ++ b ++ c) d)
    ∙ append_assoc t0 (a ++ b ++ c ++ d) e
