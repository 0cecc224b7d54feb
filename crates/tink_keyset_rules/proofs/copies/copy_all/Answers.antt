use Rattle.std.proofs.Common.{◌≡◌, ◌∙◌, ◌+◌, ◌<◌, ◌++◌, ◌∷◌, [], List, ℕ, length, take, get_or, ap, sym}
use Rattle.std.proofs.lemmas.List.{take_all, take_more}
use Rattle.tink_keyset_rules.proofs.copies.copy_all.Goals as goal

one_more : {A : Type 0} (all copied : List A) (i : ℕ) (x y : A) → copied ≡ take i all → i < length all → x ≡ get_or all i x → y ≡ x → copied ++ y ∷ [] ≡ take (i + 1) all
one_more all copied i x y are below is same = ap (λ l. l ++ y ∷ []) are ∙ ap (λ z. take i all ++ z ∷ []) (same ∙ is) ∙ sym (take_more all i x below)

pub loop-message-preserved : goal.loop-message-preserved
loop-message-preserved g c =
    c.in_ok-push-in-Ok.ensures.items
    ∙ one_more c.args.messages.now c.loop-message.copied.items c.loop-message.message-index c.message-item.result c.in-Ok.more c.loop-message.invariant
    c.loop-message-test.true c.message-item.is c.in-Ok.ensures.same

pub returns-clause-same : goal.returns-clause-same
returns-clause-same g c = c.loop-message.invariant ∙ take_all c.loop-message.message-index c.args.messages.now c.loop-message-test.false
