use Rattle.std.proofs.Common.{◌≡◌, ◌∷◌, ◌++◌, List, [], sym, ap, subst, ◌∙◌}
use Rattle.tink_registry.specs.Registering.{AreMade, IsMade}
use Rattle.tink_aead.proofs.registering.managers.Goals as goal

three_made : {M : Type 0} (from_a from_b from_c : M → Type 0) (a b c : M) (managers : List M) → from_a a → from_b b → from_c c → managers ≡ a ∷ b ∷ c ∷ []
    → AreMade (from_a ∷ from_b ∷ from_c ∷ []) managers
three_made from_a from_b from_c a b c managers made_a made_b made_c are = subst (AreMade (from_a ∷ from_b ∷ from_c ∷ [])) (sym are) (made_a, (made_b, (made_c, tt)))

behind : {M : Type 0} (xs ys zs : List M) (x : M) → ys ≡ xs → zs ≡ ys ++ x ∷ [] → zs ≡ xs ++ x ∷ []
behind xs ys zs x e f = f ∙ ap (λ l. l ++ x ∷ []) e

pub returns-clause-value : goal.returns-clause-value
returns-clause-value g c =
    three_made (IsMade g.M.From-1.from_gives) (IsMade g.M.From-2.from_gives) (IsMade g.M.From-3.from_gives) c.from.result c.from-2.result c.from-3.result _
    (c.new.result, c.from.ensures) (c.new-2.result, c.from-2.ensures) (c.new-3.result, c.from-3.ensures) (behind _ _ _ _ (behind _ _ _ _ (behind [] _ _ _ c.new-managers.ensures.items c.in_ok-push.ensures.items) c.in_ok-push-2.ensures.items) c.in_ok-push-3.ensures.items)
