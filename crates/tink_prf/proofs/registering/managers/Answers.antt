use Rattle.std.proofs.Common.{◌≡◌, ◌∷◌, List, [], sym, subst, rules}
use Rattle.tink_registry.specs.Registering.{AreMade, IsMade}
use Rattle.tink_prf.proofs.registering.managers.Goals as goal

three_made : {M : Type 0} (from_a from_b from_c : M → Type 0) (a b c : M) (managers : List M) → from_a a → from_b b → from_c c → managers ≡ a ∷ b ∷ c ∷ []
    → AreMade (from_a ∷ from_b ∷ from_c ∷ []) managers
three_made from_a from_b from_c a b c managers made_a made_b made_c are = subst (AreMade (from_a ∷ from_b ∷ from_c ∷ [])) (sym are) (made_a, (made_b, (made_c, tt)))

pub returns-clause-value : goal.returns-clause-value
returns-clause-value g c =
    three_made (IsMade g.M.From-1.from_gives) (IsMade g.M.From-2.from_gives) (IsMade g.M.From-3.from_gives) c.from-hmac.result c.from-hkdf.result c.from-aes_cmac.result _
    (c.new.result, c.from-hmac.ensures) (c.new-2.result, c.from-hkdf.ensures) (c.new-3.result, c.from-aes_cmac.ensures) (search rules)
