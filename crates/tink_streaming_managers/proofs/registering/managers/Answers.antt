use Rattle.std.proofs.Common.{◌≡◌, ◌∷◌, List, [], sym, subst, rules}
use Rattle.tink_registry.specs.Registering.{AreMade, IsMade}
use Rattle.tink_streaming_managers.proofs.registering.managers.Goals as goal

two_made : {M : Type 0} (from_a from_b : M → Type 0) (a b : M) (managers : List M) → from_a a → from_b b → managers ≡ a ∷ b ∷ []
    → AreMade (from_a ∷ from_b ∷ []) managers
two_made from_a from_b a b managers made_a made_b are = subst (AreMade (from_a ∷ from_b ∷ [])) (sym are) (made_a, (made_b, tt))

pub returns-clause-value : goal.returns-clause-value
returns-clause-value g c =
    two_made (IsMade g.M.From-1.from_gives) (IsMade g.M.From-2.from_gives) c.from-ctr_hmac.result c.from-gcm_hkdf.result _
    (c.new.result, c.from-ctr_hmac.ensures) (c.new-2.result, c.from-gcm_hkdf.ensures) (search rules)
