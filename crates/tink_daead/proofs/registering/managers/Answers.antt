use Rattle.std.proofs.Common.{◌≡◌, ◌∷◌, List, [], sym, subst, rules}
use Rattle.tink_registry.specs.Registering.{AreMade, IsMade}
use Rattle.tink_daead.proofs.registering.managers.Goals as goal

one_made : {M : Type 0} (from_a : M → Type 0) (a : M) (managers : List M) → from_a a → managers ≡ a ∷ [] → AreMade (from_a ∷ []) managers
one_made from_a a managers made_a are = subst (AreMade (from_a ∷ [])) (sym are) (made_a, tt)

pub returns-clause-value : goal.returns-clause-value
returns-clause-value g c =
    one_made (IsMade g.M.From.from_gives) c.from-siv.result _
    (c.new.result, c.from-siv.ensures) (search rules)
