use Rattle.std.proofs.Common.{◌≡◌, ◌∙◌, ◌+◌, ℕ, List, ◌∷◌, false, drop, get_or, refl, sym, subst, bytes_eq, if◌then◌else◌}
use Rattle.std.proofs.lemmas.List.{at_drop_more}
use Rattle.tink_system.specs.Memory.{target_of}
use Rattle.tink_system.specs.declared.mem_system.Link.{Link}
use Rattle.tink_system.proofs.mem_system.target_in.Goals as goal

-- a link of another name is passed over
passed : (name : List ℕ) (link : Link) (links : List Link) → false ≡ bytes_eq link.name.items name → target_of (link ∷ links) name ≡ target_of links name
passed name link links other = subst (λ b. (if b then link.target.items else target_of links name) ≡ target_of links name) other refl

pub links-preserved : goal.links-preserved
links-preserved c =
    let links = c.args.links.now in
    let i = c.links.link-index in
    let name = c.args.name.now in
    let differs = subst (λ (known : List ℕ). false ≡ bytes_eq known name) c.as_slice.ensures.value c.if-eq.ensures in
    let other = subst (λ link. false ≡ bytes_eq link.name.items name) c.link-item.is differs in
    let left = at_drop_more (λ l. target_of l name) links i c.link-item.result c.links-test.true in
    sym (left ∙ passed name (get_or links i c.link-item.result) (drop (i + 1) links) other) ∙ c.links.invariant
