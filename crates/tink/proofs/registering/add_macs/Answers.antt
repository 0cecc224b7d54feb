use Rattle.std.proofs.Common.{◌≡◌, ◌∷◌, [], refl, subst, Result}
use Rattle.tink_io.specs.declared.error.TinkError.{TinkError}
use Rattle.tink_registry.specs.Listed.{Registered}
use Rattle.tink_registry.specs.Registering.{AreMade, IsMade, Registers}
use Rattle.tink_mac.specs.Templates.{mac_templates}
use Rattle.tink.specs.declared.managers.Managers.{Managers}
use Rattle.tink.specs.declared.managers.Managers.TheVariants.{AesCmac, Hmac}
use Rattle.tink.specs.Managers.{row_of}
use Rattle.tink.specs.Registered.{mac_managers, with_macs, with_prfs}
use Rattle.tink.proofs.Making.{leaves_err, leaves_ok, registered, Leaves}
use Rattle.tink.proofs.registering.add_macs.Goals as goal

left : (A B : Type 0) (old new : Registered Managers) (r : Result (Unit {0}) TinkError) → old ≡ with_prfs
    → Registers (AreMade (IsMade {A = A} (λ _ m. m ≡ Hmac) ∷ IsMade {A = B} (λ _ m. m ≡ AesCmac) ∷ [])) (λ m. (row_of m).url) mac_templates old new r
    → Leaves with_macs r new
left A B old new r is registers =
    registered (λ m. (row_of m).url) (IsMade {A = A} (λ _ m. m ≡ Hmac) ∷ IsMade {A = B} (λ _ m. m ≡ AesCmac) ∷ []) mac_managers mac_templates with_prfs new r
    ((λ x made. made.1), ((λ x made. made.1), tt)) refl
    (subst (λ o. Registers (AreMade (IsMade {A = A} (λ _ m. m ≡ Hmac) ∷ IsMade {A = B} (λ _ m. m ≡ AesCmac) ∷ [])) (λ m. (row_of m).url) mac_templates o new r) is registers)

pub returns-clause-ok : goal.returns-clause-ok
returns-clause-ok c = leaves_ok with_macs c.init.new.registry c.init.result (left _ _ c.args.registry.now c.init.new.registry c.init.result c.requires c.init.ensures)

pub returns-clause-cause : goal.returns-clause-cause
returns-clause-cause c = leaves_err with_macs c.init.new.registry c.init.result (left _ _ c.args.registry.now c.init.new.registry c.init.result c.requires c.init.ensures)
