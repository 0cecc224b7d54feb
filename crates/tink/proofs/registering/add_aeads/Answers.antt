use Rattle.std.proofs.Common.{◌≡◌, ◌∷◌, [], refl, subst, Result}
use Rattle.tink_io.specs.declared.error.TinkError.{TinkError}
use Rattle.tink_registry.specs.Listed.{Registered}
use Rattle.tink_registry.specs.Registering.{AreMade, IsMade, Registers}
use Rattle.tink_aead.specs.Templates.{aead_templates}
use Rattle.tink.specs.declared.managers.Managers.{Managers}
use Rattle.tink.specs.declared.managers.Managers.TheVariants.{AesCtrHmacAead, AesGcm, AesGcmSiv}
use Rattle.tink.specs.Managers.{row_of}
use Rattle.tink.specs.Registered.{aead_managers, with_aeads, with_macs}
use Rattle.tink.proofs.Making.{leaves_err, leaves_ok, registered, Leaves}
use Rattle.tink.proofs.registering.add_aeads.Goals as goal

left : (A B C : Type 0) (old new : Registered Managers) (r : Result (Unit {0}) TinkError) → old ≡ with_macs
    → Registers (AreMade (IsMade {A = A} (λ _ m. m ≡ AesCtrHmacAead) ∷ IsMade {A = B} (λ _ m. m ≡ AesGcm) ∷ IsMade {A = C} (λ _ m. m ≡ AesGcmSiv) ∷ [])) (λ m. (row_of m).url) aead_templates old new r
    → Leaves with_aeads r new
left A B C old new r is registers =
    registered (λ m. (row_of m).url) (IsMade {A = A} (λ _ m. m ≡ AesCtrHmacAead) ∷ IsMade {A = B} (λ _ m. m ≡ AesGcm) ∷ IsMade {A = C} (λ _ m. m ≡ AesGcmSiv) ∷ []) aead_managers aead_templates with_macs new r
    ((λ x made. made.1), ((λ x made. made.1), ((λ x made. made.1), tt))) refl
    (subst (λ o. Registers (AreMade (IsMade {A = A} (λ _ m. m ≡ AesCtrHmacAead) ∷ IsMade {A = B} (λ _ m. m ≡ AesGcm) ∷ IsMade {A = C} (λ _ m. m ≡ AesGcmSiv) ∷ [])) (λ m. (row_of m).url) aead_templates o new r) is registers)

pub returns-clause-ok : goal.returns-clause-ok
returns-clause-ok c = leaves_ok with_aeads c.init.new.registry c.init.result (left _ _ _ c.args.registry.now c.init.new.registry c.init.result c.requires c.init.ensures)

pub returns-clause-cause : goal.returns-clause-cause
returns-clause-cause c = leaves_err with_aeads c.init.new.registry c.init.result (left _ _ _ c.args.registry.now c.init.new.registry c.init.result c.requires c.init.ensures)
