-- The data that managers give.
use Rattle.std.proofs.Common.{◌≡◌, ℕ, List, Bool, true, false, Option, Some, None, Result, Ok, Err, cond, refl}
use Rattle.tink_io.specs.declared.error.Kind.{Kind}
use Rattle.tink_io.specs.declared.error.Kind.TheVariants.{UnknownPrefix}
use Rattle.tink_proto.specs.declared.messages.keys.KeyData.{KeyData}
use Rattle.tink_proto.specs.declared.messages.keys.KeyTemplate.{KeyTemplate}
use Rattle.tink_registry.specs.Known.{IsOfKnownMaterial}
use Rattle.tink_registry.specs.Listed.{manager_of}
use Rattle.keyset_model.specs.Adding.{new_data}
use Rattle.keyset_model.specs.Entries.{is_known_prefix}
use Rattle.keyset_model.specs.Laws.{GivesHeld}
use Rattle.keyset_model.specs.Validity.{is_known_material}
use Rattle.tink_keyset_rules.specs.Managed.{data_by}

by_prefix : (known : Bool) (made : Result KeyData Kind × List ℕ) (draws : List ℕ) (d : KeyData) → (cond known made (Err UnknownPrefix, draws)).0 ≡ Ok d → (known ≡ true) × (made.0 ≡ Ok d)
by_prefix true made draws d e = (refl, e)
by_prefix false made draws d e = absurd (cc)

by_manager : {M : Type 0} (makes : M → List ℕ → List ℕ → Result KeyData Kind × List ℕ) → ((m : M) (format draws : List ℕ) (d : KeyData) → (makes m format draws).0 ≡ Ok d → IsOfKnownMaterial d)
    → (kt : KeyTemplate) (draws : List ℕ) (d : KeyData) (o : Option M) → (new_data makes kt draws o).0 ≡ Ok d → (is_known_material (Some d) ≡ true) × (is_known_prefix kt.output_prefix_type ≡ true)
by_manager makes known kt draws d None e = absurd (cc)
by_manager makes known kt draws d (Some m) e =
    let parts = by_prefix (is_known_prefix kt.output_prefix_type) (makes m kt.value draws) draws d e in
    (known m kt.value draws d parts.1, parts.0)

pub gives_held : {M : Type 0} (url : M → List ℕ) (makes : M → List ℕ → List ℕ → Result KeyData Kind × List ℕ) (managers : List M)
    → ((m : M) (format draws : List ℕ) (d : KeyData) → (makes m format draws).0 ≡ Ok d → IsOfKnownMaterial d) → GivesHeld (data_by url makes managers)
gives_held url makes managers known kt draws d e = by_manager makes known kt draws d (manager_of url kt.type_url managers) e
