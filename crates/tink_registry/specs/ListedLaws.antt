-- What a registry's lists tell, where its managers do.
use Rattle.std.specs.Prelude.{ℕ, List, [], length, nat_eq, Option, Some, None, Result, refl}
use Rattle.tink_io.specs.declared.error.Kind.{Kind}
use Rattle.tink_proto.specs.declared.messages.keys.KeyTemplate.{KeyTemplate}
use Rattle.tink_primitives.specs.Meaning.{IsDrawn, IsTold}
use Rattle.tink_primitives.specs.MeaningLaws.{told_if}
use Rattle.tink_registry.specs.Listed.{builds_by, makes_by, manager_of, registry_builds, registry_makes}

module _ {M A : Type 0} (makes : M → List ℕ → List ℕ → Result A Kind × List ℕ) (told : (m : M) (format draws : List ℕ) → IsDrawn draws (makes m format draws)) where
  makes_by_told : (format draws : List ℕ) (m : Option M) → IsDrawn draws (makes_by makes format draws m)
  makes_by_told format draws None = record { answer = tt; ends = ([], refl) }
  makes_by_told format draws (Some m) = told m format draws

pub registry_makes_told : {M A : Type 0} (url : M → List ℕ) (makes : M → List ℕ → List ℕ → Result A Kind × List ℕ) → ((m : M) (format draws : List ℕ) → IsDrawn draws (makes m format draws))
    → (ms : List M) (kt : KeyTemplate) (draws : List ℕ) → IsDrawn draws (registry_makes url makes ms kt draws)
registry_makes_told url makes told ms kt draws = makes_by_told makes told kt.value draws (manager_of url kt.type_url ms)

module _ {M P : Type 0} (builds : M → List ℕ → Result P Kind) (told : (m : M) (key : List ℕ) → IsTold (builds m key)) where
  builds_by_told : (key : List ℕ) (m : Option M) → IsTold (builds_by builds key m)
  builds_by_told key None = tt
  builds_by_told key (Some m) = told m key

pub registry_builds_told : {M P : Type 0} (url : M → List ℕ) (builds : M → List ℕ → Result P Kind) → ((m : M) (key : List ℕ) → IsTold (builds m key))
    → (ms : List M) (wanted key : List ℕ) → IsTold (registry_builds url builds ms wanted key)
registry_builds_told url builds told ms wanted key = told_if (nat_eq (length key) 0) _ _ tt (builds_by_told builds told key (manager_of url wanted ms))
