-- The data of a new key, which key managers make, and adding a key of it.
use Rattle.std.specs.Prelude.{◌≡◌, ℕ, List, Bool, Result}
use Rattle.tink_io.specs.Answering.{Tells}
use Rattle.tink_io.specs.declared.error.Kind.{Kind}
use Rattle.tink_io.specs.declared.error.TinkError.{TinkError}
use Rattle.tink_proto.specs.declared.messages.keys.KeyData.{KeyData}
use Rattle.tink_proto.specs.declared.messages.keys.KeyTemplate.{KeyTemplate}
use Rattle.tink_proto.specs.declared.messages.keys.Keyset.{Keyset}
use Rattle.tink_registry.specs.Listed.{manager_of}
use Rattle.keyset_model.specs.Adding.{Added, added, new_data}

module _ {M : Type 0} (url : M → List ℕ) where
  -- the data of a new key by a template and the managers, and the draws that are left
  abbrev pub data_by : (M → List ℕ → List ℕ → Result KeyData Kind × List ℕ) → List M → KeyTemplate → List ℕ → Result KeyData Kind × List ℕ
  data_by makes managers kt draws = new_data makes kt draws (manager_of url kt.type_url managers)

  -- adding a key by a template
  abbrev pub added_by : (M → List ℕ → List ℕ → Result KeyData Kind × List ℕ) → List M → Keyset → KeyTemplate → Bool → List ℕ → Added
  added_by makes managers ks kt as_primary draws = added ks kt as_primary (data_by makes managers kt draws)

-- a call answers as is told, and leaves the keyset and the draws that are told, which only the code needs
pub record IsAdded (result : Result ℕ TinkError) (now : Keyset) (draws : List ℕ) (told : Added) : Type 0 where
  pub answer : Tells result told.answer
  pub keyset : now ≡ told.keyset
  pub left : draws ≡ told.left
