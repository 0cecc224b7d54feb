use Rattle.std.proofs.Common.{◌≡◌, drop}
use Rattle.std.specs.Prelude.{IsTrue}
use Rattle.std.specs.List.{list_all}
use Rattle.keyset_model.specs.Validity.{fits_handle}
use Rattle.tink_set_builder.specs.Given.{given_each}
use Rattle.tink_set_builder.specs.PublicParts.{public_data, with_data}
use Rattle.tink_set_builder.proofs.GivenEach.{behind}
use Rattle.tink_set_builder.proofs.public_parts.public_keys.Given as goal

-- what was given stands before what is left to give, and is held
abbrev pub invariant-loop-key : goal.invariant-loop-key
invariant-loop-key g l =
    (given_each (λ k. with_data k (public_data g.M.KeyManager.url g.M.KeyManager.has_public g.M.KeyManager.gives_public l.registry.managers k.key_data)) l.keys
    ≡ behind l.public (given_each (λ k. with_data k (public_data g.M.KeyManager.url g.M.KeyManager.has_public g.M.KeyManager.gives_public l.registry.managers k.key_data)) (drop l.key-index l.keys)))
    × IsTrue (list_all fits_handle l.public)
