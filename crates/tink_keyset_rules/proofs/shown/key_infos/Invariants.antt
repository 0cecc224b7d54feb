use Rattle.std.proofs.Common.{◌≡◌, map, take}
use Rattle.keyset_model.specs.Secrets.{key_info}
use Rattle.tink_keyset_rules.proofs.shown.key_infos.Given as goal

abbrev pub invariant-loop-key : goal.invariant-loop-key
invariant-loop-key l = l.infos ≡ map key_info (take l.key-index l.keys)
