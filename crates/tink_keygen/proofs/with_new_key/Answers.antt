use Rattle.std.proofs.lemmas.Result.{err_from_is_err_and}
use Rattle.tink_keygen.proofs.RotatingSteps.{beside_valid, copied, copied_valid, is_grown, leaves_told, left_refused, left_told, not_grown, rotated_valid}
use Rattle.tink_keygen.proofs.with_new_key.Goals as goal

pub returns-in_err-add-clause-answer : goal.returns-in_err-add-clause-answer
returns-in_err-add-clause-answer c =
    let returned = err_from_is_err_and c.from_residual.result c.from_residual.ensures.1 in
    rw (returned.1, returned.2) (not_grown c.args.as_primary c.args.registry.now c.args.manager c.args.kt.now c.args.draws.now _ _ c.requires c.in_err-add.ensures.replies)

pub returns-clause-answer : goal.returns-clause-answer
returns-clause-answer c =
    copied _ _ _ c.keyset_material.result
    (is_grown c.args.as_primary c.args.registry.now c.args.manager _ c.args.kt.now c.args.draws.now _ c.requires c.in_ok-add.ensures.replies.0 c.in_ok-add.ensures.keyset)
    c.in_ok-handle.ensures.keyset c.keyset_material.ensures.keyset c.keyset_material.ensures.err

pub returns-clause-valid : goal.returns-clause-valid
returns-clause-valid c = λ primary formed.
    copied_valid c.args.as_primary c.args.manager _ _ c.args.kt.now c.args.draws.now c.keyset_material.result (rotated_valid c.args.as_primary c.args.manager c.args.kt.now c.args.draws.now primary formed)
    (is_grown c.args.as_primary c.args.registry.now c.args.manager _ c.args.kt.now c.args.draws.now _ c.requires c.in_ok-add.ensures.replies.0 c.in_ok-add.ensures.keyset)
    c.in_ok-handle.ensures.keyset c.keyset_material.ensures.keyset c.keyset_material.ensures.held

pub returns-clause-beside : goal.returns-clause-beside
returns-clause-beside c = λ other valid has.
    copied_valid c.args.as_primary c.args.manager _ _ c.args.kt.now c.args.draws.now c.keyset_material.result (beside_valid c.args.as_primary c.args.manager c.args.kt.now c.args.draws.now other valid has)
    (is_grown c.args.as_primary c.args.registry.now c.args.manager _ c.args.kt.now c.args.draws.now _ c.requires c.in_ok-add.ensures.replies.0 c.in_ok-add.ensures.keyset)
    c.in_ok-handle.ensures.keyset c.keyset_material.ensures.keyset c.keyset_material.ensures.held

pub returns-in_err-add-clause-rest : goal.returns-in_err-add-clause-rest
returns-in_err-add-clause-rest c =
    let returned = err_from_is_err_and c.from_residual.result c.from_residual.ensures.1 in
    rw (returned.1, returned.2) (left_refused c.args.as_primary c.args.registry.now c.args.manager c.args.kt.now c.args.draws.now _ _ c.requires c.in_err-add.ensures.replies)

pub returns-in_err-handle-clause-rest : goal.returns-in_err-handle-clause-rest
returns-in_err-handle-clause-rest c =
    leaves_told c.from_residual-in_err-handle.result _ c.args.draws.now _
    (left_told c.args.as_primary c.args.registry.now c.args.manager c.args.kt.now c.args.draws.now _ c.requires c.in_ok-add.ensures.replies.1)

pub returns-clause-rest : goal.returns-clause-rest
returns-clause-rest c =
    leaves_told c.keyset_material.result _ c.args.draws.now _
    (left_told c.args.as_primary c.args.registry.now c.args.manager c.args.kt.now c.args.draws.now _ c.requires c.in_ok-add.ensures.replies.1)
