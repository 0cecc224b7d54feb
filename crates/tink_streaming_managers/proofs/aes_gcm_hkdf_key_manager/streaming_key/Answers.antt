use Rattle.std.proofs.Common.{sym, ◌∙◌, ap, Some, None}
use Rattle.loading_model.specs.Building.{gcm_hkdf_of}
use Rattle.tink_streaming_managers.specs.KeyTypes.{gcm_hkdf_sized}
use Rattle.tink_streaming_managers.proofs.KeyFacts.{answers_same, invalid, gcm_hkdf_of_other, gcm_hkdf_of_params}
use Rattle.tink_streaming_managers.proofs.aes_gcm_hkdf_key_manager.streaming_key.Goals as goal

pub returns-then-key-ne-AES_GCM_HKDF_KEY_VERSION : goal.returns-then-key-ne-AES_GCM_HKDF_KEY_VERSION
returns-then-key-ne-AES_GCM_HKDF_KEY_VERSION c = invalid c.new.result (gcm_hkdf_of c.args.key.now) c.new.ensures (gcm_hkdf_of_other c.args.key.now c.if-key-ne-AES_GCM_HKDF_KEY_VERSION.true)

pub returns-in-Some : goal.returns-in-Some
returns-in-Some c =
    answers_same c.sized_key.result (gcm_hkdf_of c.args.key.now) (gcm_hkdf_sized c.as_slice.result.now c.in-Some.sizes)
    (gcm_hkdf_of_params c.args.key.now (Some c.in-Some.sizes) c.if-key-ne-AES_GCM_HKDF_KEY_VERSION.false c.in-Some.ensures
    ∙ ap (λ main. gcm_hkdf_sized main c.in-Some.sizes) (sym c.as_slice.ensures))
    c.sized_key.ensures

pub returns-in-None : goal.returns-in-None
returns-in-None c =
    invalid c.new-in-None.result (gcm_hkdf_of c.args.key.now) c.new-in-None.ensures
    (gcm_hkdf_of_params c.args.key.now None c.if-key-ne-AES_GCM_HKDF_KEY_VERSION.false c.in-None.ensures)
