use Rattle.std.proofs.Common.{sym, ◌∙◌, ap, Some, None}
use Rattle.loading_model.specs.Building.{streaming_of}
use Rattle.tink_streaming_managers.specs.KeyTypes.{ctr_hmac_sized}
use Rattle.tink_streaming_managers.proofs.KeyFacts.{answers_same, invalid, ctr_hmac_of_other, ctr_hmac_of_params}
use Rattle.tink_streaming_managers.proofs.aes_ctr_hmac_key_manager.ctr_hmac_streaming_key.Goals as goal

pub returns-then-key-ne-AES_CTR_HMAC_KEY_VERSION : goal.returns-then-key-ne-AES_CTR_HMAC_KEY_VERSION
returns-then-key-ne-AES_CTR_HMAC_KEY_VERSION c = invalid c.new.result (streaming_of c.args.key.now) c.new.ensures (ctr_hmac_of_other c.args.key.now c.if-key-ne-AES_CTR_HMAC_KEY_VERSION.true)

pub returns-in-Some : goal.returns-in-Some
returns-in-Some c =
    answers_same c.sized_key.result (streaming_of c.args.key.now) (ctr_hmac_sized c.as_slice.result.now c.in-Some.sizes)
    (ctr_hmac_of_params c.args.key.now (Some c.in-Some.sizes) c.if-key-ne-AES_CTR_HMAC_KEY_VERSION.false c.in-Some.ensures
    ∙ ap (λ main. ctr_hmac_sized main c.in-Some.sizes) (sym c.as_slice.ensures))
    c.sized_key.ensures

pub returns-in-None : goal.returns-in-None
returns-in-None c =
    invalid c.new-in-None.result (streaming_of c.args.key.now) c.new-in-None.ensures
    (ctr_hmac_of_params c.args.key.now None c.if-key-ne-AES_CTR_HMAC_KEY_VERSION.false c.in-None.ensures)
