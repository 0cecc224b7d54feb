use Rattle.std.proofs.Common.{◌≡◌, ◌∷◌, ◌++◌, List, [], ap, ◌∙◌}
use Rattle.std.proofs.lemmas.Result.{on_ok_weaker}
use Rattle.tink_proto.specs.declared.enums.HashType.TheVariants.{Sha256}
use Rattle.tink_proto.specs.declared.enums.OutputPrefixType.TheVariants.{Raw, Tink}
use Rattle.tink_aead.specs.ComposedKeys.{composed_template}
use Rattle.tink_aead.specs.KeyTypes.{gcm_siv_template, gcm_template}
use Rattle.tink_aead.proofs.registering.add_templates.Goals as goal

behind : {T : Type 0} (xs ys zs : List T) (x : T) → ys ≡ xs → zs ≡ ys ++ x ∷ [] → zs ≡ xs ++ x ∷ []
behind xs ys zs x e f = f ∙ ap (λ l. l ++ x ∷ []) e

pub add-requires : goal.add-requires
add-requires c = (gcm_template 16 Tink, c.aes128_gcm_key_template-made.ensures)

pub add-requires-2 : goal.add-requires-2
add-requires-2 c = (gcm_template 32 Tink, c.aes256_gcm_key_template-made.ensures)

pub add-requires-3 : goal.add-requires-3
add-requires-3 c = (gcm_template 32 Raw, c.aes256_gcm_no_prefix_key_template-made.ensures)

pub add-requires-4 : goal.add-requires-4
add-requires-4 c = (gcm_siv_template 16 Tink, c.aes128_gcm_siv_key_template-made.ensures)

pub add-requires-5 : goal.add-requires-5
add-requires-5 c = (gcm_siv_template 32 Tink, c.aes256_gcm_siv_key_template-made.ensures)

pub add-requires-6 : goal.add-requires-6
add-requires-6 c = (gcm_siv_template 32 Raw, c.aes256_gcm_siv_no_prefix_key_template-made.ensures)

pub add-requires-7 : goal.add-requires-7
add-requires-7 c = (composed_template 16 16 32 16 Sha256, c.aes128_ctr_hmac_sha256_key_template-made.ensures)

pub add-requires-8 : goal.add-requires-8
add-requires-8 c = (composed_template 32 16 32 32 Sha256, c.aes256_ctr_hmac_sha256_key_template-made.ensures)

pub returns-clause-value : goal.returns-clause-value
returns-clause-value c =
    let n1 = behind [] _ _ _ c.requires (c.in_ok-add.ensures.value (gcm_template 16 Tink) c.aes128_gcm_key_template-made.ensures) in
    let n2 = behind _ _ _ _ n1 (c.in_ok-add-2.ensures.value (gcm_template 32 Tink) c.aes256_gcm_key_template-made.ensures) in
    let n3 = behind _ _ _ _ n2 (c.in_ok-add-3.ensures.value (gcm_template 32 Raw) c.aes256_gcm_no_prefix_key_template-made.ensures) in
    let n4 = behind _ _ _ _ n3 (c.in_ok-add-4.ensures.value (gcm_siv_template 16 Tink) c.aes128_gcm_siv_key_template-made.ensures) in
    let n5 = behind _ _ _ _ n4 (c.in_ok-add-5.ensures.value (gcm_siv_template 32 Tink) c.aes256_gcm_siv_key_template-made.ensures) in
    let n6 = behind _ _ _ _ n5 (c.in_ok-add-6.ensures.value (gcm_siv_template 32 Raw) c.aes256_gcm_siv_no_prefix_key_template-made.ensures) in
    let n7 = behind _ _ _ _ n6 (c.in_ok-add-7.ensures.value (composed_template 16 16 32 16 Sha256) c.aes128_ctr_hmac_sha256_key_template-made.ensures) in
    on_ok_weaker c.add-8.result (λ e. behind _ _ _ _ n7 e) (c.add-8.ensures.value (composed_template 32 16 32 32 Sha256) c.aes256_ctr_hmac_sha256_key_template-made.ensures)
