use Rattle.std.proofs.Common.{◌≡◌, ℕ, List, ap, take, length, replicate, ◌∙◌, arith}
use Rattle.std.proofs.lemmas.List.{length-take-le}
use Rattle.hash_keys.specs.Hash.{hkdf_of}
use Rattle.tink_streaming_keys.specs.StreamingKeys.{with_main}
use Rattle.tink_streaming_keys.proofs.DerivedKeys.{derived_with, front_taken}
use Rattle.tink_streaming_keys.proofs.stream_params.derived_cipher.Goals as goal

pub returns : goal.returns
returns c =
    let n = c.derived_bytes-size.result in
    let zeros : List ℕ = replicate 64 0 in
    let room : length (take n zeros) ≡ n = length-take-le n zeros c.derived_bytes-size.ensures.few in
    let made = c.derive_keys.ensures ∙ ap (λ m. hkdf_of c.args.hash c.args.main_key.now c.args.salt.now c.args.aad.now m) (room ∙ c.derived_bytes-size.ensures.value) in
    derived_with (with_main c.args.main_key.now c.args.params.now) c.args.aad.now c.args.salt.now _ c.derive_keys.new.keys c.args.hash _ c.requires made
    (front_taken n c.derive_keys.new.keys _ (omega (arith, c.derive_keys.auto.keys, room))) c.cipher_under.ensures
