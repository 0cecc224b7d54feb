use Rattle.std.proofs.Common.{◌≡◌, ◌∙◌, ap, subst, refl, length, inr, sym}
use Rattle.std.specs.Prelude.{IsOk, bit_xor}
use Rattle.cipher_stream.specs.Keystream.{applied}
use Rattle.cipher_stream.specs.ByteStream.{to_come, LeavesRoom}
use Rattle.cipher_stream.proofs.SoughtPlaces.{false_is}
use Rattle.cipher_stream.proofs.VectorFacts.{ok_told, on_ok}
use Rattle.cipher_stream.proofs.dev.stream.test_in.Goals as goal

pub returns-clause-told : goal.returns-clause-told
returns-clause-told g c =
    let k = g.C.StreamCipher in
    let accepted : IsOk c.try_apply_keystream.result = ok_told _ c.if-is_err.ensures.value in
    let left : k.has c.args.cipher.now (length c.args.from.now) = subst (λ xs. k.has c.args.cipher.now (length xs)) c.copy_from_slice.ensures.after (c.try_apply_keystream.ensures.ok.0 accepted) in
    let made : c.try_apply_keystream.new.buf ≡ applied bit_xor (to_come (k.stream c.args.cipher.now)) c.args.from.now =
    on_ok _ _ accepted c.try_apply_keystream.ensures.value ∙ ap (applied bit_xor (to_come (k.stream c.args.cipher.now))) c.copy_from_slice.ensures.after in
    inr (refl, left, λ e. false_is (c.if-same_bytes.ensures.value.1 (made ∙ e)))

pub returns-then-same_bytes-clause-leaves : goal.returns-then-same_bytes-clause-leaves
returns-then-same_bytes-clause-leaves g c =
    let k = g.C.StreamCipher in
    let accepted : IsOk c.try_apply_keystream.result = ok_told _ c.if-is_err.ensures.value in
    subst (λ xs. LeavesRoom (k.has c.args.cipher.now) (length xs) (k.has c.try_apply_keystream.new.self)) c.copy_from_slice.ensures.after (on_ok _ _ accepted c.try_apply_keystream.ensures.leaves)

pub returns-then-same_bytes-clause-told : goal.returns-then-same_bytes-clause-told
returns-then-same_bytes-clause-told g c =
    let k = g.C.StreamCipher in
    let accepted : IsOk c.try_apply_keystream.result = ok_told _ c.if-is_err.ensures.value in
    let left : k.has c.args.cipher.now (length c.args.from.now) = subst (λ xs. k.has c.args.cipher.now (length xs)) c.copy_from_slice.ensures.after (c.try_apply_keystream.ensures.ok.0 accepted) in
    let made : c.try_apply_keystream.new.buf ≡ applied bit_xor (to_come (k.stream c.args.cipher.now)) c.args.from.now =
    on_ok _ _ accepted c.try_apply_keystream.ensures.value ∙ ap (applied bit_xor (to_come (k.stream c.args.cipher.now))) c.copy_from_slice.ensures.after in
    (left, sym made ∙ c.same_bytes.ensures.value.0 c.if-same_bytes.true)
