use Rattle.std.proofs.Common.{◌≡◌, ◌+◌, ap, subst, vec_len, All, ◌∙◌}
use Rattle.stream_model.specs.Key.{IsUsable}
use Rattle.tink_streaming_aead.specs.DecryptReaders.{largest}
use Rattle.tink_streaming_aead.specs.DecryptReaders.DecryptState.{Unread}
use Rattle.tink_streaming_aead.specs.Wrapped.{Wrapped, keys_in}
use Rattle.tink_streaming_aead.proofs.factory.WrappedStreamingAead.new_decrypting_reader.Goals as goal

pub returns-in-Ok-clause-answer : goal.returns-in-Ok-clause-answer
returns-in-Ok-clause-answer g c =
    let own = c.args.self.now.keys in
    let choice = c.in-Ok.choice in
    let place = vec_len choice.trial.kept.buffer in
    let keys : keys_in choice.keys.items ≡ own = ap keys_in c.in-Ok.ensures.keys ∙ ap (λ (w : Wrapped). w.keys) c.self.view_is in
    let room : place ≡ largest own + 1 = c.in-Ok.ensures.room ∙ ap (λ ks. largest ks + 1) keys in
    record {
      unread =
          c.of_choice.ensures
          ∙ ap (λ ks. Unread ks choice.data.items place c.args.r) keys
          ∙ ap (λ xs. Unread own xs place c.args.r) c.in-Ok.ensures.data
          ∙ ap (λ n. Unread own c.args.additional_data.now n c.args.r) room;
      usable = subst (All IsUsable) keys c.in-Ok.ensures.usable;
    }
