use Rattle.std.proofs.Common.{◌+◌, All, ap, subst, ◌∙◌}
use Rattle.stream_model.specs.Key.{IsUsable}
use Rattle.tink_streaming_aead.specs.DecryptReaders.{largest}
use Rattle.tink_streaming_aead.specs.Wrapped.{keys_in}
use Rattle.tink_streaming_aead.proofs.factory.choice_of.Goals as goal

pub returns-clause-keys : goal.returns-clause-keys
returns-clause-keys c = c.in_ok-keys.ensures.value

pub returns-clause-data : goal.returns-clause-data
returns-clause-data c = c.in_ok-data.ensures.items_if_clones_equal (λ x y e. e)

pub returns-clause-room : goal.returns-clause-room
returns-clause-room c = c.in_ok-trial.ensures.buffer ∙ c.room_of.ensures.value ∙ ap (λ ks. largest (keys_in ks) + 1) c.deref.ensures.value

pub returns-clause-usable : goal.returns-clause-usable
returns-clause-usable c = subst (λ ks. All IsUsable (keys_in ks)) c.deref.ensures.value c.room_of.ensures.usable
