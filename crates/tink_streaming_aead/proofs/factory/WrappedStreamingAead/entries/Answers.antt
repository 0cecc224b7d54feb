use Rattle.std.proofs.Common.{ap, ◌∙◌}
use Rattle.tink_streaming_aead.specs.Wrapped.{Wrapped, keys_in}
use Rattle.tink_streaming_aead.proofs.WrappedFacts.{lent_keys}
use Rattle.tink_streaming_aead.proofs.factory.WrappedStreamingAead.entries.Goals as goal

pub returns-in-Ok-clause-keys : goal.returns-in-Ok-clause-keys
returns-in-Ok-clause-keys c =
    lent_keys (λ e. e.now) c.in-Ok.entries.items ∙ ap keys_in c.in-Ok.ensures.value ∙ ap (λ (w : Wrapped). w.keys) c.self.view_is

pub returns-in-Ok-clause-entries : goal.returns-in-Ok-clause-entries
returns-in-Ok-clause-entries c = c.in-Ok.ensures.value ∙ ap (λ (w : Wrapped). w.entries) c.self.view_is
