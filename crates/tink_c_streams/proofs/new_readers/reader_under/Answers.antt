use Rattle.std.proofs.Common.{◌∙◌}
use Rattle.tink_streaming_aead.specs.Wrapped.{all_entries}
use Rattle.tink_c_streams.proofs.NewReaderFacts.{copied, none_kept}
use Rattle.tink_c_streams.proofs.new_readers.reader_under.Goals as goal

pub returns-in-Ok-clause-value : goal.returns-in-Ok-clause-value
returns-in-Ok-clause-value c =
    let choice = c.in-Ok.choice in
    let keys = rw c.deref.ensures.value at c.in-Ok.ensures.keys in (
      copied c.args.associated_data.now choice.data.items choice.keys.items (all_entries c.args.keys.now.entries) c.in-Ok.ensures.data (keys ∙ c.in_ok-entries.ensures.value),
      none_kept choice.trial.kept.filled choice.trial.kept.buffer.items c.in-Ok.ensures.empty,
    )
