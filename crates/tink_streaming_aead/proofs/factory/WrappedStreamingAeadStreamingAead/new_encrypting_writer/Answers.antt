use Rattle.tink_streaming_aead.proofs.factory.WrappedStreamingAeadStreamingAead.new_encrypting_writer.Goals as goal

pub returns : goal.returns
returns g c = record { answer = c.new_encrypting_writer.ensures.answer }
