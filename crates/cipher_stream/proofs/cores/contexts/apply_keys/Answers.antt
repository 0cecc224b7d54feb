use Rattle.std.proofs.Common.{◌∙◌, sym, ap, length}
use Rattle.standards.specs.Lists.{xor_bytes}
use Rattle.cipher_stream.specs.Keystream.{combined, stream_of}
use Rattle.cipher_stream.proofs.Applied.{combined-applied}
use Rattle.cipher_stream.proofs.cores.contexts.apply_keys.Goals as goal

pub returns-clause-value : goal.returns-clause-value
returns-clause-value g c =
    c.xor_blocks.ensures.value ∙ (ap (combined xor_bytes c.args.output.now) c.gen_some.ensures.value
    ∙ combined-applied xor_bytes (stream_of (g.K.StreamCipherBackend.keystream c.args.backend.now)) c.args.output.now (length c.args.keys.now) (sym c.requires.size))
