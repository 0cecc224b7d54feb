use Rattle.std.proofs.Common.{◌∙◌, ap}
use Rattle.cipher.proofs.Parts.{pick-nil}
use Rattle.cipher_stream.specs.ByteStream.{to_come}
use Rattle.cipher_stream.specs.Keystream.{xored}
use Rattle.cipher_stream.proofs.ciphers.StreamCipher.apply_keystream.Goals as goal

pub returns-clause-value : goal.returns-clause-value
returns-clause-value g c = c.unchecked_apply_keystream_slices.ensures.value ∙ ap (xored (to_come (g.Self.StreamCipher.stream c.args.self.now))) (pick-nil c.args.buf.now)
