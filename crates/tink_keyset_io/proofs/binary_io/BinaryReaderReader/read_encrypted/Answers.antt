use Rattle.std.proofs.Common.{subst}
use Rattle.tink_io.specs.declared.error.Kind.TheVariants.{BadKeyset}
use Rattle.tink_proto.specs.Messages.{encrypted_keyset}
use Rattle.wire_format.specs.Message.{decoded}
use Rattle.tink_keysets.specs.Ends.{HasRead}
use Rattle.tink_keyset_io.specs.Reading.{told}
use Rattle.tink_keyset_io.proofs.binary_io.BinaryReaderReader.read_encrypted.Goals as goal

pub returns-clause-answer : goal.returns-clause-answer
returns-clause-answer g c =
    let source = g.S.Source in
    subst (λ s. HasRead c.read_as.result (told BadKeyset (decoded encrypted_keyset.read) (source.left s)) (source.faults s) (source.faults c.read_as.new.source)) c.self.view_is
    c.read_as.ensures.answer
