use Rattle.std.proofs.Common.{◌≡◌, subst}
use Rattle.std.specs.Prelude.{IfErr}
use Rattle.tink_io.specs.declared.error.Kind.TheVariants.{OutOfMemory}
use Rattle.tink_proto.specs.Messages.{keyset}
use Rattle.wire_format.specs.Message.{encoded}
use Rattle.tink_keyset_io.specs.Writing.{IsPartOfText}
use Rattle.tink_keyset_io.proofs.WritingLemmas.{written_is}
use Rattle.tink_keyset_io.proofs.binary_io.BinaryWriterWriter.write.Goals as goal

pub returns-clause-written : goal.returns-clause-written
returns-clause-written g c = written_is g.K.Sink.got _ _ _ c.write_as.result (encoded keyset.write c.args.ks.now) c.self.view_is c.write_as.ensures.written

pub returns-clause-refused : goal.returns-clause-refused
returns-clause-refused g c =
    let got = g.K.Sink.got in
    subst (λ s. IfErr c.write_as.result (λ e. IsPartOfText (encoded keyset.write c.args.ks.now) e.kind (got s) (got c.write_as.new.sink))) c.self.view_is
    c.write_as.ensures.prefix

pub returns-clause-unwritten : goal.returns-clause-unwritten
returns-clause-unwritten g c =
    subst (λ s. IfErr c.write_as.result (λ e. e.kind ≡ OutOfMemory → c.write_as.new.sink ≡ s)) c.self.view_is c.write_as.ensures.unwritten
