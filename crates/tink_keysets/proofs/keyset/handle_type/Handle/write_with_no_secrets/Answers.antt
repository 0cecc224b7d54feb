use Rattle.std.proofs.Common.{Err, Ok, ap, sym, ◌∙◌}
use Rattle.std.specs.List.{list_any}
use Rattle.std.proofs.lemmas.Bool.{cond-false}
use Rattle.keyset_model.specs.Secrets.{has_secrets, is_secret}
use Rattle.tink_io.specs.declared.error.Kind.TheVariants.{HasSecrets}
use Rattle.tink_keysets.specs.Handles.{without_secrets}
use Rattle.tink_keysets.proofs.ThroughFacts.{to_write}
use Rattle.tink_keysets.proofs.keyset.handle_type.Handle.write_with_no_secrets.Goals as goal

pub returns-clause-answer : goal.returns-clause-answer
returns-clause-answer g c =
    to_write g.W.Writer.answers g.W.Writer.writes g.W.Writer.refused g.W.Writer.faults c.write.result (without_secrets c.args.self.now)
    c.keyset.result.now c.args.writer.now c.write.new.self
    (cond-false (has_secrets c.args.self.now) (Err HasSecrets) (Ok c.args.self.now) (ap (list_any is_secret) (sym c.keys.ensures) ∙ sym c.if-have_secrets.ensures)
    ∙ ap Ok (sym c.keyset.ensures.keyset))
    c.write.ensures.answer c.write.ensures.written c.write.ensures.refused
