use Rattle.std.proofs.Common.{List, ℕ}
use Rattle.std.specs.Prelude.{IfOk, Err}
use Rattle.tink_io.specs.Outside.{AreKnown, outside_of}
use Rattle.tink_cli_files.specs.declared.tasks.Task.{Task}
use Rattle.tink_cli_streams.specs.Fitting.{FittingMeans, IsDoneFitting}
use Rattle.tink_cli_streams.proofs.FittingLemmas.{of_signing, put_done, put_means}
use Rattle.tink_cli_streams.proofs.fitting.write_token.Goals as goal

pub returns-in-Ok-clause-means : goal.returns-in-Ok-clause-means
returns-in-Ok-clause-means g c =
    let old = outside_of g.S.Source.left g.S.Source.faults g.K.Sink.got g.K.Sink.faults c.args.source.now c.args.sink.now in
    let new = outside_of g.S.Source.left g.S.Source.faults g.K.Sink.got g.K.Sink.faults c.held_token.new.source c.put_token.new.sink in
    of_signing (λ (task : Task). FittingMeans task c.args.keyset.now c.args.aad.now c.args.draws.now c.held_token.new.draws old new c.put_token.result) c.args.task c.requires
    (put_means c.args.keyset.now c.args.aad.now c.args.draws.now c.held_token.new.draws _ _ _ _ _ _ _ _ _ (c.in-Ok.ensures.held old.got old.write_faults)
    c.put_token.result c.put_token.ensures.none c.put_token.ensures.written c.put_token.ensures.prefix c.put_token.ensures.refused c.put_token.ensures.cause)

pub returns-in-Ok-clause-ok : goal.returns-in-Ok-clause-ok
returns-in-Ok-clause-ok g c =
    let old = outside_of g.S.Source.left g.S.Source.faults g.K.Sink.got g.K.Sink.faults c.args.source.now c.args.sink.now in
    let new = outside_of g.S.Source.left g.S.Source.faults g.K.Sink.got g.K.Sink.faults c.held_token.new.source c.put_token.new.sink in
    of_signing (λ (task : Task). IfOk c.put_token.result (λ report. (T G : List ℕ) → AreKnown old T G
    → IsDoneFitting task c.args.keyset.now c.args.aad.now c.args.draws.now c.held_token.new.draws T G new report)) c.args.task c.requires
    (put_done c.args.keyset.now c.args.aad.now c.args.draws.now c.held_token.new.draws _ _ _ _ _ _ _ _ _ (c.in-Ok.ensures.held old.got old.write_faults)
    c.put_token.result c.put_token.ensures.none c.put_token.ensures.written)

pub returns-in-Err-clause-means : goal.returns-in-Err-clause-means
returns-in-Err-clause-means g c =
    let old = outside_of g.S.Source.left g.S.Source.faults g.K.Sink.got g.K.Sink.faults c.args.source.now c.args.sink.now in
    let new = outside_of g.S.Source.left g.S.Source.faults g.K.Sink.got g.K.Sink.faults c.held_token.new.source c.args.sink.now in
    of_signing (λ (task : Task). FittingMeans task c.args.keyset.now c.args.aad.now c.args.draws.now c.held_token.new.draws old new (Err c.in-Err.e)) c.args.task c.requires
    (c.in-Err.ensures.refused old.got old.write_faults)
