use Rattle.std.proofs.Common.{List, ℕ, subst, take, arith}
use Rattle.std.specs.Prelude.{OnErr, OnOk}
use Rattle.std.proofs.KnownBytes.{Appends-trans}
use Rattle.std.proofs.lemmas.Result.{err_from_is_err_and, on_err_weaker, on_ok_weaker}
use Rattle.std.specs.Io.KnownBytes.{Appends}
use Rattle.tink_io.proofs.FaultLemmas.{Rose-earlier}
use Rattle.tink_io.proofs.WrittenLemmas.{prefix_of_more, then_prefix}
use Rattle.tink_io.specs.Written.{AppendsPrefix}
use Rattle.tink_streaming_keys.proofs.new_stream.Front.write.Goals as goal

pub returns-clause-prefix : goal.returns-clause-prefix
returns-clause-prefix g c =
    let f = c.self.inside in
    subst (λ (bytes : List ℕ). OnErr c.write_all-2.result (AppendsPrefix (g.K.Sink.got c.args.sink.now) (g.K.Sink.got c.write_all-2.new.sink) bytes)) c.self.view_is
    (on_err_weaker c.write_all-2.result
    (then_prefix (g.K.Sink.got c.args.sink.now) (g.K.Sink.got c.write_all.new.sink) (g.K.Sink.got c.write_all-2.new.sink) f.out.now (take f.size f.header) c.in_ok-write_all.ensures.written)
    c.write_all-2.ensures.prefix)

pub returns-clause-written : goal.returns-clause-written
returns-clause-written g c =
    let f = c.self.inside in
    subst (λ (bytes : List ℕ). OnOk c.write_all-2.result (Appends (g.K.Sink.got c.args.sink.now) (g.K.Sink.got c.write_all-2.new.sink) bytes)) c.self.view_is
    (on_ok_weaker c.write_all-2.result
    (Appends-trans (g.K.Sink.got c.args.sink.now) (g.K.Sink.got c.write_all.new.sink) (g.K.Sink.got c.write_all-2.new.sink) f.out.now (take f.size f.header) c.in_ok-write_all.ensures.written)
    c.write_all-2.ensures.written)

pub returns-clause-refused : goal.returns-clause-refused
returns-clause-refused g c = c.write_all-2.ensures.refused

pub returns-clause-cause : goal.returns-clause-cause
returns-clause-cause g c = on_err_weaker c.write_all-2.result (Rose-earlier (g.K.Sink.faults c.args.sink.now) (g.K.Sink.faults c.write_all.new.sink) (g.K.Sink.faults c.write_all-2.new.sink) c.in_ok-write_all.ensures.later) c.write_all-2.ensures.cause

pub returns-clause-later : goal.returns-clause-later
returns-clause-later g c = omega (arith, c.in_ok-write_all.ensures.later, c.write_all-2.ensures.later)

pub returns-clause-same : goal.returns-clause-same
returns-clause-same g c = g.met.K.Sink.same_trans _ _ _ c.in_ok-write_all.ensures.same c.write_all-2.ensures.same

pub returns-in_err-write_all-clause-written : goal.returns-in_err-write_all-clause-written
returns-in_err-write_all-clause-written g c = let p = err_from_is_err_and c.from_residual.result c.from_residual.ensures.1 in rw p.1 tt

pub returns-in_err-write_all-clause-prefix : goal.returns-in_err-write_all-clause-prefix
returns-in_err-write_all-clause-prefix g c =
    let p = err_from_is_err_and c.from_residual.result c.from_residual.ensures.1 in
    let f = c.self.inside in
    rw p.1 (subst (AppendsPrefix (g.K.Sink.got c.args.sink.now) (g.K.Sink.got c.write_all.new.sink)) c.self.view_is
    (prefix_of_more (g.K.Sink.got c.args.sink.now) (g.K.Sink.got c.write_all.new.sink) f.out.now (take f.size f.header) c.in_err-write_all.ensures.prefix))

pub returns-in_err-write_all-clause-refused : goal.returns-in_err-write_all-clause-refused
returns-in_err-write_all-clause-refused g c = let p = err_from_is_err_and c.from_residual.result c.from_residual.ensures.1 in rw (p.1, p.2) c.in_err-write_all.ensures.refused

pub returns-in_err-write_all-clause-cause : goal.returns-in_err-write_all-clause-cause
returns-in_err-write_all-clause-cause g c = let p = err_from_is_err_and c.from_residual.result c.from_residual.ensures.1 in rw p.1 c.in_err-write_all.ensures.cause

pub returns-in_err-write_all-clause-later : goal.returns-in_err-write_all-clause-later
returns-in_err-write_all-clause-later g c = c.in_err-write_all.ensures.later

pub returns-in_err-write_all-clause-same : goal.returns-in_err-write_all-clause-same
returns-in_err-write_all-clause-same g c = c.in_err-write_all.ensures.same
