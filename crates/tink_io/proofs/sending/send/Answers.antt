use Rattle.std.proofs.Common.{◌≡◌, ◌-◌, ℕ, List, length, take, drop, arith, length-drop}
use Rattle.std.proofs.lemmas.List.{take_all}
use Rattle.std.proofs.Math.Seq.{take-add}
use Rattle.std.proofs.KnownBytes.{Appends-trans}
use Rattle.tink_io.proofs.sending.send.Goals as goal

-- the rest, cut at its own length
whole_rest : (d : ℕ) (xs : List ℕ) → take (length xs - d) (drop d xs) ≡ drop d xs
whole_rest d xs = take_all (length xs - d) (drop d xs) (omega (arith, length-drop d xs))

pub loop-sent-preserved : goal.loop-sent-preserved
loop-sent-preserved g c =
    let bytes = rw whole_rest at c.in-Ok.ensures.bytes in
    record {
      within = omega (arith, c.in-Ok.ensures.bound, length-drop {A = ℕ});
      written = rw take-add (Appends-trans _ _ _ _ _ c.loop-sent.invariant.written bytes);
      later = omega (arith, c.in-Ok.ensures.cause.later);
      same = g.met.K.Sink.same_trans _ _ _ c.loop-sent.invariant.same c.in-Ok.ensures.same;
    }
