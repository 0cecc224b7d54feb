use Rattle.std.proofs.Common.{◌≡◌, ◌+◌, ◌-◌, ◌∙◌, ap, subst, sym, take, drop, length, arith, length-take, length-drop}
use Rattle.std.specs.Prelude.{bit_xor}
use Rattle.cipher_stream.specs.Keystream.{applied}
use Rattle.cipher_stream.specs.ByteStream.{to_come, HasMoved, LeavesRoom}
use Rattle.cipher_stream.specs.StreamVectors.{Passes}
use Rattle.cipher_stream.proofs.Places.{moved_both}
use Rattle.cipher_stream.proofs.VectorFacts.{passes_more, byte_fault, no_fault, leaves_more}
use Rattle.cipher_stream.proofs.dev.stream.test_pieces.Goals as goal

pub returns-in-Err-clause-bytes : goal.returns-in-Err-clause-bytes
returns-in-Err-clause-bytes g c = λ one.
    let k = g.C.StreamCipher in
    let at = c.loop-at.at in
    let n = c.min-count.result in
    let from = c.args.from.now in
    let wanted = c.args.wanted.now in
    let j : at + n - at ≡ 1 = omega arith in
    byte_fault (k.stream c.args.cipher.now) (k.stream c.loop-at.cipher) (k.has c.args.cipher.now) (k.has c.loop-at.cipher) from wanted (take (at + n - at) (drop at from)) (take (at + n - at) (drop at wanted)) at c.in-Err.text (omega arith)
    c.loop-at.invariant.moved c.loop-at.invariant.leaves (c.loop-at.invariant.passed one) (ap (λ m. take m (drop at from)) j) (ap (λ m. take m (drop at wanted)) j) c.in-Err.ensures.told

pub returns-in-Err-clause-again : goal.returns-in-Err-clause-again
returns-in-Err-clause-again g c = λ all.
    let k = g.C.StreamCipher in
    let at = c.loop-at.at in
    let n = c.min-count.result in
    let from = c.args.from.now in
    let wanted = c.args.wanted.now in
    let j : at + n - at ≡ n = omega arith in
    absurd (no_fault (k.stream c.args.cipher.now) (k.stream c.loop-at.cipher) (k.has c.args.cipher.now) (k.has c.loop-at.cipher) from wanted (take (at + n - at) (drop at from)) (take (at + n - at) (drop at wanted)) at n c.in-Err.text (omega arith)
    (omega arith) c.loop-at.invariant.moved c.loop-at.invariant.leaves all (ap (λ m. take m (drop at from)) j) (ap (λ m. take m (drop at wanted)) j) c.in-Err.ensures.told)

pub loop-at-preserved : goal.loop-at-preserved
loop-at-preserved g c =
    let k = g.C.StreamCipher in
    let at = c.loop-at.at in
    let n = c.min-count.result in
    let from = c.args.from.now in
    let wanted = c.args.wanted.now in
    let s = k.stream c.args.cipher.now in
    let t = k.stream c.loop-at.cipher in
    let u = k.stream c.test_piece-told.new.cipher in
    let j : at + n - at ≡ n = omega arith in
    let ln : length (take (at + n - at) (drop at from)) ≡ n = simp (length-take, length-drop) (omega arith) in
    let told = c.in_default.ensures in
    record {
      within = omega arith;
      moved = moved_both s t u at n c.loop-at.invariant.moved (subst (λ m. HasMoved t m u) ln told.moved);
      leaves = leaves_more (k.has c.args.cipher.now) (k.has c.loop-at.cipher) (k.has c.test_piece-told.new.cipher) at n c.loop-at.invariant.leaves (subst (λ m. LeavesRoom (k.has c.loop-at.cipher) m (k.has c.test_piece-told.new.cipher)) ln told.leaves);
      passed = λ one.
          let single : n ≡ 1 = omega arith in
          let i : at + n - at ≡ 1 = omega arith in
          subst (λ m. Passes s (k.has c.args.cipher.now) from wanted (at + m)) (sym single)
          (passes_more s t (k.has c.args.cipher.now) (k.has c.loop-at.cipher) from wanted at (omega arith) c.loop-at.invariant.moved c.loop-at.invariant.leaves (c.loop-at.invariant.passed one) (subst (k.has c.loop-at.cipher) (ln ∙ single) told.told.0)
          (ap (λ m. applied bit_xor (to_come t) (take m (drop at from))) (sym i) ∙ (told.told.1 ∙ ap (λ m. take m (drop at wanted)) i)));
    }
