use Rattle.std.proofs.Common.{◌≡◌, ◌+◌, ◌-◌, ◌*◌, suc, ◌++◌, length, drop, ap, ap₂, refl, ◌∙◌, arith}
use Rattle.std.proofs.lemmas.List.{length-drop, length-take}
use Rattle.std.proofs.lemmas.Slice.{take-put_mid}
use borrow.Rule.Slice.PartMut.{same_len_mid}
use Rattle.standards.specs.GcmSiv.{derived}
use Rattle.gcm.proofs.siv.derive_into.Goals as goal

pub loop-i-init : goal.loop-i-init
unfolding derived
loop-i-init g c = record { size = refl; done = refl }

pub loop-i-preserved : goal.loop-i-preserved
unfolding derived
loop-i-preserved g c =
    let E = g.C.BlockCipherEncrypt.encrypts c.args.c.now in
    let i = c.loop-i.i in
    let key = c.loop-i.key in
    let piece = c.copy_from_slice.new.self in
    let held = c.loop-i.invariant in
    let next : suc i ≡ i + 1 = omega arith in
    let same = same_len_mid (8 * i) (8 * i + 8 - 8 * i) key piece c.copy_from_slice.ensures.len in
    let eight : length piece ≡ 8 = omega (arith, c.copy_from_slice.ensures.len, length-take (8 * i + 8 - 8 * i) (drop (8 * i) key), length-drop (8 * i) key, held.size) in
    record {
      size = same ∙ held.size;
      done =
          take-put_mid (8 * i) (8 * i + 8 - 8 * i) key piece (8 * (i + 1)) (omega arith) (omega (arith, held.size))
          ∙ ap₂ (λ xs ys. xs ++ ys) held.done (c.copy_from_slice.ensures.after ∙ c.derived_piece-piece.ensures)
          ∙ ap (derived E c.args.nonce.now c.args.first) next;
    }
