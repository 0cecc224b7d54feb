use Rattle.std.proofs.Common.{◌≡◌, ◌+◌, ◌-◌, ◌*◌, ◌/◌, ◌%◌, ◌<◌, ◌∙◌, refl, sym, ap, take, drop, length, arith, subst, length-take, length-drop, inl, inr}
use Rattle.std.proofs.lemmas.Bool.{cases_lt}
use Rattle.std.proofs.Math.Nat.{mul-mod_left, zero-mod}
use Rattle.std.specs.Prelude.{bit_xor}
use Rattle.cipher_stream.specs.Keystream.{bytes_of, IsMoved, Spends}
use Rattle.cipher_stream.proofs.Streams.{moved_none, moved_both}
use Rattle.cipher_stream.proofs.Applied.{applied_next, length_so_far}
use Rattle.cipher_stream.proofs.BlockBytes.{whole_both, whole_more, whole_place, bytes_moved, spends_both, spends_none, none_whole, left_whole}
use Rattle.cipher_stream.proofs.cores.partial.apply_whole.Goals as goal

pub loop-at-init : goal.loop-at-init
loop-at-init g c =
    let B = g.row.B in
    let k = g.T.StreamCipherCore in
    let none : 0 ≡ 0 / B = none_whole B (omega (arith, g.met.T.StreamCipherCore.block_size)) in
    record {
      within = omega arith;
      whole = zero-mod B;
      is_moved = subst (λ n. IsMoved (k.keystream c.args.core.now) n (k.keystream c.args.core.now)) none (moved_none _);
      spent = subst (λ n. Spends (k.remaining c.args.core.now) n (k.remaining c.args.core.now)) none (spends_none _);
      so_far = refl;
    }

pub apply_some-requires : goal.apply_some-requires
apply_some-requires g c =
    let B = g.row.B in
    let before = c.loop-at.invariant in
    let at = c.loop-at.at in
    let n = c.min-size.result in
    let bytes = c.args.bytes.now in
    let whole : n % B ≡ 0 = elim (cases_lt (length bytes - at) (16 * B)) [
      | inl h ↦ let e : n ≡ length bytes - at = omega arith in ap (λ m. m % B) e ∙ left_whole B (length bytes) at c.requires before.whole before.within
      | inr h ↦ let e : n ≡ 16 * B = omega arith in ap (λ m. m % B) e ∙ mul-mod_left 16 B
    ] in
    let size : length c.loop-at.bytes ≡ length bytes = length_so_far bit_xor (bytes_of B (g.T.StreamCipherCore.keystream c.args.core.now)) bytes c.loop-at.bytes at before.so_far in
    let ln : length (take (at + n - at) (drop at c.loop-at.bytes)) ≡ n = simp (length-take, length-drop) (omega arith) in
    (omega (arith, g.met.T.StreamCipherCore.block_size), (omega (arith, g.met.T.StreamCipherCore.block_size), (ap (λ m. m % B) ln ∙ whole, omega arith)))

pub loop-at-preserved : goal.loop-at-preserved
loop-at-preserved g c =
    let B = g.row.B in
    let k = g.T.StreamCipherCore in
    let some : 0 < B = omega (arith, g.met.T.StreamCipherCore.block_size) in
    let before = c.loop-at.invariant in
    let step = c.apply_some.ensures in
    let at = c.loop-at.at in
    let n = c.min-size.result in
    let bytes = c.args.bytes.now in
    let old = k.keystream c.args.core.now in
    let mid = k.keystream c.loop-at.core in
    let new = k.keystream c.apply_some.new.core in
    let j : at + n - at ≡ n = omega arith in
    let whole : n % B ≡ 0 = elim (cases_lt (length bytes - at) (16 * B)) [
      | inl h ↦ let e : n ≡ length bytes - at = omega arith in ap (λ m. m % B) e ∙ left_whole B (length bytes) at c.requires before.whole before.within
      | inr h ↦ let e : n ≡ 16 * B = omega arith in ap (λ m. m % B) e ∙ mul-mod_left 16 B
    ] in
    let size : length c.loop-at.bytes ≡ length bytes = length_so_far bit_xor (bytes_of B old) bytes c.loop-at.bytes at before.so_far in
    let ln : length (take (at + n - at) (drop at c.loop-at.bytes)) ≡ n = simp (length-take, length-drop) (omega arith) in
    let count : (at + n) / B ≡ at / B + n / B = whole_more B at n some before.whole whole in
    let place : at / B * B ≡ at = whole_place B at before.whole in
    let moved : IsMoved mid (n / B) new = subst (λ m. IsMoved mid (m / B) new) ln step.is_moved in
    let spent : Spends (k.remaining c.loop-at.core) (n / B) (k.remaining c.apply_some.new.core) = subst (λ m. Spends (k.remaining c.loop-at.core) (m / B) (k.remaining c.apply_some.new.core)) ln step.spent in
    record {
      within = omega arith;
      whole = whole_both B at n before.whole whole;
      is_moved = subst (λ m. IsMoved old m new) (sym count) (moved_both old mid new (at / B) (n / B) before.is_moved moved);
      spent = subst (λ m. Spends (k.remaining c.args.core.now) m (k.remaining c.apply_some.new.core)) (sym count) (spends_both _ _ _ (at / B) (n / B) before.spent spent);
      so_far = applied_next bit_xor (bytes_of B old) (bytes_of B mid) bytes c.loop-at.bytes c.apply_some.new.bytes at n (at + n - at) j (omega arith) before.so_far
          (λ i _. bytes_moved B old mid (at / B) i some before.is_moved ∙ ap (λ m. bytes_of B old (m + i)) place) step.value;
    }
