use Rattle.std.proofs.Common.{◌≡◌, ◌+◌, ◌-◌, refl, take, drop, length, arith, subst, length-take, length-drop, le_antisymm, le_trans, le_of_eq, sym, lt_of_lt_of_le}
use Rattle.std.specs.Prelude.{bit_xor}
use Rattle.cipher_stream.specs.ByteStream.{to_come, bytes_from, HasMoved, LeavesFewer}
use Rattle.cipher_stream.proofs.Applied.{length_so_far, applied_all}
use Rattle.cipher_stream.proofs.Places.{moved_both}
use Rattle.cipher_stream.proofs.Rests.{applied_then, leaves_both, one_fits}
use Rattle.cipher_stream.proofs.wrapper.BufferedCore+T+array+B+u8.apply.Goals as goal

pub returns-then-at-bytes-clause-value : goal.returns-then-at-bytes-clause-value
returns-then-at-bytes-clause-value g c =
    let B = g.row.B in
    let k = g.T.StreamCipherCore.keystream in
    let s = bytes_from B (k c.args.self.now.0) c.args.self.now.1 in
    let t = bytes_from B (k c.apply_rest-at.new.self.0) c.apply_rest-at.new.self.1 in
    applied_then (to_come s) (to_come t) c.args.bytes.now c.apply_rest-at.new.bytes c.apply_fresh.new.bytes c.apply_rest-at.result _ c.apply_rest-at.ensures.within c.apply_rest-at.ensures.value refl c.apply_rest-at.ensures.moved.ahead c.apply_fresh.ensures.value

pub returns-then-at-bytes-clause-moved : goal.returns-then-at-bytes-clause-moved
returns-then-at-bytes-clause-moved g c =
    let B = g.row.B in
    let k = g.T.StreamCipherCore.keystream in
    let old = c.args.bytes.now in
    let at = c.apply_rest-at.result in
    let s = bytes_from B (k c.args.self.now.0) c.args.self.now.1 in
    let t = bytes_from B (k c.apply_rest-at.new.self.0) c.apply_rest-at.new.self.1 in
    let u = bytes_from B (k c.apply_fresh.new.self.0) c.apply_fresh.new.self.1 in
    let cur = c.apply_rest-at.new.bytes in
    let size : length cur ≡ length old = length_so_far bit_xor (to_come s) old cur at c.apply_rest-at.ensures.value in
    let left : length (take (length cur - at) (drop at cur)) ≡ length old - at = simp (length-take, length-drop) (omega arith) in
    let all : at + (length old - at) ≡ length old = omega arith in
    subst (λ m. HasMoved s m u) all (moved_both s t u at (length old - at) c.apply_rest-at.ensures.moved (subst (λ m. HasMoved t m u) left c.apply_fresh.ensures.moved))

pub returns-then-at-bytes-clause-leaves : goal.returns-then-at-bytes-clause-leaves
returns-then-at-bytes-clause-leaves g c =
    let B = g.row.B in
    let k = g.T.StreamCipherCore.keystream in
    let r = g.T.StreamCipherCore.remaining in
    let old = c.args.bytes.now in
    let at = c.apply_rest-at.result in
    let s = c.args.self.now in
    let t = c.apply_rest-at.new.self in
    let u = c.apply_fresh.new.self in
    let cur = c.apply_rest-at.new.bytes in
    let size : length cur ≡ length old = length_so_far bit_xor (to_come (bytes_from B (k s.0) s.1)) old cur at c.apply_rest-at.ensures.value in
    let left : length (take (length cur - at) (drop at cur)) ≡ length old - at = simp (length-take, length-drop) (omega arith) in
    let all : at + (length old - at) ≡ length old = omega arith in
    subst (λ m. LeavesFewer B r s m u) all (leaves_both B (r s.0) (r t.0) (r u.0) s.1 t.1 u.1 at (length old - at) c.apply_rest-at.ensures.leaves (subst (λ m. LeavesFewer B r t m u) left c.apply_fresh.ensures.leaves))

pub apply_fresh-requires : goal.apply_fresh-requires
apply_fresh-requires g c = (one_fits g.row.B g.met.T.StreamCipherCore.block_size, c.apply_rest-at.ensures.rest (lt_of_lt_of_le c.if-at-bytes.true (le_of_eq c.apply_rest-at.auto.bytes)))

pub returns-else-at-bytes-clause-value : goal.returns-else-at-bytes-clause-value
returns-else-at-bytes-clause-value g c =
    let s = bytes_from g.row.B (g.T.StreamCipherCore.keystream c.args.self.now.0) c.args.self.now.1 in
    applied_all bit_xor (to_come s) c.args.bytes.now c.apply_rest-at.new.bytes c.apply_rest-at.result (le_trans (le_of_eq (sym c.apply_rest-at.auto.bytes)) c.if-at-bytes.false) c.apply_rest-at.ensures.value

pub returns-else-at-bytes-clause-moved : goal.returns-else-at-bytes-clause-moved
returns-else-at-bytes-clause-moved g c =
    let B = g.row.B in
    let k = g.T.StreamCipherCore.keystream in
    let s = bytes_from B (k c.args.self.now.0) c.args.self.now.1 in
    let t = bytes_from B (k c.apply_rest-at.new.self.0) c.apply_rest-at.new.self.1 in
    subst (λ m. HasMoved s m t) (le_antisymm c.apply_rest-at.ensures.within (le_trans (le_of_eq (sym c.apply_rest-at.auto.bytes)) c.if-at-bytes.false)) c.apply_rest-at.ensures.moved

pub returns-else-at-bytes-clause-leaves : goal.returns-else-at-bytes-clause-leaves
returns-else-at-bytes-clause-leaves g c =
    subst (λ m. LeavesFewer g.row.B g.T.StreamCipherCore.remaining c.args.self.now m c.apply_rest-at.new.self) (le_antisymm c.apply_rest-at.ensures.within (le_trans (le_of_eq (sym c.apply_rest-at.auto.bytes)) c.if-at-bytes.false)) c.apply_rest-at.ensures.leaves
