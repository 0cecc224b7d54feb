use Rattle.std.proofs.lemmas.List.{take_all}
use Rattle.std.proofs.Common.{◌≡◌, ℕ, ◌+◌, ◌-◌, ◌*◌, ◌/◌, ◌%◌, ◌≤◌, ◌++◌, ◌∙◌, List, refl, ap, take, drop, length, arith, subst, length-take, length-drop, le_antisymm, le_trans, le_of_eq, sym}
use Rattle.std.proofs.Math.Nat.{mul-mod_left, div-mul-le_self}
use Rattle.std.specs.Prelude.{bit_xor}
use Rattle.cipher_stream.specs.ByteStream.{to_come, buffered, HasMoved, LeavesFewer}
use Rattle.cipher_stream.proofs.Applied.{length_so_far, applied_all}
use Rattle.cipher_stream.proofs.Places.{moved_both}
use Rattle.cipher_stream.proofs.Rests.{applied_then, leaves_both, moved_whole}
use Rattle.cipher_stream.proofs.wrapper.BufferedCore+T+array+B+u8.apply_fresh.Goals as goal

pub apply_blocks-requires : goal.apply_blocks-requires
apply_blocks-requires g c =
    let n : ℕ = length c.args.bytes.now in
    let at : ℕ = n / g.row.B * g.row.B in
    let le : at ≤ n = div-mul-le_self n g.row.B in
    let ln : length (take at c.args.bytes.now) ≡ at = simp length-take (omega arith) in
    let whole : length (take at c.args.bytes.now) % g.row.B ≡ 0 = ap (λ m. m % g.row.B) ln ∙ mul-mod_left (n / g.row.B) g.row.B in
    (omega arith, (c.requires, whole))

pub returns-then-whole-bytes-clause-value : goal.returns-then-whole-bytes-clause-value
returns-then-whole-bytes-clause-value g c =
    let B = g.row.B in
    let old = c.args.bytes.now in
    let at : ℕ = length old / B * B in
    let s = buffered B g.T.StreamCipherCore.keystream c.args.self.now in
    let t = buffered B g.T.StreamCipherCore.keystream c.apply_blocks.new.self in
    applied_then (to_come s) (to_come t) old (c.apply_blocks.new.bytes ++ drop at old) c.apply_last.new.bytes at _ (div-mul-le_self (length old) B) (ap (λ l. l ++ drop at old) c.apply_blocks.ensures.value) refl
    (moved_whole s t B old c.apply_blocks.ensures.moved).ahead c.apply_last.ensures.value

pub returns-then-whole-bytes-clause-moved : goal.returns-then-whole-bytes-clause-moved
returns-then-whole-bytes-clause-moved g c =
    let B = g.row.B in
    let old = c.args.bytes.now in
    let s = buffered B g.T.StreamCipherCore.keystream c.args.self.now in
    let t = buffered B g.T.StreamCipherCore.keystream c.apply_blocks.new.self in
    let u = buffered B g.T.StreamCipherCore.keystream c.apply_last.new.self in
    let at : ℕ = length old / B * B in
    let le : at ≤ length old = div-mul-le_self (length old) B in
    let cur : List ℕ = c.apply_blocks.new.bytes ++ drop at old in
    let size : length cur ≡ length old = length_so_far bit_xor (to_come s) old cur at (ap (λ l. l ++ drop at old) c.apply_blocks.ensures.value) in
    let left : length (take (length cur - at) (drop at cur)) ≡ length old - at = simp (length-take, length-drop) (omega arith) in
    let all : at + (length old - at) ≡ length old = omega arith in
    subst (λ m. HasMoved s m u) all (moved_both s t u at (length old - at) (moved_whole s t B old c.apply_blocks.ensures.moved) (subst (λ m. HasMoved t m u) left c.apply_last.ensures.moved))

pub returns-then-whole-bytes-clause-leaves : goal.returns-then-whole-bytes-clause-leaves
returns-then-whole-bytes-clause-leaves g c =
    let B = g.row.B in
    let r = g.T.StreamCipherCore.remaining in
    let old = c.args.bytes.now in
    let s = c.args.self.now in
    let t = c.apply_blocks.new.self in
    let u = c.apply_last.new.self in
    let at : ℕ = length old / B * B in
    let le : at ≤ length old = div-mul-le_self (length old) B in
    let cur : List ℕ = c.apply_blocks.new.bytes ++ drop at old in
    let size : length cur ≡ length old = length_so_far bit_xor (to_come (buffered B g.T.StreamCipherCore.keystream s)) old cur at (ap (λ l. l ++ drop at old) c.apply_blocks.ensures.value) in
    let front : length (take at old) ≡ at = simp length-take (omega arith) in
    let left : length (take (length cur - at) (drop at cur)) ≡ length old - at = simp (length-take, length-drop) (omega arith) in
    let all : at + (length old - at) ≡ length old = omega arith in
    subst (λ m. LeavesFewer B r s m u) all (leaves_both B (r s.0) (r t.0) (r u.0) s.1 t.1 u.1 at (length old - at) (subst (λ m. LeavesFewer B r s m t) front c.apply_blocks.ensures.leaves) (subst (λ m. LeavesFewer B r t m u) left c.apply_last.ensures.leaves))

pub returns-else-whole-bytes-clause-value : goal.returns-else-whole-bytes-clause-value
returns-else-whole-bytes-clause-value g c =
    let B = g.row.B in
    let old = c.args.bytes.now in
    let at : ℕ = length old / B * B in
    let s = buffered B g.T.StreamCipherCore.keystream c.args.self.now in
    let t = buffered B g.T.StreamCipherCore.keystream c.apply_blocks.new.self in
    let cur : List ℕ = c.apply_blocks.new.bytes ++ drop at old in
    let size : length cur ≡ length old = length_so_far bit_xor (to_come s) old cur at (ap (λ l. l ++ drop at old) c.apply_blocks.ensures.value) in
    let end : length old ≤ at = le_trans (le_of_eq (sym size)) c.if-whole-bytes.false in
    applied_all bit_xor (to_come s) old cur at end (ap (λ l. l ++ drop at old) c.apply_blocks.ensures.value)

pub returns-else-whole-bytes-clause-moved : goal.returns-else-whole-bytes-clause-moved
returns-else-whole-bytes-clause-moved g c =
    let B = g.row.B in
    let old = c.args.bytes.now in
    let at : ℕ = length old / B * B in
    let s = buffered B g.T.StreamCipherCore.keystream c.args.self.now in
    let t = buffered B g.T.StreamCipherCore.keystream c.apply_blocks.new.self in
    let cur : List ℕ = c.apply_blocks.new.bytes ++ drop at old in
    let size : length cur ≡ length old = length_so_far bit_xor (to_come s) old cur at (ap (λ l. l ++ drop at old) c.apply_blocks.ensures.value) in
    let end : length old ≤ at = le_trans (le_of_eq (sym size)) c.if-whole-bytes.false in
    subst (λ m. HasMoved s m t) (le_antisymm (div-mul-le_self (length old) B) end) (moved_whole s t B old c.apply_blocks.ensures.moved)

pub returns-else-whole-bytes-clause-leaves : goal.returns-else-whole-bytes-clause-leaves
returns-else-whole-bytes-clause-leaves g c =
    let B = g.row.B in
    let old = c.args.bytes.now in
    let at : ℕ = length old / B * B in
    let s = buffered B g.T.StreamCipherCore.keystream c.args.self.now in
    let t = buffered B g.T.StreamCipherCore.keystream c.apply_blocks.new.self in
    let cur : List ℕ = c.apply_blocks.new.bytes ++ drop at old in
    let size : length cur ≡ length old = length_so_far bit_xor (to_come s) old cur at (ap (λ l. l ++ drop at old) c.apply_blocks.ensures.value) in
    let end : length old ≤ at = le_trans (le_of_eq (sym size)) c.if-whole-bytes.false in
    let front : length (take at old) ≡ length old = ap length (take_all at old end) in
    subst (λ m. LeavesFewer B g.T.StreamCipherCore.remaining c.args.self.now m c.apply_blocks.new.self) front c.apply_blocks.ensures.leaves
