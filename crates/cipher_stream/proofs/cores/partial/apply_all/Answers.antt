use Rattle.std.proofs.Common.{◌≡◌, ℕ, ◌+◌, ◌-◌, ◌*◌, ◌/◌, ◌%◌, ◌≤◌, ◌++◌, ◌∙◌, List, ap, take, drop, length, arith, subst, length-take}
use Rattle.std.proofs.Math.Nat.{mul-mod_left, div-mul-le_self}
use Rattle.std.specs.Prelude.{bit_xor}
use Rattle.cipher_stream.specs.Keystream.{bytes_of, applied, IsMoved}
use Rattle.cipher_stream.proofs.Applied.{applied_next, applied_all, length_so_far}
use Rattle.cipher_stream.proofs.BlockBytes.{whole_place, bytes_moved}
use Rattle.cipher_stream.proofs.cores.partial.apply_all.Goals as goal

pub apply_whole-requires : goal.apply_whole-requires
apply_whole-requires g c =
    let n : ℕ = length c.args.bytes.now in
    let at : ℕ = n / g.row.B * g.row.B in
    let le : at ≤ n = div-mul-le_self n g.row.B in
    let ln : length (take at c.args.bytes.now) ≡ at = simp length-take (omega arith) in
    ap (λ m. m % g.row.B) ln ∙ mul-mod_left (n / g.row.B) g.row.B

pub returns : goal.returns
returns g c =
    let B = g.row.B in
    let old = c.args.bytes.now in
    let n : ℕ = length old in
    let at : ℕ = n / B * B in
    let le : at ≤ n = div-mul-le_self n B in
    let ln : length (take at old) ≡ at = simp length-take (omega arith) in
    let k = g.T.StreamCipherCore.keystream c.args.core in
    let k' = g.T.StreamCipherCore.keystream c.apply_whole.new.core in
    let cur : List ℕ = c.apply_whole.new.bytes ++ drop at old in
    let e : cur ≡ applied bit_xor (bytes_of B k) (take at old) ++ drop at old = ap (λ l. l ++ drop at old) c.apply_whole.ensures.value in
    let size : length cur ≡ n = length_so_far bit_xor (bytes_of B k) old cur at e in
    let place : at / B * B ≡ at = whole_place B at (mul-mod_left (n / B) B) in
    let moved : IsMoved k (at / B) k' = subst (λ m. IsMoved k (m / B) k') ln c.apply_whole.ensures.is_moved in
    record {
      value = applied_all bit_xor (bytes_of B k) old _ (at + (n - at)) (omega arith)
          (applied_next bit_xor (bytes_of B k) (bytes_of B k') old cur c.apply_last.new.bytes at (n - at) (length cur - at) (omega arith) (omega arith) e
          (λ i _. bytes_moved B k k' (at / B) i (omega (arith, g.met.T.StreamCipherCore.block_size)) moved ∙ ap (λ m. bytes_of B k (m + i)) place) c.apply_last.ensures.value);
    }
