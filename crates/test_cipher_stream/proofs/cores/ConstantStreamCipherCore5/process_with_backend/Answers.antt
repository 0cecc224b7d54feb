use Rattle.std.proofs.Common.{◌^◌, eqb, subst, sym, arith}
use Rattle.cipher_stream.specs.Keystream.{Spends}
use Rattle.test_cipher_stream.specs.CoreStreams.{left_of}
use Rattle.test_cipher_stream.proofs.CoreFacts.{spent_left}
use Rattle.test_cipher_stream.proofs.cores.ConstantStreamCipherCore5.process_with_backend.Goals as goal

pub returns-clause-fed : goal.returns-clause-fed
returns-clause-fed g c =
    let fed = c.call.ensures.fed in
    let total = c.args.self.now.total in
    record {
      count = fed.count;
      goes = fed.goes;
      is_moved = fed.is_moved;
      spent = subst (λ t. Spends (left_of total c.args.self.now.used) fed.count (left_of t c.call.new.backend.used)) (sym c.call.ensures.backend_kept.1)
          (spent_left (eqb total 255) (2 ^ 64) total c.args.self.now.used c.call.new.backend.used fed.count (omega arith) (omega arith) (omega arith) fed.is_moved.moved);
    }
