use Rattle.std.proofs.Common.{◌^◌, arith}
use Rattle.test_cipher_stream.proofs.CoreFacts.{spent_counter}
use Rattle.test_cipher_stream.proofs.cores.MixedStreamCipherCore16.process_with_backend.Goals as goal

pub returns-clause-fed : goal.returns-clause-fed
returns-clause-fed g c =
    let fed = c.call.ensures.fed in
    record {
      count = fed.count;
      goes = fed.goes;
      is_moved = fed.is_moved;
      spent = spent_counter (2 ^ 64) c.args.self.now.next c.call.new.backend.next fed.count (omega arith) (omega arith) fed.is_moved.moved;
    }
