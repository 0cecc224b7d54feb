use Rattle.std.proofs.Common.{arith}
use Rattle.cipher_stream.proofs.Streams.{filled_none, filled_more, filled_all}
use Rattle.cipher_stream.proofs.cores.backends.StreamCipherBackend.gen_par_ks_blocks.Goals as goal

pub loop-i-init : goal.loop-i-init
loop-i-init g c = filled_none g.met.Self.StreamCipherBackend.keeps_none c.args.self.now c.args.blocks.now

pub loop-i-preserved : goal.loop-i-preserved
loop-i-preserved g c = filled_more g.met.Self.StreamCipherBackend.keeps_both c.args.self.now c.loop-i.self _ c.args.blocks.now c.loop-i.blocks _ c.loop-i.i c.loop-i-test.true c.loop-i.invariant c.gen_ks_block.ensures.kept c.gen_ks_block.ensures.same_lanes c.gen_ks_block.ensures.value c.gen_ks_block.ensures.is_moved

pub returns : goal.returns
returns g c = let all = filled_all (omega arith) c.loop-i.invariant in record { kept = all.kept; same_lanes = all.same_lanes; value = all.value; is_moved = all.is_moved }
