use Rattle.cipher_stream.proofs.Streams.{Filled}
use Rattle.cipher_stream.proofs.cores.backends.StreamCipherBackend.gen_par_ks_blocks.Given as goal

abbrev pub invariant-loop-i : goal.invariant-loop-i
invariant-loop-i g l =
    let k = g.Self.StreamCipherBackend in Filled k.keeps k.lanes k.keystream l.initial.self l.self l.initial.blocks l.blocks l.i
