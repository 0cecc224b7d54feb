use Rattle.cipher.proofs.Chunks.{chunks_read, rest_read}
use Rattle.cipher.proofs.buffers.InOutBuf.into_chunks.Goals as goal

pub returns-clause-front : goal.returns-clause-front
returns-clause-front g c =
    rw (c.as_chunks.ensures.front, c.as_chunks_mut-chunks.ensures.front) (chunks_read _ c.args.self.input.now c.args.self.output.now c.part_of.result.now c.part_of.ensures.value)

pub returns-clause-back : goal.returns-clause-back
returns-clause-back g c =
    rw (c.as_chunks.ensures.back, c.as_chunks_mut-chunks.ensures.back) (rest_read _ c.args.self.input.now c.args.self.output.now c.part_of.result.now c.part_of.ensures.value)
