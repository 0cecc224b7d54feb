use Rattle.std.proofs.Common.{length, take, replicate}
use Rattle.std.proofs.lemmas.List.{length-take-le}
use Rattle.tink_aead_subtle.proofs.Blocks.{drawn}
use Rattle.tink_aead_subtle.proofs.aes_ctr.draw_block.Goals as goal

pub returns-clause-replies : goal.returns-clause-replies
returns-clause-replies c =
    let n = c.args.iv_size in
    drawn n (length (take n (replicate 16 0))) c.args.draws.now c.take_into.new.out c.take_into.new.self (length-take-le n (replicate 16 0) c.requires) c.requires c.in_ok-take_into.ensures.taken c.in_ok-take_into.ensures.replies
