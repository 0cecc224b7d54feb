use Rattle.std.proofs.Common.{ℕ, replicate, sym}
use Rattle.std.proofs.lemmas.List.{length-replicate}
use Rattle.tink_range.proofs.chunks.RangeCore.text_len.Goals as goal

pub returns : goal.returns
returns g c =
    let behind = c.args.self.now.behind in
    sym (c.shape-shape.ensures.shape (replicate behind 0) (length-replicate {A = ℕ} behind 0)).places
