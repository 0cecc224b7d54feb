use Rattle.std.proofs.Common.{◌≡◌, arith, ap, get_or, length, [], ◌∙◌}
use Rattle.aes_block.specs.Parts.{half}
use Rattle.aes_block.proofs.Halves.{first-joined, second-joined}
use Rattle.aes_block.proofs.planes.vectors.pair.Goals as goal

pub returns-clause-first : goal.returns-clause-first
returns-clause-first c = ap (half 0) c.joined.ensures ∙ first-joined _ _ (omega arith)

pub returns-clause-second : goal.returns-clause-second
returns-clause-second c =
    let size : length (get_or c.args.arrays.now c.args.i []) ≡ 16 = omega arith in
    ap (half 1) c.joined.ensures ∙ second-joined (get_or c.args.arrays.now c.args.i []) _ size
