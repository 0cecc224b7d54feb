use Rattle.std.proofs.Common.{arith, ◌∙◌}
use Rattle.aes_block.proofs.Rounds.{mixed_by_bytes, same_words}
use Rattle.aes_block.proofs.encryption.sub_shift_and_mix.Goals as goal

pub returns : goal.returns
returns c =
    same_words c.mix_column.result c.mix_column-2.result c.mix_column-3.result c.mix_column-4.result _ _ _ _ c.mix_column.ensures c.mix_column-2.ensures c.mix_column-3.ensures c.mix_column-4.ensures
    ∙ mixed_by_bytes c.args.s (omega arith)
