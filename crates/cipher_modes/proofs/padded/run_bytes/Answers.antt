use Rattle.std.proofs.Common.{◌-◌, ◌≤◌, length, arith}
use Rattle.std.proofs.lemmas.List.{take_rest}
use Rattle.cipher_modes.specs.PaddingLaws.{whole_least}
use Rattle.cipher_modes.proofs.BytesRun.{remains-first, remains-next, remains-none}
use Rattle.cipher_modes.proofs.padded.run_bytes.Goals as goal

pub loop-at-init : goal.loop-at-init
loop-at-init g c = remains-first _ _ _ _ c.requires

pub run_first-requires : goal.run_first-requires
run_first-requires g c =
    let least : g.row.B ≤ length c.loop-at.bytes - c.loop-at.at = whole_least g.row.B (length c.loop-at.bytes - c.loop-at.at) (omega arith) c.loop-at.invariant.whole in omega arith

pub loop-at-preserved : goal.loop-at-preserved
loop-at-preserved g c =
    let least : g.row.B ≤ length c.loop-at.bytes - c.loop-at.at = whole_least g.row.B (length c.loop-at.bytes - c.loop-at.at) (omega arith) c.loop-at.invariant.whole in
    remains-next g.M.Runs.step g.row.B (omega (arith, g.met.M.Runs.block_size)) g.met.M.Runs.sized c.loop-at.mode _ c.loop-at.bytes _ _ _ c.loop-at.at (take_rest c.loop-at.bytes c.loop-at.at) least
    c.loop-at.invariant c.run_first.ensures.value c.run_first.ensures.stepped

pub returns : goal.returns
returns g c = record { value = remains-none _ _ _ _ _ _ (omega arith) c.loop-at.invariant }
