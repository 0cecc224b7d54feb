-- The CMAC of a text in two parts.
use Rattle.std.specs.Prelude.{ℕ, ◌-◌, ◌*◌, ◌/◌, List, length, drop}
use Rattle.standards.specs.Blocks.{over_blocks}
use Rattle.standards.specs.Cmac.{chain_step, last_block}
use Rattle.standards.specs.Lists.{xor_bytes}

-- the tag of a longer text, by the chain over its first blocks and what stands behind them (SP 800-38B, 6.2)
abbrev pub cmac_from : (List ℕ → List ℕ) → List ℕ → List ℕ → List ℕ
cmac_from E start rest =
    let n = (length rest - 1) / 16 in
    E (xor_bytes (over_blocks (chain_step E) start rest n) (last_block E (drop (16 * n) rest)))
