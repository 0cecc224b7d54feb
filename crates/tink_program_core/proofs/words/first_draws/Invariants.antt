use Rattle.std.proofs.Common.{◌≡◌}
use Rattle.tink_program_core.specs.Draws.{draws_in}
use Rattle.rand_chacha.specs.ChaCha.{key_of}
use Rattle.tink_program_core.proofs.words.first_draws.Given as goal

-- the words so far, and the generator behind them
abbrev pub invariant-loop-place : goal.invariant-loop-place
invariant-loop-place l = record {
  bytes : l.bytes.items ≡ draws_in l.fn.seed l.place;
  place : l.rng ≡ record { key = key_of l.fn.seed; stream = 0; word_pos = l.place };
}
