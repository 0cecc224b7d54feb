-- The memory that is kept for the choice of a stream's key.
use Rattle.std.specs.Prelude.{ℕ, ◌+◌, vec_capacity}
use Rattle.tink_streaming_keys.specs.declared.starting.Trial.{Trial}

-- that for a segment, its text, its nonce and the prefix of nonces, in bytes
abbrev pub trial_memory : Trial → ℕ
trial_memory t = vec_capacity t.kept.buffer + vec_capacity t.opened + vec_capacity t.nonce + vec_capacity t.prefix
