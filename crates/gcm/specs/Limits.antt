-- The most bytes of a text.
use Rattle.std.specs.Prelude.{ℕ, ◌-◌, ◌^◌}

-- GCM (SP 800-38D, 5.2.1.1)
abbrev pub MOST_GCM : ℕ
MOST_GCM = 2 ^ 36 - 32

-- GCM-SIV (RFC 8452, 6)
abbrev pub MOST_GCM_SIV : ℕ
MOST_GCM_SIV = 2 ^ 36
