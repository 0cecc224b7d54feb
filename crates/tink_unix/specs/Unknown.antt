-- What a contract sees of the real system.
use Rattle.std.specs.Prelude.{[], false, None}
use Rattle.tink_system.specs.States.{SystemState}

-- no bytes are known
abbrev pub unknown_state : SystemState
unknown_state = record {
  is_known = false;
  file = λ _. None;
  are_one = λ _ _. false;
  is_stream = λ _. false;
  input = [];
  random = [];
}
