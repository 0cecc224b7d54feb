-- What the reads of a whole stream have given.
use Rattle.std.specs.Prelude.{◌≡◌, ℕ, List, IfSome, Some}
use Rattle.std.specs.declared.option.Option.{Option}
use Rattle.stream_model.specs.Agree.{joined}
use Rattle.stream_model.specs.Opening.{IsChosen, IsStream, OpeningKey}

-- all bytes are a stream of the key, and these bytes are its texts joined
pub record IsTextOfStream (k : OpeningKey) (all : Option (List ℕ)) (given : List ℕ) : Type 0 where
  pub texts : List (List ℕ)
  pub stream : IfSome all (λ X. IsStream k X texts)
  pub given_is : given ≡ joined texts

-- the first of the keys under which all bytes begin is one whose stream they are, and these bytes are its texts joined
pub record IsTextOfChosen (keys : List OpeningKey) (all : Option (List ℕ)) (given : List ℕ) : Type 0 where
  pub texts : List (List ℕ)
  pub stream : IfSome all (λ X. (k : OpeningKey) × IsChosen keys X (Some k) × IsStream k X texts)
  pub given_is : given ≡ joined texts
