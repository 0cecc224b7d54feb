-- Where the first key of an id stands, and what that makes of the edits of it. Only the code needs this.
use Rattle.std.specs.Prelude.{◌≡◌, ◌<◌, ℕ, List, Some, find, length, get_or, set, remove}
use Rattle.tink_proto.specs.declared.messages.keys.Key.{Key}
use Rattle.keyset_model.specs.Keys.{has_id}
use Rattle.keyset_model.specs.Edits.{with_first, without_first}

pub record IsPlace (keys : List Key) (id i : ℕ) : Type 0 where
  pub within : i < length keys
  pub found : (d : Key) → find (has_id id) keys ≡ Some (get_or keys i d)
  pub changed : (change : Key → Key) (d : Key) → with_first id change keys ≡ set keys i (change (get_or keys i d))
  pub left : without_first id keys ≡ remove keys i
