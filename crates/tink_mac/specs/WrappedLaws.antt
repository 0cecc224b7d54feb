-- What the MACs of a keyset tell.
use Rattle.std.specs.Prelude.{ℕ, List, Bool, true, false, Option, Some, None, Result, Ok, Err, cond, length, nat_lt}
use Rattle.tink_io.specs.declared.error.Kind.{Kind}
use Rattle.tink_io.specs.declared.error.Kind.TheVariants.{MacMismatch}
use Rattle.tink_primitives.specs.Meaning.{IsMatch, IsTold}
use Rattle.tink_primitives.specs.MeaningLaws.{made_told}
use Rattle.tink_sets.specs.declared.entry.TypedEntry.{TypedEntry}
use Rattle.tink_keysets.specs.Accepting.{accepted, or_else, prefixed_value, raw_value, value_or}
use Rattle.tink_mac.specs.Wrapped.{any_verifies, covered, entry_mac, entry_verifies, primary_mac, Computes, Verifies}

pub match_told : (r : Result (Unit {0}) Kind) → IsMatch r → IsTold r
match_told (Ok v) is = tt
match_told (Err MacMismatch) is = tt
match_told (Err _) is = absurd is

-- a value, or `MacMismatch`
value_match : (o : Option (Unit {0})) → IsMatch (value_or MacMismatch o)
value_match None = tt
value_match (Some v) = tt

pub match_if : (b : Bool) (r s : Result (Unit {0}) Kind) → IsMatch r → IsMatch s → IsMatch (cond b r s)
match_if true r s if_true if_false = if_true
match_if false r s if_true if_false = if_false

module _ {P : Type 0} (computes : Computes P) (told : (p : P) (message : List ℕ) → IsTold (computes p message)) where
  entry_mac_told : (e : TypedEntry P) (message : List ℕ) → IsTold (entry_mac computes e message)
  entry_mac_told e message =
      let text = covered e.prefix_type message in
      made_told _ (computes e.primitive text) (told e.primitive text)

  pub primary_mac_told : (primary : Option (TypedEntry P)) (message : List ℕ)
      → IsTold (primary_mac computes primary message)
  primary_mac_told None message = tt
  primary_mac_told (Some e) message = entry_mac_told e message

module _ {P : Type 0} (verifies : Verifies P) where
  pub entry_verifies_told : ((p : P) (mac message : List ℕ) → IsMatch (verifies p mac message))
      → (message : List ℕ) (e : TypedEntry P) (mac : List ℕ) → IsTold (entry_verifies verifies message e mac)
  entry_verifies_told is message e mac =
      match_told (entry_verifies verifies message e mac) (is e.primitive mac (covered e.prefix_type message))

  pub any_verifies_told : (group : List ℕ → List (TypedEntry P)) (mac message : List ℕ)
      → IsMatch (any_verifies verifies group mac message)
  any_verifies_told group mac message =
      let answers = entry_verifies verifies message in
      match_if (nat_lt 5 (length mac)) (accepted answers group MacMismatch mac) (Err MacMismatch)
      (value_match (or_else (prefixed_value answers group mac) (raw_value answers group mac)))
      tt
