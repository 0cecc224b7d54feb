-- A keyset that does not load, and an input that could not be read.
use Rattle.std.proofs.Common.{◌≡◌, inl, inr, ◌+◌, ℕ, List, [], Some, None, refl, arith}
use Rattle.std.specs.Prelude.{Option, Result, Ok, Err}
use Rattle.tink_io.specs.declared.error.Kind.{Kind}
use Rattle.tink_io.specs.declared.error.Kind.TheVariants.{BadKeyset, InvalidKeyset, UnsupportedKeyType, InvalidKey, NoPrimary, WrongPrimitive, InputTooLong}
use Rattle.tink_keyset_io.specs.Reading.{IsUnreadText}
use Rattle.tink_io.specs.Taken.{LosesAtMost}
use Rattle.loading_model.proofs.UsableKeys.{IsOfLoading}
use Rattle.tink_io.specs.Outside.{Outside}
use Rattle.tink_tokens.specs.Inputs.{input_limit, InputRefused, LeavesSink}

-- nothing was taken
pub none_taken : (left : Option (List ℕ)) → LosesAtMost (input_limit + 1) left left
none_taken None = ([], omega arith, tt)
none_taken (Some xs) = ([], omega arith, refl)

module _ {L : Type 0} (loading : Result L Kind) (Refuses : L → List ℕ → Kind → Type 0) where
  pub unloaded : (o : Outside) (kind : Kind) → loading ≡ Err kind → IsOfLoading kind → InputRefused loading Refuses o o kind
  unloaded o BadKeyset is of = record { cause = is; untouched = refl }
  unloaded o InvalidKeyset is of = record { cause = is; untouched = refl }
  unloaded o UnsupportedKeyType is of = record { cause = is; untouched = refl }
  unloaded o InvalidKey is of = record { cause = is; untouched = refl }
  unloaded o NoPrimary is of = record { cause = is; untouched = refl }
  unloaded o WrongPrimitive is of = record { cause = is; untouched = refl }
  unloaded o _ is of = absurd of

  -- the keyset loads, and nothing was written
  pub input_unread : (old new : Outside) (loaded : L) (kind : Kind) → loading ≡ Ok loaded → LeavesSink old new
      → IsUnreadText input_limit InputTooLong old.left kind old.read_faults new.read_faults → InputRefused loading Refuses old new kind
  input_unread old new loaded kind loads sink (inl (inl want)) = rw want sink
  input_unread old new loaded kind loads sink (inl (inr fault)) = rw fault.0 ((loaded, loads), sink, fault.1)
  input_unread old new loaded kind loads sink (inr long) = rw long.0 ((loaded, loads), sink, long.1)
