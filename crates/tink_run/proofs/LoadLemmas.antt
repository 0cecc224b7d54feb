-- Loading, step by step.
use Rattle.std.proofs.Common.{◌≡◌, inl, inr, ◌∙◌, ℕ, List, Bool, true, false, cond, refl, ap}
use Rattle.std.specs.declared.option.Option.{Option}
use Rattle.std.specs.Prelude.{Ok, Err, Some, None}
use Rattle.tink_io.specs.Answering.{Answers, or_refused}
use Rattle.tink_io.specs.declared.error.Kind.TheVariants.{BadKeyset, InvalidKeyset}
use Rattle.tink_io.specs.declared.error.TinkError.{TinkError}
use Rattle.tink_proto.specs.declared.messages.keys.Keyset.{Keyset}
use Rattle.tink_proto.specs.Messages.{keyset}
use Rattle.wire_format.specs.Message.{decoded}
use Rattle.keyset_model.specs.Validity.{is_valid}
use Rattle.tink_keysets.specs.Encrypted.{chained}
use Rattle.tink_keysets.specs.Valid.{valid_keyset, valid_or_refused}
use Rattle.loading_model.specs.Loading.{load_decoded, load_keys, ◌then◌}
use Rattle.tink.specs.LoadingRows.{rows}
use Rattle.tink_run.specs.AllKeys.{load}
use Rattle.tink_run.specs.HeldKeys.{GivesLoaded}

-- what is loaded are the keys of the valid keyset
load_then : (bytes : List ℕ) → load bytes ≡ (valid_keyset bytes then load_keys rows)
unfolding load
load_then bytes = by_decoded (decoded keyset.read bytes)
  where
    by_valid : (ks : Keyset) (b : Bool) → cond b (load_keys rows ks) (Err InvalidKeyset) ≡ (cond b (Ok ks) (Err InvalidKeyset) then load_keys rows)
    by_valid ks true = refl
    by_valid ks false = refl

    by_decoded : (o : Option Keyset) → load_decoded rows o ≡ (chained valid_or_refused (or_refused BadKeyset o) then load_keys rows)
    by_decoded None = refl
    by_decoded (Some ks) = by_valid ks (is_valid ks)

-- a refused keyset is not loaded
pub is_refused : (bytes : List ℕ) (e : TinkError) → Answers {T = Keyset} (Err e) (valid_keyset bytes) → GivesLoaded (Err e) (load bytes)
is_refused bytes e (inl want) = inl want
is_refused bytes e (inr cause) = inr (load_then bytes ∙ ap (λ r. r then load_keys rows) cause)

-- a valid keyset loads as its keys
pub load_valid : (bytes : List ℕ) (ks : Keyset) → valid_keyset bytes ≡ Ok ks → load bytes ≡ load_keys rows ks
load_valid bytes ks is = load_then bytes ∙ ap (λ r. r then load_keys rows) is
