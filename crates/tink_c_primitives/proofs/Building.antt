-- The keys that the registry of all managers builds.
use Rattle.std.proofs.Common.{◌≡◌, inl, inr, ℕ, List, Bool, Result, Ok, Err, ap, sym, subst}
use Rattle.std.specs.Str.{bytes_eq}
use Rattle.tink_io.specs.Answering.{Answers, made_of}
use Rattle.tink_io.specs.declared.error.Kind.{Kind}
use Rattle.tink_io.specs.declared.error.TinkError.{TinkError}
use Rattle.tink_proto.specs.declared.messages.keys.Keyset.{Keyset}
use Rattle.tink_set_builder.specs.Built.{GivesSet}
use Rattle.tink_keysets.specs.Encrypted.{chained}
use Rattle.tink_registry.specs.Listed.{Registered}
use Rattle.tink.specs.Managers.{row_of, Built}
use Rattle.tink.specs.Registered.{managers_alone, with_everything}
use Rattle.tink.specs.declared.managers.Managers.{Managers}
use Rattle.tink_c_primitives.specs.Primitives.{GivesKeys}

-- a set of what was built is made of the keys
pub built : {E W K : Type 0} (make : List E → K) (holds : List E → W → Type 0) (Is : K → W → Type 0) → ((es : List E) (w : W) → holds es w → Is (make es) w)
    → (told : Result (List E) Kind) (result : Result W TinkError) → GivesSet holds result told → GivesKeys Is result (made_of make told)
built make holds Is same told (Ok w) gives = (make gives.0, ap (made_of make) gives.1, same gives.0 w gives.2)
built make holds Is same told (Err e) (inl want) = inl want
built make holds Is same told (Err e) (inr is) = inr (ap (made_of make) is)

-- a refused file has none
pub unbuilt : {K W : Type 0} (Is : K → W → Type 0) (makes : Keyset → Result K Kind) (told : Result Keyset Kind) (e : TinkError)
    → Answers {T = Keyset} (Err e) told → GivesKeys Is (Err e) (chained makes told)
unbuilt Is makes told e (inl want) = inl want
unbuilt Is makes told e (inr is) = inr (ap (chained makes) is)

-- a valid keyset has its own
pub built_of : {K W : Type 0} (Is : K → W → Type 0) (makes : Keyset → Result K Kind) (told : Result Keyset Kind) (ks : Keyset) (result : Result W TinkError)
    → told ≡ Ok ks → GivesKeys Is result (makes ks) → GivesKeys Is result (chained makes told)
built_of Is makes told ks result is gives = subst (GivesKeys Is result) (sym (ap (chained makes) is)) gives

-- ---- by the managers of the registry of all

abbrev pub url : Managers → List ℕ
url m = (row_of m).url

abbrev pub supports : Managers → List ℕ → Bool
supports m wanted = bytes_eq (row_of m).url wanted

abbrev pub builds : Managers → List ℕ → Result Built Kind
builds m value = (row_of m).built value

pub built_by : {E W K : Type 0} (entries : List Managers → Result (List E) Kind) (make : List E → K) (holds : List E → W → Type 0) (Is : K → W → Type 0)
    → ((es : List E) (w : W) → holds es w → Is (make es) w) → (r : Registered Managers) (result : Result W TinkError) → r ≡ managers_alone
    → GivesSet holds result (entries r.managers) → GivesKeys Is result (made_of make (entries with_everything.managers))
built_by entries make holds Is same r result is gives =
    built make holds Is same (entries with_everything.managers) result (subst (λ (x : Registered Managers). GivesSet holds result (entries x.managers)) is gives)
