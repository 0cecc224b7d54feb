-- What the manager of a type of keys keeps: each answer is given, draws are taken in their order, and data that it gives
-- is symmetric.
use Rattle.std.specs.Prelude.{◌≡◌, ⊤, ℕ, List, [], Bool, Option, Some, None, Result, Ok, Err, false, true, refl, length, take, nat_le}
use Rattle.std.proofs.Common.{subst}
use Rattle.std.proofs.lemmas.Bool.{false≢true}
use Rattle.tink_io.specs.declared.error.Kind.{Kind}
use Rattle.tink_io.specs.declared.error.Kind.TheVariants.{InvalidFormat, NoPrivateKeys, RandomFault}
use Rattle.tink_io.specs.Answering.{made_of}
use Rattle.tink_proto.specs.declared.messages.keys.KeyData.{KeyData}
use Rattle.wire_format.specs.Columns.{Column}
use Rattle.wire_format.specs.Message.{encoded}
use Rattle.tink_primitives.specs.Meaning.{IsTold, IsDrawn}
use Rattle.tink_primitives.specs.MeaningLaws.{told_if, made_told, drawn_if, drawn_none, drawn_take}
use Rattle.tink_core_subtle.specs.Random.{takes_bytes}
use Rattle.tink_registry.specs.Known.{IsOfKnownMaterial}
use Rattle.tink_key_manager.specs.Manager.{message_of, built_by, builds, made_by, new_message, makes, symmetric, makes_data, built_if, of_draws, made_if}

module _ {Key P : Type 0} (built : Key → Result P Kind) (told : (key : Key) → IsTold (built key)) where
  built_told : (key : Option Key) → IsTold (built_by built key)
  built_told None = tt
  built_told (Some key) = told key

pub builds_told : {Key P : Type 0} (table : Column Key) (built : Key → Result P Kind) (told : (key : Key) → IsTold (built key)) (bytes : List ℕ) → IsTold (builds table built bytes)
builds_told table built told bytes = built_told built told (message_of table bytes)

-- data of a known material, if any
abbrev IsKnownAnswer : Result KeyData Kind → Type 0
IsKnownAnswer (Ok d) = IsOfKnownMaterial d
IsKnownAnswer (Err _) = ⊤

known_answer : (url : List ℕ) (r : Result (List ℕ) Kind) → IsKnownAnswer (made_of (symmetric url) r)
known_answer url (Ok value) = refl
known_answer url (Err kind) = tt

module _ {Format Key : Type 0} (keys : Column Key) (formats : Column Format) (made : Format → List ℕ → Result Key Kind × List ℕ) where
  module _ (drawn : (format : Format) (draws : List ℕ) → IsDrawn draws (made format draws)) where
    new_told : (format : Option Format) (draws : List ℕ) → IsDrawn draws (made_by made format draws)
    new_told None draws = record { answer = tt; ends = ([], refl) }
    new_told (Some format) draws = drawn format draws

    pub makes_told : (format draws : List ℕ) → IsDrawn draws (makes keys formats made format draws)
    makes_told format draws =
        let new = new_told (message_of formats format) draws in
        record { answer = made_told (encoded keys.write) (new_message formats made format draws).0 new.answer; ends = new.ends }

    pub makes_data_told : (url format draws : List ℕ) → IsDrawn draws (makes_data url keys formats made format draws)
    makes_data_told url format draws =
        let bytes = makes_told format draws in
        record { answer = made_told (symmetric url) (makes keys formats made format draws).0 bytes.answer; ends = bytes.ends }

  -- data of a new key is symmetric
  pub data_known : (url format draws : List ℕ) (d : KeyData) → (makes_data url keys formats made format draws).0 ≡ Ok d → IsOfKnownMaterial d
  data_known url format draws d is = subst IsKnownAnswer is (known_answer url (makes keys formats made format draws).0)

-- there is no public part
abbrev no_public : Result KeyData Kind
no_public = Err NoPrivateKeys

pub no_public_known : (d : KeyData) → no_public ≡ Ok d → IsOfKnownMaterial d
no_public_known d is = subst IsKnownAnswer is tt

pub no_public_always : false ≡ true → ⊥
no_public_always is = false≢true is

-- ---- what most types of keys share

pub built_if_told : {P : Type 0} (accepted : Bool) (primitive : P) → IsTold (built_if accepted primitive)
built_if_told accepted primitive = told_if accepted _ _ tt tt

-- so many draws, or none
pub taken_told : (n : ℕ) (draws : List ℕ) → IsDrawn draws (takes_bytes n draws)
taken_told n draws = drawn_if draws (nat_le n (length draws)) _ _ (drawn_take draws n (Ok (take n draws)) tt) (drawn_none draws (Err RandomFault) tt)

pub of_draws_told : {Key : Type 0} (n : ℕ) (message : List ℕ → Key) (draws : List ℕ) → IsDrawn draws (of_draws n message draws)
of_draws_told n message draws = let taken = taken_told n draws in record { answer = made_told message (takes_bytes n draws).0 taken.answer; ends = taken.ends }

pub made_if_told : {Key : Type 0} (accepted : Bool) (n : ℕ) (message : List ℕ → Key) (draws : List ℕ) → IsDrawn draws (made_if accepted n message draws)
made_if_told accepted n message draws = drawn_if draws accepted _ _ (of_draws_told n message draws) (drawn_none draws (Err InvalidFormat) tt)
