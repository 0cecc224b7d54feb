-- What the manager of one type of keys means, as one value: a row.
use Rattle.std.specs.Prelude.{◌≡◌, ℕ, List, Result, Ok, Err}
use Rattle.tink_io.specs.declared.error.Kind.{Kind}
use Rattle.tink_io.specs.Answering.{made_of}
use Rattle.tink_proto.specs.declared.messages.keys.KeyData.{KeyData}
use Rattle.wire_format.specs.Columns.{Column}
use Rattle.tink_primitives.specs.Meaning.{IsTold, IsDrawn}
use Rattle.tink_primitives.specs.MeaningLaws.{made_told}
use Rattle.tink_registry.specs.Known.{IsOfKnownMaterial}
use Rattle.tink_key_manager.specs.Manager.{builds, makes, makes_data}
use Rattle.tink_key_manager.specs.ManagerLaws.{builds_told, makes_told, makes_data_told, data_known}

-- a primitive of a smaller family as one of a larger one, where it is of the sort that both have
abbrev pub widened : {P X Q : Type 0} → (P → Result X Kind) → (X → Q) → Result P Kind → Result Q Kind
widened pick sort (Ok p) = made_of sort (pick p)
widened pick sort (Err kind) = Err kind

pub widened_told : {P X Q : Type 0} (pick : P → Result X Kind) (sort : X → Q) → ((p : P) → IsTold (pick p)) → (r : Result P Kind) → IsTold r → IsTold (widened pick sort r)
widened_told pick sort picks (Ok p) told = made_told sort (pick p) (picks p)
widened_told pick sort picks (Err kind) told = told

-- the URL of a type of keys, what a key's bytes build, which key and which data a format makes, and that each answer is known
pub record Row (P : Type 0) : Type 0 where
  pub url : List ℕ
  pub built : List ℕ → Result P Kind
  pub made : List ℕ → List ℕ → Result (List ℕ) Kind × List ℕ
  pub made_data : List ℕ → List ℕ → Result KeyData Kind × List ℕ
  pub built_is_told : (key : List ℕ) → IsTold (built key)
  pub made_is_told : (format draws : List ℕ) → IsDrawn draws (made format draws)
  pub data_is_told : (format draws : List ℕ) → IsDrawn draws (made_data format draws)
  pub data_is_known : (format draws : List ℕ) (d : KeyData) → (made_data format draws).0 ≡ Ok d → IsOfKnownMaterial d

-- the row of a type of symmetric keys, by its messages and what they build and make
abbrev pub row_of_type : {Key Format P X Q : Type 0} → (pick : P → Result X Kind) → (X → Q) → ((p : P) → IsTold (pick p)) → List ℕ → Column Key → Column Format → (built : Key → Result P Kind) → ((key : Key) → IsTold (built key)) → (made : Format → List ℕ → Result Key Kind × List ℕ) → ((format : Format) (draws : List ℕ) → IsDrawn draws (made format draws)) → Row Q
row_of_type pick sort picks url keys formats built told made drawn = record {
  url = url;
  built = λ key. widened pick sort (builds keys built key);
  made = makes keys formats made;
  made_data = makes_data url keys formats made;
  built_is_told = λ key. widened_told pick sort picks (builds keys built key) (builds_told keys built told key);
  made_is_told = makes_told keys formats made drawn;
  data_is_told = makes_data_told keys formats made drawn url;
  data_is_known = data_known keys formats made url;
}
