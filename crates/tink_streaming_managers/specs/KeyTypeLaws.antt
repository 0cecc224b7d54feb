-- What the keys of streams tell.
use Rattle.std.specs.Prelude.{Some, None}
use Rattle.std.specs.declared.option.Option.{Option}
use Rattle.tink_io.specs.declared.error.Kind.TheVariants.{InvalidKey}
use Rattle.tink_io.specs.Answering.{made_of, or_refused}
use Rattle.tink_primitives.specs.Meaning.{IsTold}
use Rattle.tink_primitives.specs.MeaningLaws.{made_told}

or_invalid_told : {A : Type 0} (o : Option A) → IsTold (or_refused InvalidKey o)
or_invalid_told None = tt
or_invalid_told (Some v) = tt

-- what is made of a value, or `InvalidKey`
pub made_or_invalid_told : {A P : Type 0} (primitive : A → P) (o : Option A) → IsTold (made_of primitive (or_refused InvalidKey o))
made_or_invalid_told primitive o = made_told primitive (or_refused InvalidKey o) (or_invalid_told o)
