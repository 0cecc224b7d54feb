-- What the keys of the tests build: one whose bytes begin with 0 is of a verifier, and another one of HMAC.
use Rattle.std.specs.Prelude.{ℕ, List, [], ◌∷◌, Bool, false, nat_eq, if◌then◌else◌, Result, Ok, Err}
use Rattle.tink_io.specs.declared.error.Kind.{Kind}
use Rattle.tink_io.specs.declared.error.Kind.TheVariants.{InvalidFormat}
use Rattle.tink_primitives.specs.Meaning.{IsDrawn, IsTold}
use Rattle.tink_primitives.specs.MeaningLaws.{told_if, drawn_none}

abbrev pub begins_with_0 : List ℕ → Bool
begins_with_0 [] = false
begins_with_0 (x ∷ _) = nat_eq x 0

abbrev pub built : {P : Type 0} → P → P → List ℕ → Result P Kind
built verifier prf key = if begins_with_0 key then Ok verifier else Ok prf

-- no key is made
abbrev pub none_made : {T : Type 0} → List ℕ → Result T Kind × List ℕ
none_made draws = (Err InvalidFormat, draws)

-- ---- the laws of keys

pub built_told : {P : Type 0} (verifier prf : P) (key : List ℕ) → IsTold (built verifier prf key)
built_told verifier prf key = told_if (begins_with_0 key) (Ok verifier) (Ok prf) tt tt

pub none_drawn : {T : Type 0} (draws : List ℕ) → IsDrawn draws (none_made {T = T} draws)
none_drawn draws = drawn_none draws (Err InvalidFormat) tt
