-- A master of the tests, which binds its associated data and keeps nothing secret: the ciphertext is the associated data,
-- one draw and the text.
use Rattle.std.specs.Prelude.{◌≡◌, ◌++◌, ◌+◌, ◌≤◌, ℕ, List, length, take, drop, Bool, true, false, Result, Ok, Err, if◌then◌else◌, nat_le, ◌&&◌}
use Rattle.std.specs.Str.{bytes_eq}
use Rattle.tink_io.specs.declared.error.Kind.{Kind}
use Rattle.tink_io.specs.declared.error.Kind.TheVariants.{DecryptFailed, RandomFault}
use Rattle.tink_primitives.specs.Meaning.{IsDrawn, IsTold}
use Rattle.tink_primitives.specs.MeaningLaws.{drawn_if, drawn_none, drawn_take, told_if}

abbrev pub bound : List ℕ → List ℕ → List ℕ → Result (List ℕ) Kind × List ℕ
bound text associated_data draws =
    if nat_le 1 (length draws) then (Ok (associated_data ++ take 1 draws ++ text), drop 1 draws) else (Err RandomFault, draws)

abbrev pub unbound : List ℕ → List ℕ → Result (List ℕ) Kind
unbound ciphertext associated_data =
    if nat_le (length associated_data + 1) (length ciphertext) && bytes_eq (take (length associated_data) ciphertext) associated_data
    then Ok (drop (length associated_data + 1) ciphertext)
    else Err DecryptFailed

pub bound_drawn : (text associated_data draws : List ℕ) → IsDrawn draws (bound text associated_data draws)
bound_drawn text associated_data draws =
    drawn_if draws (nat_le 1 (length draws)) _ _ (drawn_take draws 1 (Ok (associated_data ++ take 1 draws ++ text)) tt) (drawn_none draws (Err RandomFault) tt)

pub unbound_told : (ciphertext associated_data : List ℕ) → IsTold (unbound ciphertext associated_data)
unbound_told ciphertext associated_data =
    told_if (nat_le (length associated_data + 1) (length ciphertext) && bytes_eq (take (length associated_data) ciphertext) associated_data)
    (Ok (drop (length associated_data + 1) ciphertext)) (Err DecryptFailed) tt tt
