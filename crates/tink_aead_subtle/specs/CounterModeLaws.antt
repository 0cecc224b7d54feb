-- What AES in counter mode shows of its meaning.
use Rattle.std.specs.Prelude.{ℕ, List, ◌++◌, length, take, nat_le, Ok, Err}
use Rattle.tink_io.specs.declared.error.Kind.TheVariants.{BadIvSize, RandomFault}
use Rattle.tink_primitives.specs.Meaning.{IsTold, IsDrawn}
use Rattle.tink_primitives.specs.MeaningLaws.{told_if, drawn_if, drawn_none, drawn_take}
use Rattle.tink_aead_subtle.specs.CounterMode.{ctr_decrypts, ctr_encrypts, in_counter_mode}

pub ctr_encrypts_told : (key : List ℕ) (iv_size : ℕ) (text draws : List ℕ) → IsDrawn draws (ctr_encrypts key iv_size text draws)
ctr_encrypts_told key iv_size text draws =
    drawn_if draws (nat_le iv_size 16) _ _
    (drawn_if draws (nat_le iv_size (length draws)) _ _
    (drawn_take draws iv_size (Ok (take iv_size draws ++ in_counter_mode key (take iv_size draws) text)) tt) (drawn_none draws (Err RandomFault) tt))
    (drawn_none draws (Err BadIvSize) tt)

pub ctr_decrypts_told : (key : List ℕ) (iv_size : ℕ) (input : List ℕ) → IsTold (ctr_decrypts key iv_size input)
ctr_decrypts_told key iv_size input = told_if (nat_le iv_size 16) _ _ (told_if (nat_le iv_size (length input)) _ _ tt tt) tt
