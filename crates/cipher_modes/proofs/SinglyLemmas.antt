-- Blocks that a mode steps over one by one in their places.
use Rattle.std.proofs.lemmas.List.{take_all, drop_all, append-nil}
use Rattle.std.proofs.Common.{◌≡◌, ℕ, ◌+◌, ◌*◌, ◌<◌, ◌≤◌, List, [], ◌++◌, length, take, drop, set, get_or, ap, sym, ◌∙◌, arith}
use Rattle.cipher.specs.Buffers.{pick, part_of}
use Rattle.cipher.specs.Transcript.{Block}
use Rattle.cipher.proofs.Parts.{pick-nil}
use Rattle.cipher_modes.specs.Steps.{run_of, state_after}
use Rattle.cipher_modes.proofs.RunLemmas.{outputs-one, state-one}

none-read : (n a e : ℕ) → [] ≡ part_of {X = Block} [] n a e
none-read n a e = grind (arith)

pub singly-output : {S : Type 0} (step : S → Block → Block × S) (s t : S) (old cur : List Block) (y d : Block) (a : ℕ) → a < length old
    → cur ≡ run_of step s (take a old) ++ drop a old → t ≡ state_after step s (take a old) → d ≡ get_or cur a d
    → y ≡ (step t d).0 → set cur a y ≡ run_of step s (take (a + 1) old) ++ drop (a + 1) old
singly-output step s t old cur y d a h e te dd w =
    let is : pick [] old ≡ old = pick-nil old in
    let e' : cur ≡ run_of step s (take a (pick [] old)) ++ drop a old = e ∙ ap (λ xs. run_of step s (take a xs) ++ drop a old) (sym is) in
    let te' : t ≡ state_after step s (take a (pick [] old)) = te ∙ ap (λ xs. state_after step s (take a xs)) (sym is) in
    outputs-one step s t [] old cur [] y d a h e' te' dd (none-read (length old) a (a + 1)) w
    ∙ ap (λ xs. run_of step s (take (a + 1) xs) ++ drop (a + 1) old) is

pub singly-state : {S : Type 0} (step : S → Block → Block × S) (s t t' : S) (old cur : List Block) (d : Block) (a : ℕ) → a < length old
    → cur ≡ run_of step s (take a old) ++ drop a old → t ≡ state_after step s (take a old) → d ≡ get_or cur a d
    → t' ≡ (step t d).1 → t' ≡ state_after step s (take (a + 1) old)
singly-state step s t t' old cur d a h e te dd w =
    let is : pick [] old ≡ old = pick-nil old in
    let e' : cur ≡ run_of step s (take a (pick [] old)) ++ drop a old = e ∙ ap (λ xs. run_of step s (take a xs) ++ drop a old) (sym is) in
    let te' : t ≡ state_after step s (take a (pick [] old)) = te ∙ ap (λ xs. state_after step s (take a xs)) (sym is) in
    state-one step s t t' [] old cur [] d a h e' te' dd (none-read (length old) a (a + 1)) w
    ∙ ap (λ xs. state_after step s (take (a + 1) xs)) is

pub singly-all : {S : Type 0} (step : S → Block → Block × S) (s : S) (old cur : List Block) (a : ℕ) → length old ≤ a → cur ≡ run_of step s (take a old) ++ drop a old → cur ≡ run_of step s old
singly-all step s old cur a end e =
    e ∙ (ap (λ zs. run_of step s (take a old) ++ zs) (drop_all a old end) ∙ (append-nil (run_of step s (take a old)) ∙ ap (run_of step s) (take_all a old end)))

pub singly-all_state : {S : Type 0} (step : S → Block → Block × S) (s t : S) (old : List Block) (a : ℕ) → length old ≤ a → t ≡ state_after step s (take a old) → t ≡ state_after step s old
singly-all_state step s t old a end e = e ∙ ap (state_after step s) (take_all a old end)

-- eight blocks have room
pub eight_fit : (B : ℕ) → (1 ≤ B) × (B < 256) → 8 * (B * 1) < 9223372036854775808
eight_fit B h = omega arith

pub one_fits : (B : ℕ) → (1 ≤ B) × (B < 256) → B * 1 < 9223372036854775808
one_fits B h = omega arith
