-- Bytes without the newline that they end by, read piece by piece.
use Rattle.std.proofs.Common.{◌≡◌, ◌<◌, ◌≤◌, ◌-◌, ◌==◌, ◌&&◌, T, eqb→eq, ℕ, zero, suc, List, [], ◌∷◌, ◌++◌, Bool, true, false, length, take, slice_index, slice_set, refl, sym, ◌∙◌, subst, ap, append_assoc, arith}
use Rattle.std.proofs.lemmas.Bool.{true≢false}
use Rattle.std.specs.Prelude.{Option, Some, None, Result, Ok, Err}
use Rattle.std.specs.Io.KnownBytes.{Consumes, IsAtEnd, ReadConsumes}
use Rattle.tink_cli_streams.specs.Trimming.{ends_at, holds_back, trimmed_if, unread, without_newline}

-- a byte that is no newline is given
step : (b : ℕ) (bs : List ℕ) → (b == 10) ≡ false → without_newline (b ∷ bs) ≡ b ∷ without_newline bs
unfolding without_newline
step b [] isnt = rw isnt refl
step b (c ∷ bs) isnt = refl

-- bytes that stand before another are given
front : (xs : List ℕ) (c : ℕ) (ys : List ℕ) → without_newline (xs ++ c ∷ ys) ≡ xs ++ without_newline (c ∷ ys)
unfolding without_newline
front [] c ys = refl
front (x ∷ []) c ys = refl
front (x ∷ y ∷ xs) c ys = ap (λ (zs : List ℕ). x ∷ zs) (front (y ∷ xs) c ys)

empty : (trims : Bool) → trimmed_if trims [] ≡ []
unfolding without_newline
empty true = refl
empty false = refl

-- the last newline is none
last : without_newline (10 ∷ []) ≡ []
unfolding without_newline
last = refl

-- one more byte of a list
one_more : (xs : List ℕ) (m : ℕ) → m < length xs → take (suc m) xs ≡ take m xs ++ (slice_index xs m ∷ [])
one_more [] m less = absurd (omega (arith, less))
one_more (x ∷ xs) zero less = refl
one_more (x ∷ xs) (suc m) less = ap (λ (zs : List ℕ). x ∷ zs) (one_more xs m (omega (arith, less)))

-- what the code compares
pub ends_last : (bytes : List ℕ) (n : ℕ) → (n ≡ 0 → ⊥) → (slice_index bytes (n - 1) == 10) ≡ ends_at bytes n
ends_last bytes zero isnt = absurd (isnt refl)
ends_last bytes (suc m) isnt = ap (λ (i : ℕ). slice_index bytes i == 10) (omega arith)

-- ---- what is read

kept_front : (trims : Bool) (buf : List ℕ) (n : ℕ) (ys : List ℕ) → n ≤ length buf → holds_back trims buf n ≡ false
    → trimmed_if trims (take n buf ++ ys) ≡ take n buf ++ trimmed_if trims ys
kept_front false buf n ys fits isnt = refl
kept_front true [] zero ys fits isnt = refl
kept_front true (b ∷ buf) zero ys fits isnt = refl
kept_front true buf (suc m) ys fits isnt =
    let b = slice_index buf m in
    let taken = one_more buf m (omega (arith, fits)) in
    ap (λ (zs : List ℕ). without_newline (zs ++ ys)) taken ∙ ap (λ (zs : List ℕ). without_newline zs) (append_assoc (take m buf) (b ∷ []) ys)
    ∙ front (take m buf) b ys ∙ ap (λ (zs : List ℕ). take m buf ++ zs) (step b ys isnt)
    ∙ sym (append_assoc (take m buf) (b ∷ []) (without_newline ys)) ∙ ap (λ (zs : List ℕ). zs ++ without_newline ys) (sym taken)

kept_by : (trims : Bool) (left now : Option (List ℕ)) (buf : List ℕ) (n : ℕ) → n ≤ length buf → holds_back trims buf n ≡ false
    → Consumes left now (take n buf) × (n ≡ 0 → 0 < length buf → IsAtEnd now)
    → Consumes (unread trims None left) (unread trims None now) (take n buf) × (n ≡ 0 → 0 < length buf → IsAtEnd (unread trims None now))
kept_by trims None None buf n fits isnt gave = (tt, λ zero_is room. tt)
kept_by trims None (Some ys) buf n fits isnt gave = (tt, λ zero_is room. ap (λ (zs : List ℕ). trimmed_if trims zs) (gave.1 zero_is room) ∙ empty trims)
kept_by trims (Some xs) None buf n fits isnt gave = absurd gave.0
kept_by trims (Some xs) (Some ys) buf n fits isnt gave = (
  ap (λ (zs : List ℕ). trimmed_if trims zs) gave.0 ∙ kept_front trims buf n ys fits isnt,
  λ zero_is room. ap (λ (zs : List ℕ). trimmed_if trims zs) (gave.1 zero_is room) ∙ empty trims,
)

-- all of it is given
pub kept : (trims : Bool) (held : Option ℕ) (left now : Option (List ℕ)) (buf : List ℕ) (n : ℕ) → held ≡ None → n ≤ length buf
    → holds_back trims buf n ≡ false → Consumes left now (take n buf) × (n ≡ 0 → 0 < length buf → IsAtEnd now)
    → Consumes (unread trims held left) (unread trims held now) (take n buf) × (n ≡ 0 → 0 < length buf → IsAtEnd (unread trims held now))
kept trims held left now buf n none fits isnt gave =
    subst (λ (h : Option ℕ). Consumes (unread trims h left) (unread trims h now) (take n buf) × (n ≡ 0 → 0 < length buf → IsAtEnd (unread trims h now)))
    (sym none) (kept_by trims left now buf n fits isnt gave)

-- before the last byte, which is a newline
newline_front : (buf : List ℕ) (m : ℕ) (xs ys : List ℕ) → m < length buf → (slice_index buf m == 10) ≡ true → xs ≡ take (suc m) buf ++ ys
    → without_newline xs ≡ take m buf ++ without_newline (10 ∷ ys)
newline_front buf m xs ys less sure is =
    let newline : slice_index buf m ≡ 10 = eqb→eq (slice_index buf m) 10 (subst T (sym sure) tt) in
    ap (λ (zs : List ℕ). without_newline zs) (is ∙ ap (λ (zs : List ℕ). zs ++ ys) (one_more buf m less) ∙ append_assoc (take m buf) (slice_index buf m ∷ []) ys
    ∙ ap (λ (b : ℕ). take m buf ++ b ∷ ys) newline) ∙ front (take m buf) 10 ys

back_by : (trims : Bool) (left now : Option (List ℕ)) (buf : List ℕ) (n : ℕ) → n ≤ length buf → holds_back trims buf n ≡ true → (n ≡ 1 → ⊥)
    → Consumes left now (take n buf)
    → Consumes (unread trims None left) (unread trims (Some 10) now) (take (n - 1) buf) × (n - 1 ≡ 0 → 0 < length buf → IsAtEnd (unread trims (Some 10) now))
back_by false left now buf n fits sure more gave = absurd (true≢false (sym sure))
back_by true left now buf zero fits sure more gave = absurd (true≢false (sym sure))
back_by true left now buf (suc m) fits sure more gave = (by_known left now gave, λ none room. absurd (more (omega (arith, none))))
  where
    by_known : (left now : Option (List ℕ)) → Consumes left now (take (suc m) buf) → Consumes (unread true None left) (unread true (Some 10) now) (take (suc m - 1) buf)
    by_known None now gave = tt
    by_known (Some xs) None gave = absurd gave
    by_known (Some xs) (Some ys) gave =
        newline_front buf m xs ys (omega (arith, fits)) sure gave ∙ ap (λ (k : ℕ). take k buf ++ without_newline (10 ∷ ys)) (omega arith)

-- a newline at its end is held, and the rest is given
pub back : (trims : Bool) (held : Option ℕ) (left now : Option (List ℕ)) (buf : List ℕ) (n : ℕ) → held ≡ None → n ≤ length buf
    → holds_back trims buf n ≡ true → (n ≡ 1 → ⊥) → Consumes left now (take n buf)
    → Consumes (unread trims held left) (unread trims (Some 10) now) (take (n - 1) buf) × (n - 1 ≡ 0 → 0 < length buf → IsAtEnd (unread trims (Some 10) now))
back trims held left now buf n none fits sure more gave =
    subst (λ (h : Option ℕ). Consumes (unread trims h left) (unread trims (Some 10) now) (take (n - 1) buf)
    × (n - 1 ≡ 0 → 0 < length buf → IsAtEnd (unread trims (Some 10) now))) (sym none) (back_by trims left now buf n fits sure more gave)

handed_by : {E : Type 0} (trims : Bool) (left middle after : Option (List ℕ)) (buf given : List ℕ) (result : Result ℕ E) → 1 ≤ length buf → holds_back trims buf 1 ≡ true
    → Consumes left middle (take 1 buf) → ReadConsumes (unread trims (Some 10) middle) after result given → ReadConsumes (unread trims None left) after result given
handed_by false left middle after buf given result fits sure gave then = absurd (true≢false (sym sure))
handed_by true None middle after buf given (Ok n) fits sure gave then = (tt, then.1)
handed_by true None middle after buf given (Err e) fits sure gave then = tt
handed_by true (Some xs) None after buf given result fits sure gave then = absurd gave
handed_by true (Some xs) (Some ys) after buf given result fits sure gave then =
    subst (λ (zs : List ℕ). ReadConsumes (Some zs) after result given) (sym (newline_front buf 0 xs ys (omega (arith, fits)) sure gave)) then

-- a newline alone is held, and another call goes on
pub handed : {E : Type 0} (trims : Bool) (held : Option ℕ) (left middle after : Option (List ℕ)) (buf given : List ℕ) (n : ℕ) (result : Result ℕ E) → held ≡ None → n ≡ 1
    → n ≤ length buf → holds_back trims buf n ≡ true → Consumes left middle (take n buf)
    → ReadConsumes (unread trims (Some 10) middle) after result given → ReadConsumes (unread trims held left) after result given
handed trims held left middle after buf given n result none one fits sure gave then =
    subst (λ (h : Option ℕ). ReadConsumes (unread trims h left) after result given) (sym none)
    (handed_by trims left middle after buf given result (omega (arith, one, fits)) (subst (λ (k : ℕ). holds_back trims buf k ≡ true) one sure)
    (subst (λ (k : ℕ). Consumes left middle (take k buf)) one gave) then)

-- ---- what is held

gave_by : (trims : Bool) (left : Option (List ℕ)) (buf : List ℕ) (byte : ℕ) → 0 < length buf → (trims && (byte == 10)) ≡ false
    → Consumes (unread trims (Some byte) left) (unread trims None left) (take 1 (slice_set buf 0 byte))
gave_by trims None buf byte room isnt = tt
gave_by trims (Some xs) [] byte room isnt = absurd (omega (arith, room))
gave_by true (Some xs) (x ∷ buf) byte room isnt = step byte xs isnt
gave_by false (Some xs) (x ∷ buf) byte room isnt = refl

pub gave_held : (trims : Bool) (held : Option ℕ) (left : Option (List ℕ)) (buf : List ℕ) (byte : ℕ) → held ≡ Some byte → 0 < length buf
    → (trims && (byte == 10)) ≡ false
    → Consumes (unread trims held left) (unread trims None left) (take 1 (slice_set buf 0 byte))
    × (◌≡◌ {A = ℕ} 1 0 → 0 < length (slice_set buf 0 byte) → IsAtEnd (unread trims None left))
gave_held trims held left buf byte is room isnt = (
  subst (λ (h : Option ℕ). Consumes (unread trims h left) (unread trims None left) (take 1 (slice_set buf 0 byte))) (sym is) (gave_by trims left buf byte room isnt),
  λ none. absurd (omega (arith, none)),
)

-- nothing is behind a newline: it is not given
ended_by : (left now : Option (List ℕ)) (buf next : List ℕ) (n : ℕ) → n ≡ 0 → 0 < length next
    → Consumes left now (take n next) × (n ≡ 0 → 0 < length next → IsAtEnd now)
    → Consumes (unread true (Some 10) left) (unread true (Some 10) now) [] × (◌≡◌ {A = ℕ} 0 0 → 0 < length buf → IsAtEnd (unread true (Some 10) now))
ended_by None None buf next n zero_is room gave = (tt, λ is some. tt)
ended_by None (Some ys) buf next n zero_is room gave = (tt, λ is some. ap (λ (zs : List ℕ). without_newline (10 ∷ zs)) (gave.1 zero_is room) ∙ last)
ended_by (Some xs) None buf next n zero_is room gave = absurd gave.0
ended_by (Some xs) (Some ys) buf next n zero_is room gave = (
  ap (λ (zs : List ℕ). without_newline (10 ∷ zs)) (gave.0 ∙ ap (λ (k : ℕ). take k next ++ ys) zero_is ∙ none_taken next ys),
  λ is some. ap (λ (zs : List ℕ). without_newline (10 ∷ zs)) (gave.1 zero_is room) ∙ last,
)
  where
    none_taken : (next ys : List ℕ) → take 0 next ++ ys ≡ ys
    none_taken [] ys = refl
    none_taken (b ∷ bs) ys = refl

pub ended : (trims : Bool) (held : Option ℕ) (left now : Option (List ℕ)) (buf next : List ℕ) (n : ℕ) → trims ≡ true → held ≡ Some 10 → n ≡ 0 → 0 < length next
    → Consumes left now (take n next) × (n ≡ 0 → 0 < length next → IsAtEnd now)
    → Consumes (unread trims held left) (unread trims held now) [] × (◌≡◌ {A = ℕ} 0 0 → 0 < length buf → IsAtEnd (unread trims held now))
ended trims held left now buf next n trims_is held_is zero_is room gave = rw (trims_is, held_is) (ended_by left now buf next n zero_is room gave)

-- a byte is behind it: the newline is given, and that byte is held
behind_by : (left now : Option (List ℕ)) (buf : List ℕ) (b : ℕ) → 0 < length buf → Consumes left now (b ∷ [])
    → Consumes (unread true (Some 10) left) (unread true (Some b) now) (take 1 (slice_set buf 0 10))
behind_by None now buf b room gave = tt
behind_by (Some xs) None buf b room gave = absurd gave
behind_by (Some xs) (Some ys) [] b room gave = absurd (omega (arith, room))
behind_by (Some xs) (Some ys) (x ∷ buf) b room gave = ap (λ (zs : List ℕ). without_newline (10 ∷ zs)) gave ∙ front (10 ∷ []) b ys

pub behind : (trims : Bool) (held : Option ℕ) (left now : Option (List ℕ)) (buf next : List ℕ) (n : ℕ) → trims ≡ true → held ≡ Some 10 → (n ≡ 0 → ⊥)
    → n ≤ length next → length next ≡ 1 → 0 < length buf → Consumes left now (take n next)
    → Consumes (unread trims held left) (unread trims (Some (slice_index next 0)) now) (take 1 (slice_set buf 0 10))
    × (◌≡◌ {A = ℕ} 1 0 → 0 < length (slice_set buf 0 10) → IsAtEnd (unread trims (Some (slice_index next 0)) now))
behind trims held left now buf next n trims_is held_is some fits one room gave =
    let is_one : n ≡ 1 = only n (length next) some fits one in
    let taken : take n next ≡ slice_index next 0 ∷ [] = ap (λ (k : ℕ). take k next) is_one ∙ alone next one in
    rw (trims_is, held_is) (behind_by left now buf (slice_index next 0) room (subst (λ (bs : List ℕ). Consumes left now bs) taken gave), λ none. absurd (omega (arith, none)))
  where
    only : (n m : ℕ) → (n ≡ 0 → ⊥) → n ≤ m → m ≡ 1 → n ≡ 1
    only n m some fits one = omega arith

    alone : (next : List ℕ) → length next ≡ 1 → take 1 next ≡ slice_index next 0 ∷ []
    alone [] one = absurd (omega (arith, one))
    alone (b ∷ bs) one = one_more (b ∷ bs) 0 (omega arith)
