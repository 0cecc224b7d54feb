-- What the pieces of a vector tell.
use Rattle.std.proofs.Common.{◌≡◌, ℕ, zero, suc, ◌+◌, ◌-◌, ◌≤◌, false, List, [], ◌∷◌, ◌++◌, take, drop, length, ap, sym, subst, ◌∙◌, refl, arith, inl, inr, bit_xor, length-take, length-drop, below_more}
use Rattle.std.proofs.lemmas.List.{drop-take}
use Rattle.std.proofs.Math.Seq.{take-add}
use Rattle.std.specs.Prelude.{Result, Ok, Err, IsOk, OnOk}
use Rattle.std.specs.Result.{is_err}
use Rattle.std.specs.Borrow.{Bor}
use Rattle.cipher_stream.specs.Keystream.{applied}
use Rattle.cipher_stream.specs.ByteStream.{ByteStream, to_come, HasMoved, LeavesRoom}
use Rattle.cipher_stream.specs.StreamVectors.{Passes, PieceTold, BytesTold}
use Rattle.cipher_stream.proofs.Applied.{applied-same, applied-append}
use Rattle.cipher_stream.proofs.LawFacts.{drop-applied, take-applied}
use Rattle.cipher_stream.proofs.SoughtPlaces.{false_is}

pub ok_told : {A E : Type 0} (r : Result A E) → false ≡ is_err r → IsOk r
ok_told (Ok a) h = refl
ok_told (Err e) h = absurd (false_is h)

pub on_ok : {A E : Type 0} (r : Result A E) (P : Type 0) → IsOk r → OnOk r P → P
on_ok (Ok a) P h p = p
on_ok (Err e) P h p = absurd (false_is h)

take_take : {X : Type 0} (m n : ℕ) (xs : List X) → m ≤ n → take m (take n xs) ≡ take m xs
take_take zero n xs h = refl
take_take (suc m) zero xs h = absurd (omega arith)
take_take (suc m) (suc n) [] h = refl
take_take (suc m) (suc n) (x ∷ xs) h = ap (λ l. x ∷ l) (take_take m n xs (omega arith))

-- bytes that pass do so piece by piece
pub passes_less : (s : ByteStream) (has : ℕ → Type 0) (from wanted : List ℕ) (m n : ℕ) → m ≤ n → Passes s has from wanted n → Passes s has from wanted m
passes_less s has from wanted m n h p =
    record {
      left = λ j l. p.left j (omega arith);
      gives =
          ap (applied bit_xor (to_come s)) (sym (take_take m n from h)) ∙ (sym (take-applied bit_xor (to_come s) m (take n from)) ∙ (ap (take m) p.gives ∙ take_take m n wanted h));
    }

piece_given : (s t : ByteStream) (from wanted : List ℕ) (a n : ℕ) → HasMoved s a t → applied bit_xor (to_come s) (take (a + n) from) ≡ take (a + n) wanted
    → applied bit_xor (to_come t) (take n (drop a from)) ≡ take n (drop a wanted)
piece_given s t from wanted a n m e =
    applied-same bit_xor (to_come t) (λ j. to_come s (a + j)) (take n (drop a from)) (λ j _. m.ahead j)
    ∙ (ap (applied bit_xor (λ j. to_come s (a + j))) (sym (drop-take a n from)) ∙ (sym (drop-applied bit_xor (to_come s) a (take (a + n) from)) ∙ (ap (drop a) e ∙ drop-take a n wanted)))

-- a piece more
pub passes_more : (s t : ByteStream) (has has' : ℕ → Type 0) (from wanted : List ℕ) (a : ℕ) → a + 1 ≤ length from → HasMoved s a t → LeavesRoom has a has' → Passes s has from wanted a
    → has' 1 → applied bit_xor (to_come t) (take 1 (drop a from)) ≡ take 1 (drop a wanted) → Passes s has from wanted (a + 1)
passes_more s t has has' from wanted a h m r p left e =
    let la : length (take a from) ≡ a = simp length-take (omega arith) in
    record {
      left = below_more (λ j. has (j + 1)) a p.left ((r 1).0 left);
      gives =
          ap (applied bit_xor (to_come s)) (take-add a 1 from) ∙ (applied-append bit_xor (to_come s) (take a from) (take 1 (drop a from))
          ∙ (ap (λ l. l ++ applied bit_xor (λ j. to_come s (length (take a from) + j)) (take 1 (drop a from))) p.gives
          ∙ (ap (λ l. take a wanted ++ l) (applied-same bit_xor (λ j. to_come s (length (take a from) + j)) (to_come t) (take 1 (drop a from)) (λ j _. ap (λ n. to_come s (n + j)) la ∙ sym (m.ahead j)) ∙ e)
          ∙ sym (take-add a 1 wanted))));
    }

-- a fault of the next byte
pub byte_fault : (s t : ByteStream) (has has' : ℕ → Type 0) (from wanted pf pw : List ℕ) (a : ℕ) (text : Bor (List ℕ)) → a + 1 ≤ length from → HasMoved s a t → LeavesRoom has a has' → Passes s has from wanted a
    → pf ≡ take 1 (drop a from) → pw ≡ take 1 (drop a wanted) → PieceTold t has' pf pw (Err text) → BytesTold s has from wanted (Err text)
byte_fault s t has has' from wanted pf pw a text h m r p e f told =
    let l : length pf ≡ 1 = ap length e ∙ simp (length-take, length-drop) (omega arith) in (
      a,
      omega arith,
      p,
      elim told [
        | inl ended ↦ inl (ended.0, λ left. ended.1 (subst has' (sym l) ((r 1).1 left)))
        | inr other ↦ inr (other.0, (r 1).0 (subst has' l other.1), λ same. other.2 (ap (applied bit_xor (to_come t)) e ∙ (piece_given s t from wanted a 1 m same ∙ sym f)))
      ],
    )

-- no piece has one, where all bytes pass
pub no_fault : (s t : ByteStream) (has has' : ℕ → Type 0) (from wanted pf pw : List ℕ) (a n : ℕ) (text : Bor (List ℕ)) → 1 ≤ n → a + n ≤ length from → HasMoved s a t → LeavesRoom has a has'
    → Passes s has from wanted (length from) → pf ≡ take n (drop a from) → pw ≡ take n (drop a wanted) → PieceTold t has' pf pw (Err text) → ⊥
no_fault s t has has' from wanted pf pw a n text some h m r p e f told =
    let l : length pf ≡ n = ap length e ∙ simp (length-take, length-drop) (omega arith) in
    let less = passes_less s has from wanted (a + n) (length from) h p in
    let last : a + n - 1 + 1 ≡ a + n = omega arith in
    let left : has' n = (r n).1 (subst has last (less.left (a + n - 1) (omega arith))) in
    elim told [
      | inl ended ↦ ended.1 (subst has' (sym l) left)
      | inr other ↦ other.2 (ap (applied bit_xor (to_come t)) e ∙ (piece_given s t from wanted a n m less.gives ∙ sym f))
    ]

pub leaves_more : (has has' has'' : ℕ → Type 0) (a n : ℕ) → LeavesRoom has a has' → LeavesRoom has' n has'' → LeavesRoom has (a + n) has''
leaves_more has has' has'' a n r q m =
    let e : a + (n + m) ≡ a + n + m = omega arith in
    ((λ h. subst has e ((r (n + m)).0 ((q m).0 h))), (λ h. (q m).1 ((r (n + m)).1 (subst has (sym e) h))))
