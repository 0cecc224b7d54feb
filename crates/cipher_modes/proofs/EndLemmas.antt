-- Where the zeros begin that end a list.
use Rattle.std.proofs.Common.{◌≡◌, ◌≢◌, ℕ, zero, suc, ◌+◌, ◌-◌, ◌≤◌, ◌<◌, List, [], ◌∷◌, ◌++◌, length, take, drop, replicate, get_or, ap, sym, subst, ◌∙◌, arith, append_assoc, length-take, length-drop, drop-cons}
use Rattle.std.proofs.lemmas.List.{take-append-drop, take-append-le, drop-append-le, drop_all, drop-drop, get_or-take, get_or-drop}
use Rattle.cipher_modes.specs.Paddings.{without_zeros, EndsInNoZero}
use borrow.Rule.Slice.PartMut.{put_mid}
use Rattle.cipher_modes.specs.PaddingLaws.{without_zeros-behind}

pub zeros_more : (bytes : List ℕ) (end : ℕ) → 0 < end → end ≤ length bytes → get_or bytes (end - 1) 0 ≡ 0 → drop end bytes ≡ replicate (length bytes - end) 0
    → drop (end - 1) bytes ≡ replicate (length bytes - (end - 1)) 0
zeros_more bytes zero some within z e = absurd (omega arith)
zeros_more bytes (suc n) some within z e =
    let place : suc n - 1 ≡ n = omega arith in
    let z1 : get_or bytes n 0 ≡ 0 = ap (λ k. get_or bytes k 0) (sym place) ∙ z in
    let more : length bytes - n ≡ suc (length bytes - suc n) = omega arith in
    rw (place, more) (drop-cons bytes n 0 (omega arith) ∙ (ap (λ x. x ∷ drop (suc n) bytes) z1 ∙ ap (λ xs. 0 ∷ xs) e))

ends_by_last : (xs : List ℕ) (k : ℕ) → length xs ≡ suc k → get_or xs k 0 ≢ 0 → EndsInNoZero xs
ends_by_last [] k e h = tt
ends_by_last (x ∷ []) k e h = let first : k ≡ 0 = omega arith in subst (λ j. get_or (x ∷ []) j 0 ≢ 0) first h
ends_by_last (x ∷ y ∷ xs) zero e h = absurd (omega arith)
ends_by_last (x ∷ y ∷ xs) (suc k) e h = ends_by_last (y ∷ xs) k (omega arith) h

text_ends : (bytes : List ℕ) (front end : ℕ) → front ≤ end → end ≤ length bytes → drop end bytes ≡ replicate (length bytes - end) 0 → EndsInNoZero (drop front (take end bytes))
    → take end bytes ≡ take front bytes ++ without_zeros (drop front bytes)
text_ends bytes front end order within zeros last =
    let text : List ℕ = take end bytes in
    let size : length text ≡ end = simp length-take (omega arith) in
    let inside : front ≤ length text = omega arith in
    let whole : text ++ drop end bytes ≡ bytes = take-append-drop end bytes in
    let first : take front bytes ≡ take front text = ap (take front) (sym whole) ∙ take-append-le front text (drop end bytes) inside in
    let rest : drop front bytes ≡ drop front text ++ replicate (length bytes - end) 0 =
    ap (drop front) (sym whole) ∙ (drop-append-le front text (drop end bytes) inside ∙ ap (λ z. drop front text ++ z) zeros) in
    rw (first, rest, without_zeros-behind (drop front text) (length bytes - end) last) (sym (take-append-drop front text))

pub text_ends-at_front : (bytes : List ℕ) (front end : ℕ) → end ≡ front → end ≤ length bytes → drop end bytes ≡ replicate (length bytes - end) 0
    → take end bytes ≡ take front bytes ++ without_zeros (drop front bytes)
text_ends-at_front bytes front end e within zeros =
    let size : length (take end bytes) ≡ end = simp length-take (omega arith) in
    let none : drop front (take end bytes) ≡ [] = drop_all front (take end bytes) (omega arith) in
    text_ends bytes front end (omega arith) within zeros (subst EndsInNoZero (sym none) tt)

pub text_ends-at_other : (bytes : List ℕ) (front end : ℕ) → front < end → end ≤ length bytes → get_or bytes (end - 1) 0 ≢ 0 → drop end bytes ≡ replicate (length bytes - end) 0
    → take end bytes ≡ take front bytes ++ without_zeros (drop front bytes)
text_ends-at_other bytes front end order within other zeros =
    let k : ℕ = end - 1 - front in
    let size : length (drop front (take end bytes)) ≡ suc k = simp (length-drop, length-take) (omega arith) in
    let place : front + k ≡ end - 1 = omega arith in
    let inside : end - 1 < end = omega arith in
    let last : get_or (drop front (take end bytes)) k 0 ≡ get_or bytes (end - 1) 0 =
    get_or-drop front (take end bytes) k 0 ∙ (ap (λ j. get_or (take end bytes) j 0) place ∙ get_or-take end bytes (end - 1) 0 inside) in
    text_ends bytes front end (omega arith) within zeros (ends_by_last (drop front (take end bytes)) k size (λ z. other (sym last ∙ z)))

-- a part of a list that is written over
pub filled : (old ys : List ℕ) (len count value : ℕ) → len ≤ length old → count ≤ length old - len → ys ≡ replicate (length (take (len + count - len) (drop len old))) value
    → put_mid len (len + count - len) old ys ≡ (take len old ++ replicate count value) ++ drop (len + count) old
filled old ys len count value room few e =
    let more : len + count - len ≡ count = omega arith in
    let size : length (take count (drop len old)) ≡ count = simp (length-take, length-drop) (omega arith) in
    let made : ys ≡ replicate count value = e ∙ ap (λ k. replicate k value) (ap (λ k. length (take k (drop len old))) more ∙ size) in
    ap (λ k. take len old ++ (ys ++ drop k (drop len old))) more
    ∙ (ap (λ zs. take len old ++ (zs ++ drop count (drop len old))) made
    ∙ (ap (λ zs. take len old ++ (replicate count value ++ zs)) (drop-drop count len old)
    ∙ sym (append_assoc (take len old) (replicate count value) (drop (len + count) old))))
