-- Ciphertext and tag written one behind the other, and lists cut in two.
use Rattle.std.proofs.Common.{◌≡◌, ◌+◌, ◌-◌, ℕ, List, ◌++◌, length, take, drop, ap, ap₂, sym, ◌∙◌, arith, append-nil, length-append}
use Rattle.std.proofs.Math.ListN.{drop_of_length-le}
use Rattle.std.proofs.lemmas.List.{length-drop, length-take, take_at}
use borrow.Rule.Slice.PartMut.{put_mid}

-- the prefix of n bytes, written over with b, and the rest with t
pub written : (n : ℕ) (xs b t : List ℕ) → length b ≡ n → put_mid n (length (b ++ drop n xs) - n) (b ++ drop n xs) t ≡ b ++ t
written n xs b t size =
    let whole = b ++ drop n xs in
    let none : drop (length whole - n) (drop n whole) ≡ _ = drop_of_length-le (drop n whole) (omega (arith, length-drop n whole)) in
    ap₂ (λ u v. u ++ (t ++ v)) (take_at b (drop n xs) n size) none ∙ ap (λ v. b ++ v) (append-nil t)

-- lists that are cut where another ends
pub cut_behind : (out sealed : List ℕ) → length out ≡ length sealed - 16 → length out ≡ length (take (length out) sealed)
cut_behind out sealed room = simp length-take (omega arith)

pub cut_before : (text out : List ℕ) → length out ≡ length text + 16 → length text ≡ length (take (length text) out)
cut_before text out room = simp length-take (omega arith)

pub cut_joined : (text a out : List ℕ) → length a ≡ length (take (length text) out) → length out ≡ length text + 16 → length text ≡ length (take (length text) (a ++ drop (length text) out))
cut_joined text a out size room = let long : length text ≡ length (take (length text) out) = cut_before text out room in long ∙ (sym size ∙ ap length (sym (take_at a (drop (length text) out) (length text) (size ∙ sym long))))

-- the text in front of the room for its tag
pub front_is : (text a out : List ℕ) → a ≡ text → length out ≡ length text + 16 → take (length (a ++ drop (length text) out) - 16) (a ++ drop (length text) out) ≡ text
front_is text a out same room =
    let size : length a ≡ length text = ap length same in
    let n_is : length (a ++ drop (length text) out) - 16 ≡ length text = simp (length-append, length-drop) (omega arith) in
    ap (λ n. take n (a ++ drop (length text) out)) n_is ∙ (take_at a (drop (length text) out) (length text) size ∙ same)
