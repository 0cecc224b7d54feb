use Rattle.std.proofs.Common.{◌≡◌, ◌≤◌, ◌+◌, ◌-◌, ℕ, Bool, true, false, List, [], ◌∷◌, ◌++◌, length, take, drop, replicate, ap, refl, ◌∙◌, subst, arith, append_assoc, length-append, length-drop}
use Rattle.std.proofs.lemmas.List.{append-nil, length-take}
use Rattle.std.proofs.lemmas.Slice.{take-put_mid}
use Rattle.std.proofs.Math.ListN.{drop_of_length-le}
use Rattle.std.proofs.Math.Seq.{take-append_seam}
use borrow.Rule.Slice.PartMut.{put_mid}
use Rattle.stream_model.specs.Cut.{mark}
use Rattle.std.specs.Int.{w32, to_be_bytes}
use mir.Val.{bool_byte}
use Rattle.tink_streaming_segment.proofs.nonce.generate_segment_nonce.Goals as goal

length_put_mid : (a k : ℕ) (xs ys : List ℕ) → a + k ≤ length xs → length ys ≡ k → length (put_mid a k xs ys) ≡ length xs
length_put_mid a k xs ys h e = omega (arith, length-append (take a xs) (ys ++ drop k (drop a xs)), length-append ys (drop k (drop a xs)), length-take a xs, length-drop k (drop a xs), length-drop a xs)

-- four pieces, one after another
pieces : (p k : ℕ) (P B M W out : List ℕ) → length P ≡ p → length B ≡ p + 4 - p → length M ≡ p + 5 - (p + 4) → p + 5 ≤ length out
    → let first = P ++ drop p out in let second = put_mid p (p + 4 - p) first B in let third = put_mid (p + 4) (p + 5 - (p + 4)) second M in
    length third - (p + 5) ≡ k → put_mid (p + 5) k third W ≡ P ++ B ++ M ++ W
pieces p k P B M W out l4 b m h e =
    let first : List ℕ = P ++ drop p out in
    let second : List ℕ = put_mid p (p + 4 - p) first B in
    let third : List ℕ = put_mid (p + 4) (p + 5 - (p + 4)) second M in
    let first_length : length first ≡ length out = omega (arith, length-append P (drop p out), length-drop p out) in
    let second_length : length second ≡ length first = length_put_mid p (p + 4 - p) first B (omega arith) b in
    let in_first : take p first ≡ P = subst (λ (i : ℕ). take i (P ++ drop p out) ≡ P) l4 (take-append_seam P (drop p out)) in
    let in_second : take (p + 4) second ≡ P ++ B = take-put_mid p (p + 4 - p) first B (p + 4) (omega arith) (omega arith) ∙ ap (λ x. x ++ B) in_first in
    let in_third : take (p + 5) third ≡ P ++ B ++ M = take-put_mid (p + 4) (p + 5 - (p + 4)) second M (p + 5) (omega arith) (omega arith) ∙ ap (λ x. x ++ M) in_second in
    let rest : drop k (drop (p + 5) third) ≡ [] = drop_of_length-le (drop (p + 5) third) {i = k} (omega (arith, length-drop (p + 5) third)) in
    ap (λ x. take (p + 5) third ++ (W ++ x)) rest ∙ ap (λ x. take (p + 5) third ++ x) (append-nil W) ∙ ap (λ x. x ++ W) in_third

mark_is : (last : Bool) → bool_byte last ≡ mark last
mark_is true = refl
mark_is false = refl

nonce_is : (P B M W prefix be : List ℕ) (b n z : ℕ) (last : Bool) → P ≡ prefix → B ≡ be → M ≡ b ∷ [] → b ≡ mark last → W ≡ replicate z 0 → z ≡ n
    → P ++ B ++ M ++ W ≡ (prefix ++ be) ++ (mark last ∷ replicate n 0)
nonce_is P B M W prefix be b n z last p q m e w f =
    append_assoc (P ++ B) M W ∙ rw (p, q, m, e, w, f) refl

pub returns-clause-ok : goal.returns-clause-ok
returns-clause-ok c =
    let p : ℕ = length c.args.prefix.now in
    let l4 : length c.copy_from_slice.new.self ≡ p = ap length c.copy_from_slice.ensures.after in
    let second : List ℕ = put_mid p (p + 4 - p) (c.copy_from_slice.new.self ++ drop p c.args.out.now) c.copy_from_slice-2.new.self in
    let third : List ℕ = put_mid (p + 4) (p + 5 - (p + 4)) second c.copy_from_slice-3.new.self in
    let all : length third ≡ length c.args.out.now = length_put_mid (p + 4) (p + 5 - (p + 4)) second c.copy_from_slice-3.new.self (omega (arith, length-append {A = ℕ}, length-drop {A = ℕ})) (omega arith)
    ∙ length_put_mid p (p + 4 - p) (c.copy_from_slice.new.self ++ drop p c.args.out.now) c.copy_from_slice-2.new.self (omega (arith, length-append {A = ℕ}, length-drop {A = ℕ})) (omega arith)
    ∙ omega (arith, length-append c.copy_from_slice.new.self (drop p c.args.out.now), length-drop p c.args.out.now) in
    pieces p _ c.copy_from_slice.new.self c.copy_from_slice-2.new.self c.copy_from_slice-3.new.self c.fill.new.self c.args.out.now l4 (omega arith) (omega arith) c.requires refl
    ∙ nonce_is c.copy_from_slice.new.self c.copy_from_slice-2.new.self c.copy_from_slice-3.new.self c.fill.new.self c.args.prefix.now (to_be_bytes w32 c.args.number) c.from.result (length c.args.out.now - (p + 5)) _ c.args.last
    c.copy_from_slice.ensures.after (c.copy_from_slice-2.ensures.after ∙ c.to_be_bytes.ensures ∙ ap (to_be_bytes w32) c.in-Ok.ensures.1) c.copy_from_slice-3.ensures.after (c.from.ensures ∙ mark_is c.args.last) (c.fill.ensures.after (λ y e. e))
    (omega (arith, length-take {A = ℕ}, length-drop {A = ℕ}, all))
