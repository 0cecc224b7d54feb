-- A stream of a key without its output prefix, and the same behind the prefix.
use Rattle.std.proofs.Common.{◌≡◌, ◌∙◌, ◌+◌, ◌-◌, ℕ, Bool, true, false, List, [], ◌++◌, length, take, drop, refl, sym, ap, subst, arith, ◌&&◌, nat_eq, slice_index, bytes_eq, length-append}
use Rattle.std.specs.Cmp.Lexicographic.{bytes_decides}
use Rattle.std.proofs.lemmas.Bool.{false≢true}
use Rattle.std.proofs.lemmas.Bool.Decides.{nat_tests}
use Rattle.std.proofs.lemmas.List.{get_or-drop, get_or-append-add}
use Rattle.std.proofs.Math.Seq.{drop-append-add, drop-append_seam, take-append_seam}
use Rattle.stream_model.specs.Key.{StreamKey, fronted, header_length}
use Rattle.stream_model.specs.Opening.{AreSegmentsBy, HasFront, IsStream, OpeningKey, behind_front, header_of, opening_key}

both_true : (a b : Bool) → (a && b) ≡ true → (a ≡ true) × (b ≡ true)
both_true true b e = (refl, e)
both_true false b e = absurd (false≢true e)

-- a front without the prefix, behind the prefix
fronted_front : (k : StreamKey) (aad X : List ℕ) → HasFront (opening_key aad (fronted [] k)) X → HasFront (opening_key aad k) (k.out ++ X)
fronted_front k aad X h =
    let own : bytes_eq k.out (take (length k.out) (k.out ++ X)) ≡ true = (bytes_decides k.out (take (length k.out) (k.out ++ X))).1 (sym (take-append_seam k.out X)) in
    let mark : slice_index (k.out ++ X) (length k.out) ≡ slice_index X 0 = sym (ap (λ n. slice_index (k.out ++ X) n) (omega arith)) ∙ get_or-append-add k.out X 0 0 in
    let right : nat_eq (slice_index X 0) (header_length k) ≡ true = h.mark in
    record {
      long = omega (arith, h.long, length-append k.out X);
      mark = ap (λ b. b && nat_eq (slice_index (k.out ++ X) (length k.out)) (header_length k)) own ∙ ap (λ n. nat_eq n (header_length k)) mark ∙ right;
    }

-- a front without a prefix is a header
pub no_prefix : (h : ℕ) → h ≡ 0 + h
no_prefix h = omega arith

pub fronted_stream : (k : StreamKey) (aad X : List ℕ) (texts : List (List ℕ)) → IsStream (opening_key aad (fronted [] k)) X texts → IsStream (opening_key aad k) (k.out ++ X) texts
fronted_stream k aad X texts s =
    let o : OpeningKey = opening_key aad k in
    let head : header_of o (k.out ++ X) ≡ take (header_length k) X = ap (take (header_length k)) (drop-append_seam k.out X) in
    let rest : behind_front o (k.out ++ X) ≡ drop (header_length k) X = drop-append-add k.out X (header_length k) in
    record {
      front = fronted_front k aad X s.front;
      segments = subst (λ H. AreSegmentsBy (o.seg H) (o.first - o.overhead) (o.size - o.overhead) (behind_front o (k.out ++ X)) texts) (sym head)
          (subst (λ Y. AreSegmentsBy (o.seg (take (header_length k) X)) (o.first - o.overhead) (o.size - o.overhead) Y texts) (sym rest)
          (subst (λ n. AreSegmentsBy (o.seg (take (header_length k) X)) (o.first - o.overhead) (o.size - o.overhead) (drop n X) texts) (sym (no_prefix (header_length k))) s.segments));
    }

-- the byte that tells a header's length stands behind the prefix
pub front_mark : (k : OpeningKey) (S : List ℕ) → HasFront k S → slice_index (drop (length k.out) S) 0 ≡ k.header
front_mark k S h =
    let mark = (both_true (bytes_eq k.out (take (length k.out) S)) (nat_eq (slice_index S (length k.out)) k.header) h.mark).1 in
    let same : slice_index S (length k.out) ≡ k.header = grind (arith, nat_tests) in
    get_or-drop (length k.out) S 0 0 ∙ ap (λ n. slice_index S n) (omega arith) ∙ same
