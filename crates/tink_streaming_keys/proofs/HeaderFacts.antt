-- Headers that were drawn, and the segments under them.
use Rattle.std.proofs.Common.{◌≡◌, ◌≤◌, ◌<◌, ◌+◌, ℕ, zero, suc, List, [], ◌∷◌, ◌++◌, length, take, drop, refl, sym, ap, ◌∙◌, arith, get_or, add-one}
use Rattle.std.proofs.lemmas.List.{take-append-drop, length-take-le, take-take, drop-take}
use Rattle.std.proofs.Math.Seq.{take-append_seam}
use Rattle.stream_model.specs.Cut.{numbered}
use Rattle.stream_model.specs.Key.{StreamKey, header, header_length, nonce_size, segment_at, segment_of}
use Rattle.stream_model.specs.Sealing.{drawn, nonce_prefix_of, salt_of}
use Rattle.tink_streaming_ciphers.specs.declared.stream_segment.StreamSegment.{StreamSegment}
use Rattle.tink_streaming_ciphers.specs.StreamSegments.{segment_by}
use Rattle.tink_streaming_keys.specs.StreamingKeys.{IsDerived}
use Rattle.tink_streaming_keys.proofs.DerivedKeys.{derived_segments}

-- a byte and then all of some bytes
pub header_bytes : (n h : ℕ) (xs ys zs : List ℕ) → n ≡ suc (length xs) → xs ≡ zs → take n (h ∷ (xs ++ ys)) ≡ h ∷ zs
header_bytes n h xs ys zs l same = ap (λ m. take m (h ∷ (xs ++ ys))) l ∙ ap (λ z. h ∷ z) (take-append_seam xs ys ∙ same)

-- a header is its byte, its salt and its prefix
pub header_parts : (k : StreamKey) (H : List ℕ) → length H ≡ header_length k → get_or H 0 0 ≡ header_length k → H ≡ header k (take k.derived (drop 1 H)) (drop (k.derived + 1) H)
header_parts k [] l m = absurd (omega arith)
header_parts k (x ∷ H) l m =
    let rest : drop (k.derived + 1) (x ∷ H) ≡ drop k.derived H = rw add-one refl in
    let whole : H ≡ take k.derived H ++ drop (k.derived + 1) (x ∷ H) = sym (take-append-drop k.derived H) ∙ ap (λ ys. take k.derived H ++ ys) (sym rest) in
    ap (λ b. b ∷ H) m ∙ ap (λ ys. header_length k ∷ ys) whole

-- the derived cipher's segments are the key's
pub seg_is : (k : StreamKey) (aad salt prefix : List ℕ) (cipher encrypter : StreamSegment) (size : ℕ) (given : List ℕ) (d : IsDerived k aad salt cipher) → encrypter ≡ cipher → size ≡ nonce_size k → given ≡ prefix
    → numbered (segment_by encrypter) size given ≡ segment_at k d.keys prefix
seg_is k aad salt prefix cipher encrypter size given d e s p =
    ap (λ c. numbered (segment_by c) size given) e ∙ ap (λ f. numbered f size given) (derived_segments k aad salt cipher d) ∙ ap (λ n. numbered (segment_of k.kind k.derived d.keys) n given) s ∙ ap (numbered (segment_of k.kind k.derived d.keys) (nonce_size k)) p

-- a drawn header: its mark, its salt and its prefix
pub drawn_header : (k : StreamKey) (draws h : List ℕ) (n : ℕ) → n ≡ header_length k → drawn k ≤ length draws → take n h ≡ header_length k ∷ take (drawn k) draws
    → (length (take n h) ≡ header_length k) × (get_or (take n h) 0 0 ≡ header_length k) × (take k.derived (drop 1 (take n h)) ≡ salt_of k draws) × (drop (k.derived + 1) (take n h) ≡ nonce_prefix_of k draws)
drawn_header k draws h n e enough t = (
  ap length t ∙ omega (arith, length-take-le (drawn k) draws enough),
  ap (λ xs. get_or xs 0 0) t,
  ap (λ xs. take k.derived (drop 1 xs)) t ∙ take-take k.derived (drawn k) draws (omega arith),
  ap (drop (k.derived + 1)) t ∙ rw add-one (drop-take k.derived 7 draws),
)

-- what is not refused for want of draws has enough
pub enough_drawn : (n m : ℕ) → (n < m → ⊥) → m ≤ n
enough_drawn zero zero h = omega arith
enough_drawn zero (suc m) h = absurd (h (omega arith))
enough_drawn (suc n) zero h = omega arith
enough_drawn (suc n) (suc m) h = let rest : m ≤ n = enough_drawn n m (λ l. h (omega arith)) in omega arith
