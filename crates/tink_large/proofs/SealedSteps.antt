-- What a piece of text and the last segment leave to come.
use Rattle.std.proofs.Common.{◌≡◌, ◌⊎◌, inl, inr, ◌<◌, ◌≤◌, ◌+◌, ◌-◌, ◌*◌, ◌^◌, ℕ, zero, suc, Bool, true, false, List, [], ◌∷◌, ◌++◌, length, take, drop, sym, ap, subst, ◌∙◌, arith, Some, add-zero, zero-add, append_assoc, append-nil, length-append, length-drop}
use Rattle.std.proofs.lemmas.Bool.{cases_lt}
use Rattle.std.proofs.lemmas.List.{length-take, take-append-le, drop-append-le}
use Rattle.std.specs.declared.option.Option.{Option}
use Rattle.std.specs.Io.KnownBytes.{Appends}
use Rattle.stream_model.specs.Cut.{full_chunks, open_chunk, room_at, numbered, sealed, unmarked}
use Rattle.stream_model.proofs.CutFacts.{full_chunks_fits, full_chunks_more, open_chunk_fits, open_chunk_more, room_at_next, sealed_split}
use Rattle.tink_io.specs.Written.{AppendsPrefix}
use Rattle.tink_io.specs.declared.error.Kind.{Kind}
use Rattle.tink_io.specs.declared.error.Kind.TheVariants.{WriteFault, TooManySegments, FailedBefore}
use Rattle.tink_io.specs.declared.error.Kind.TheVariants as kind
use Rattle.tink_streaming_segment.specs.declared.segment_traits.SegmentEncrypter.{Ghosts}
use Rattle.tink_streaming_io.specs.Sealers.{held_text, segment_map}
use Rattle.tink_streaming_segment.specs.declared.sealer.Sealer.{Sealer}
use Rattle.tink_streaming_io.specs.declared.writing.SegmentWriter.{SegmentWriter}
use Rattle.tink_streaming_io.specs.declared.writing.Mode.TheVariants.{Open, Closed}
use Rattle.tink_streaming_io.specs.Writing.{WriterMoment, filled, Wrote, WriteRefused, CloseRefused, ClosedBy}
use Rattle.tink_streaming_io.proofs.WritingFacts.{stops_prefix}
use Rattle.tink_streaming_io.proofs.ReadingFacts.{numbered_longer}
use Rattle.tink_streaming_ciphers.specs.StreamSegments.{length-segment_by, overhead_by, segment_by}
use Rattle.tink_streaming_ciphers.specs.declared.stream_segment.StreamSegment.{StreamSegment}
use Rattle.tink_large.specs.Coming.{come_of, comes, left_of, pending_bytes, to_come}
use Rattle.tink_large.specs.Large.{text_from, text_length}
use Rattle.tink_large.specs.declared.pending.Pending.{Pending}
use Rattle.tink_large.proofs.TextFacts.{text_from_apart, text_from_none}

-- a segment is longer than its text by so many bytes
abbrev pub IsLonger : (ℕ → Bool → List ℕ → List ℕ) → ℕ → Type 0
IsLonger seg o = (i : ℕ) (last : Bool) (t : List ℕ) → length (seg i last t) ≡ length t + o

-- a text that fits is the last segment
pub to_come_fits : (seg : ℕ → Bool → List ℕ → List ℕ) (a b i : ℕ) (R : List ℕ) → length R ≤ room_at a b i → to_come seg a b i R ≡ seg i true R
unfolding to_come
to_come_fits seg a b i R h =
    ap (λ cs. unmarked seg i cs ++ seg (i + length cs) true (open_chunk (room_at a b i) b R)) (full_chunks_fits (room_at a b i) b R h)
    ∙ ap (λ t. seg (i + 0) true t) (open_chunk_fits (room_at a b i) b R h)
    ∙ ap (λ k. seg k true R) (add-zero i)

-- a longer one begins with a full segment
pub to_come_more : (seg : ℕ → Bool → List ℕ → List ℕ) (a b i : ℕ) (R : List ℕ) → room_at a b i < length R → 0 < room_at a b i → 0 < b
    → to_come seg a b i R ≡ seg i false (take (room_at a b i) R) ++ to_come seg a b (i + 1) (drop (room_at a b i) R)
unfolding to_come
to_come_more seg a b i R h p q =
    let r : ℕ = room_at a b i in
    let rest : List ℕ = drop r R in
    let full : List (List ℕ) = full_chunks b b rest in
    let number : i + suc (length full) ≡ (i + 1) + length full = omega arith in
    let room : room_at a b (i + 1) ≡ b = room_at_next a b i in
    ap (λ cs. unmarked seg i cs ++ seg (i + length cs) true (open_chunk r b R)) (full_chunks_more r b R h p q)
    ∙ ap (λ t. (seg i false (take r R) ++ unmarked seg (i + 1) full) ++ seg (i + suc (length full)) true t) (open_chunk_more r b R h p q)
    ∙ ap (λ k. (seg i false (take r R) ++ unmarked seg (i + 1) full) ++ seg k true (open_chunk b b rest)) number
    ∙ append_assoc (seg i false (take r R)) (unmarked seg (i + 1) full) (seg ((i + 1) + length full) true (open_chunk b b rest))
    ∙ ap (λ x. seg i false (take r R) ++ (unmarked seg (i + 1) (full_chunks x b rest) ++ seg ((i + 1) + length (full_chunks x b rest)) true (open_chunk x b rest))) (sym room)

-- a whole text is to come from the number 0 on
pub all_comes : (seg : ℕ → Bool → List ℕ → List ℕ) (a b : ℕ) (R : List ℕ) → to_come seg a b 0 R ≡ sealed seg a b R
unfolding to_come
all_comes seg a b R = ap (λ k. unmarked seg 0 (full_chunks a b R) ++ seg k true (open_chunk a b R)) (zero-add (length (full_chunks a b R))) ∙ sym (sealed_split seg a b R)

-- what one piece fills: nothing, or one chunk
pub record Fills (seg : ℕ → Bool → List ℕ → List ℕ) (a b : ℕ) (m : WriterMoment) (piece : List ℕ) (o : ℕ) : Type 0 where
  pub one : length (filled a b m piece) ≤ 1
  pub short : length (unmarked seg m.number (filled a b m piece)) ≤ b + o

pub fills : (seg : ℕ → Bool → List ℕ → List ℕ) (a b : ℕ) (m : WriterMoment) (piece : List ℕ) (o : ℕ) → IsLonger seg o → 0 < a → a ≤ b → 0 < room_at a b m.number → room_at a b m.number ≤ b
    → length m.held ≤ room_at a b m.number → length piece ≤ b → Fills seg a b m piece o
fills seg a b m piece o long p q some most held h =
    let r : ℕ = room_at a b m.number in
    let R : List ℕ = m.held ++ piece in
    elim (cases_lt r (length R)) [
      | inr fits ↦ let e = full_chunks_fits r b R fits in record { one = omega (arith, ap length e); short = omega (arith, ap (λ cs. length (unmarked seg m.number cs)) e) }
      | inl more ↦
          let rest : full_chunks b b (drop r R) ≡ [] = full_chunks_fits b b (drop r R) (omega (arith, length-drop r R, length-append m.held piece)) in
          let e : filled a b m piece ≡ take r R ∷ [] = full_chunks_more r b R more some (omega arith) ∙ ap (λ cs. take r R ∷ cs) rest in
          let size : length (unmarked seg m.number (take r R ∷ [])) ≡ length (seg m.number false (take r R)) = ap length (append-nil (seg m.number false (take r R))) in
          record {
            one = omega (arith, ap length e);
            short = omega (arith, ap (λ cs. length (unmarked seg m.number cs)) e, size, long m.number false (take r R), length-take r R);
          }
    ]

-- a prefix of bytes behind none is no longer than they are
pub front_short : (G bs : List ℕ) → AppendsPrefix (Some []) (Some G) bs → length G ≤ length bs
front_short G bs f = omega (arith, ap length f.2, length-take f.0 bs)

-- a writer over a sink with room does not refuse a piece
pub not_refused : (seg : ℕ → Bool → List ℕ → List ℕ) (a b : ℕ) (m n : WriterMoment) (piece G : List ℕ) (o room : ℕ) (k : Kind) → Fills seg a b m piece o → m.mode ≡ Open → m.got ≡ Some [] → n.got ≡ Some G
    → m.number + 1 < 2 ^ 32 → b + o < room → (0 < n.faults → room ≤ length G) → WriteRefused seg a b m n piece k → ⊥
not_refused seg a b m n piece G o room WriteFault f is_open got now few wide full r =
    let front : AppendsPrefix m.got n.got (unmarked seg m.number (filled a b m piece)) = stops_prefix seg m.number n.number (filled a b m piece) m.got n.got r.stops in
    let told : AppendsPrefix (Some []) (Some G) (unmarked seg m.number (filled a b m piece)) =
    subst (λ (x : Option (List ℕ)). AppendsPrefix x (Some G) (unmarked seg m.number (filled a b m piece))) got
    (subst (λ (y : Option (List ℕ)). AppendsPrefix m.got y (unmarked seg m.number (filled a b m piece))) now front)
    in
    let rose = r.rose in
    let at_room : room ≤ length G = full (omega arith) in
    omega (arith, front_short G _ told, f.short, at_room)
not_refused seg a b m n piece G o room TooManySegments f is_open got now few wide full r = omega (arith, f.one, r.many)
not_refused seg a b m n piece G o room kind.Closed f is_open got now few wide full r = let e = sym is_open ∙ r.0 in absurd (cc)
not_refused seg a b m n piece G o room (FailedBefore c) f is_open got now few wide full r = let e = sym is_open ∙ r.0 in absurd (cc)
not_refused seg a b m n piece G o room _ f is_open got now few wide full r = absurd r

-- nor the last segment
pub last_not_refused : (seg : ℕ → Bool → List ℕ → List ℕ) (b : ℕ) (m n : WriterMoment) (G : List ℕ) (o room : ℕ) (k : Kind) → IsLonger seg o → length m.held ≤ b → m.mode ≡ Open → m.got ≡ Some [] → n.got ≡ Some G
    → b + o < room → (0 < n.faults → room ≤ length G) → CloseRefused seg m n k → ⊥
last_not_refused seg b m n G o room WriteFault long held is_open got now wide full r =
    let told : AppendsPrefix (Some []) (Some G) (seg m.number true m.held) =
    subst (λ (x : Option (List ℕ)). AppendsPrefix x (Some G) (seg m.number true m.held)) got
    (subst (λ (y : Option (List ℕ)). AppendsPrefix m.got y (seg m.number true m.held)) now r.begun)
    in
    let rose = r.rose in
    let at_room : room ≤ length G = full (omega arith) in
    omega (arith, front_short G _ told, long m.number true m.held, at_room)
last_not_refused seg b m n G o room (FailedBefore c) long held is_open got now wide full r = let e = sym is_open ∙ r.0 in absurd (cc)
last_not_refused seg b m n G o room _ long held is_open got now wide full r = absurd r

-- what was sealed of a piece, and what comes behind it, is what was to come before
pub record Steps (seg : ℕ → Bool → List ℕ → List ℕ) (a b : ℕ) (m n : WriterMoment) (piece Y G : List ℕ) : Type 0 where
  pub left : G ++ come_of seg a b n.mode n.number n.held Y ≡ come_of seg a b m.mode m.number m.held (piece ++ Y)
  pub few : 2 * n.number + length n.held ≤ 2 * m.number + length m.held + length piece

come_open : (seg : ℕ → Bool → List ℕ → List ℕ) (a b : ℕ) (m : WriterMoment) (Y : List ℕ) → m.mode ≡ Open → come_of seg a b m.mode m.number m.held Y ≡ to_come seg a b m.number (m.held ++ Y)
come_open seg a b m Y e = ap (λ o. come_of seg a b o m.number m.held Y) e

pub step : (seg : ℕ → Bool → List ℕ → List ℕ) (a b : ℕ) (m n : WriterMoment) (piece Y G : List ℕ) → 2 ≤ a → a ≤ b → 2 ≤ room_at a b m.number
    → length m.held ≤ room_at a b m.number → length piece ≤ b → m.got ≡ Some [] → n.got ≡ Some G → Wrote seg a b m n piece → Steps seg a b m n piece Y G
step seg a b m n piece Y G p q some held h got now w =
    let r : ℕ = room_at a b m.number in
    let R : List ℕ = m.held ++ piece in
    let told : G ≡ unmarked seg m.number (filled a b m piece) =
    subst (λ (x : Option (List ℕ)). Appends x (Some G) (unmarked seg m.number (filled a b m piece))) got
    (subst (λ (y : Option (List ℕ)). Appends m.got y (unmarked seg m.number (filled a b m piece))) now w.appended)
    in
    let before : come_of seg a b m.mode m.number m.held (piece ++ Y) ≡ to_come seg a b m.number (R ++ Y) = come_open seg a b m (piece ++ Y) w.was_open ∙ ap (to_come seg a b m.number) (sym (append_assoc m.held piece Y)) in
    let after : come_of seg a b n.mode n.number n.held Y ≡ to_come seg a b n.number (n.held ++ Y) = come_open seg a b n Y w.is_open in
    elim (cases_lt r (length R)) [
      | inr fits ↦
          let none : filled a b m piece ≡ [] = full_chunks_fits r b R fits in
          let holds : n.held ≡ R = w.held ∙ open_chunk_fits r b R fits in
          let number : n.number ≡ m.number = omega (arith, w.counted, ap length none) in
          record {
            left = ap (λ x. x ++ come_of seg a b n.mode n.number n.held Y) (told ∙ ap (unmarked seg m.number) none) ∙ after
                ∙ ap (λ i. to_come seg a b i (n.held ++ Y)) number ∙ ap (λ x. to_come seg a b m.number (x ++ Y)) holds ∙ sym before;
            few = omega (arith, number, ap length holds, length-append m.held piece);
          }
      | inl more ↦
          let rest : List ℕ = drop r R in
          let fits : length rest ≤ b = omega (arith, length-drop r R, length-append m.held piece) in
          let one : filled a b m piece ≡ take r R ∷ [] = full_chunks_more r b R more (omega arith) (omega arith) ∙ ap (λ cs. take r R ∷ cs) (full_chunks_fits b b rest fits) in
          let holds : n.held ≡ rest = w.held ∙ open_chunk_more r b R more (omega arith) (omega arith) ∙ open_chunk_fits b b rest fits in
          let number : n.number ≡ m.number + 1 = omega (arith, w.counted, ap length one) in
          let front : G ≡ seg m.number false (take r R) = told ∙ ap (unmarked seg m.number) one ∙ append-nil (seg m.number false (take r R)) in
          let whole = to_come_more seg a b m.number (R ++ Y) (omega (arith, more, length-append R Y)) (omega arith) (omega arith) in
          record {
            left = ap (λ x. x ++ come_of seg a b n.mode n.number n.held Y) front ∙ ap (λ x. seg m.number false (take r R) ++ x) (after ∙ ap (λ i. to_come seg a b i (n.held ++ Y)) number ∙ ap (λ x. to_come seg a b (m.number + 1) (x ++ Y)) holds)
                ∙ ap (λ x. seg m.number false x ++ to_come seg a b (m.number + 1) (rest ++ Y)) (sym (take-append-le r R Y (omega arith)))
                ∙ ap (λ x. seg m.number false (take r (R ++ Y)) ++ to_come seg a b (m.number + 1) x) (sym (drop-append-le r R Y (omega arith)))
                ∙ sym whole ∙ sym before;
            few = omega (arith, number, ap length holds, length-drop r R, length-append m.held piece);
          }
    ]

-- the last segment is all that was to come
pub last_step : (seg : ℕ → Bool → List ℕ → List ℕ) (a b : ℕ) (m n : WriterMoment) (G : List ℕ) → length m.held ≤ room_at a b m.number → m.got ≡ Some [] → n.got ≡ Some G → ClosedBy seg m n
    → G ++ come_of seg a b n.mode n.number n.held [] ≡ come_of seg a b m.mode m.number m.held []
last_step seg a b m n G held got now c =
    let told : G ≡ seg m.number true m.held =
    subst (λ (x : Option (List ℕ)). Appends x (Some G) (seg m.number true m.held)) got
    (subst (λ (y : Option (List ℕ)). Appends m.got y (seg m.number true m.held)) now c.appended)
    in
    let none : come_of seg a b n.mode n.number n.held [] ≡ [] = ap (λ o. come_of seg a b o n.number n.held []) c.is_closed in
    ap (λ x. G ++ x) none ∙ append-nil G ∙ told ∙ sym (to_come_fits seg a b m.number m.held held)
    ∙ ap (to_come seg a b m.number) (sym (append-nil m.held)) ∙ sym (come_open seg a b m [] c.was_open)

-- a cipher's segments are longer by its overhead
pub cipher_longer : (cipher : StreamSegment) (prefix : List ℕ) (size o : ℕ) → o ≡ overhead_by cipher → IsLonger (numbered (segment_by cipher) size prefix) o
cipher_longer cipher prefix size o e = numbered_longer (segment_by cipher) size prefix o (λ n t. length-segment_by cipher n t ∙ ap (λ x. length t + x) (sym e))

-- a close of an open writer that went well has closed it
pub is_closed : (seg : ℕ → Bool → List ℕ → List ℕ) (m n : WriterMoment) → m.mode ≡ Open → ClosedBy seg m n ⊎ ((m.mode ≡ Closed) × (n ≡ m)) → ClosedBy seg m n
is_closed seg m n is_open (inl c) = c
is_closed seg m n is_open (inr c) = let e = sym is_open ∙ c.0 in absurd (cc)

-- the rooms of all chunks are as wide as that of the first
pub wide_at : (a b i : ℕ) → 2 ≤ a → a ≤ b → 2 ≤ room_at a b i
wide_at a b zero p q = p
wide_at a b (suc i) p q = omega arith

module _ {E : Type 0} {g : Ghosts E} where
  -- what comes of a writer, by the sealer that it has kept
  pub come_under : (w : SegmentWriter E g) (s : Sealer E g) (text : List ℕ) → w.sealer ≡ s → comes w text ≡ come_of (segment_map s) s.first s.room w.mode w.segments (held_text w) text
  come_under w s text e = ap (λ (x : Sealer E g). come_of (segment_map x) x.first x.room w.mode w.segments (held_text w) text) e

-- a writer at this moment, by what its sink has
module _ {E : Type 0} {g : Ghosts E} where
  abbrev pub moment_at : SegmentWriter E g → Pending → WriterMoment
  moment_at w p = record { mode = w.mode; number = w.segments; held = held_text w; got = Some p.bytes.items; faults = p.faults }

-- A source that had nothing pending, and a writer and a sink behind its next step.
module _ {E : Type 0} {g : Ghosts E} (n at : ℕ) (before after : SegmentWriter E g) (p q : Pending) (none : pending_bytes p ≡ []) (given : q.given ≡ 0) where
  behind : (text Y : List ℕ) → q.bytes.items ++ comes after Y ≡ comes before text → pending_bytes q ++ comes after Y ≡ pending_bytes p ++ comes before text
  behind text Y e = ap (λ k. drop k q.bytes.items ++ comes after Y) given ∙ e ∙ ap (λ x. x ++ comes before text) (sym none)

  -- a piece was sealed
  pub piece_left : (count : ℕ) (piece : List ℕ) → ((text : List ℕ) → q.bytes.items ++ comes after text ≡ comes before (piece ++ text)) → piece ≡ text_from n at count → at + count ≤ text_length n
      → left_of n (at + count) after q ≡ left_of n at before p
  piece_left count piece step is within =
      let Y : List ℕ = text_from n (at + count) (text_length n - (at + count)) in
      let text : piece ++ Y ≡ text_from n at (text_length n - at) =
      ap (λ x. x ++ Y) is ∙ sym (text_from_apart n at count (text_length n - (at + count)) (text_length n - at) (omega (arith, within)))
      in
      behind (text_from n at (text_length n - at)) Y (step Y ∙ ap (comes before) text)

  -- the last segment was sealed
  pub last_left : q.bytes.items ++ comes after [] ≡ comes before [] → text_length n - at ≡ 0 → left_of n at after q ≡ left_of n at before p
  last_left step end =
      let Y : List ℕ = text_from n at (text_length n - at) in
      let nothing : Y ≡ [] = ap (text_from n at) end ∙ text_from_none n at in
      behind Y Y (ap (λ y. q.bytes.items ++ comes after y) nothing ∙ step ∙ ap (comes before) (sym nothing))
