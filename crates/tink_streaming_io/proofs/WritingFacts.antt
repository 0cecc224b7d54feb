-- Laws of a writer's calls, for callers that give a text in pieces.
use Rattle.std.proofs.Common.{◌≡◌, ◌<◌, ◌≤◌, ◌+◌, ◌-◌, ◌*◌, ◌^◌, ℕ, zero, suc, Bool, true, List, [], ◌∷◌, ◌++◌, length, length-drop, take, drop, inl, inr, sym, ap, subst, ◌∙◌, arith, length-append, append_assoc, add-zero}
use Rattle.std.proofs.Math.Seq.{take-append-add}
use Rattle.std.proofs.Math.Nat.{mul-le-mul_right}
use Rattle.std.specs.declared.option.Option.{Option}
use Rattle.std.specs.Prelude.{Result, Ok, Err, OnOk}
use Rattle.std.specs.Io.KnownBytes.{Appends}
use Rattle.std.proofs.KnownBytes.{Appends-trans, Appends-nil}
use Rattle.stream_model.specs.Cut.{chunks, full_chunks, open_chunk, room_at, unmarked, sealed}
use Rattle.stream_model.proofs.SealingFacts.{length-chunks}
use Rattle.stream_model.proofs.CutFacts.{full_chunks_fits, open_chunk_fits, full_chunks_more, room_at_next, unmarked-append, full_chunks-append, open_chunk-append, sealed_split}
use Rattle.tink_io.specs.Written.{AppendsPrefix}
use Rattle.tink_io.specs.declared.error.Kind.{Kind}
use Rattle.tink_io.specs.declared.error.Kind.TheVariants.{WriteFault, TooManySegments, FailedBefore}
use Rattle.tink_io.specs.declared.error.Kind.TheVariants as kind
use Rattle.tink_io.specs.declared.error.TinkError.{TinkError}
use Rattle.tink_streaming_io.specs.declared.writing.Mode.TheVariants.{Open}
use Rattle.tink_streaming_io.specs.Writing.{WriterMoment, filled, StopsWithin, Wrote, WrotePrefixOf, WroteAll, WriteRefused, ClosedBy, ClosedShort, CloseMeans, PutMeans}
use Rattle.tink_streaming_io.proofs.WriterSteps.{then_prefix, one_begun}
use Rattle.tink_streaming_segment.proofs.HeadFacts.{fits_or_not}

room_positive : (a b i : ℕ) → 0 < a → 0 < b → 0 < room_at a b i
room_positive a b zero p q = p
room_positive a b (suc i) p q = q

room_at-add : (a b i k : ℕ) → room_at (room_at a b i) b k ≡ room_at a b (i + k)
room_at-add a b i zero = ap (room_at a b) (sym (add-zero i))
room_at-add a b i (suc k) = let e : i + suc k ≡ (i + k) + 1 = omega arith in sym (ap (room_at a b) e ∙ room_at_next a b (i + k))

-- a later moment of the same writer: what a text fills in both is what it fills in one and then in the other
record Follows (a b : ℕ) (m n : WriterMoment) (R : List ℕ) : Type 0 where
  counted : n.number ≡ m.number + length (filled a b m R)
  held : n.held ≡ open_chunk (room_at a b m.number) b (m.held ++ R)

follows : (seg : ℕ → Bool → List ℕ → List ℕ) (a b : ℕ) (m n : WriterMoment) (R : List ℕ) → Wrote seg a b m n R → Follows a b m n R
follows seg a b m n R w = record { counted = w.counted; held = w.held }

filled-append : (a b : ℕ) (m n : WriterMoment) (R S : List ℕ) → 0 < a → 0 < b → Follows a b m n R → filled a b m (R ++ S) ≡ filled a b m R ++ filled a b n S
filled-append a b m n R S p q f =
    let r : ℕ = room_at a b m.number in
    let T : List ℕ = m.held ++ R in
    let room : room_at r b (length (full_chunks r b T)) ≡ room_at a b n.number = room_at-add a b m.number (length (full_chunks r b T)) ∙ ap (room_at a b) (sym f.counted) in
    ap (full_chunks r b) (sym (append_assoc m.held R S)) ∙ full_chunks-append r b T S (room_positive a b m.number p q) q
    ∙ ap (λ x. full_chunks r b T ++ full_chunks x b (open_chunk r b T ++ S)) room
    ∙ ap (λ x. full_chunks r b T ++ full_chunks (room_at a b n.number) b (x ++ S)) (sym f.held)

open-append : (a b : ℕ) (m n : WriterMoment) (R S : List ℕ) → 0 < a → 0 < b → Follows a b m n R
    → open_chunk (room_at a b m.number) b (m.held ++ (R ++ S)) ≡ open_chunk (room_at a b n.number) b (n.held ++ S)
open-append a b m n R S p q f =
    let r : ℕ = room_at a b m.number in
    let T : List ℕ = m.held ++ R in
    let room : room_at r b (length (full_chunks r b T)) ≡ room_at a b n.number = room_at-add a b m.number (length (full_chunks r b T)) ∙ ap (room_at a b) (sym f.counted) in
    ap (open_chunk r b) (sym (append_assoc m.held R S)) ∙ open_chunk-append r b T S (room_positive a b m.number p q) q
    ∙ ap (λ x. open_chunk x b (open_chunk r b T ++ S)) room
    ∙ ap (λ x. open_chunk (room_at a b n.number) b (x ++ S)) (sym f.held)

-- segments of chunks that follow
unmarked-follows : (seg : ℕ → Bool → List ℕ → List ℕ) (i j : ℕ) (xs ys : List (List ℕ)) → j ≡ i + length xs → unmarked seg i xs ++ unmarked seg j ys ≡ unmarked seg i (xs ++ ys)
unmarked-follows seg i j xs ys e = ap (λ n. unmarked seg i xs ++ unmarked seg n ys) e ∙ sym (unmarked-append seg i xs ys)

-- a text and then another are one text
pub wrote_more : (seg : ℕ → Bool → List ℕ → List ℕ) (a b : ℕ) (m n o : WriterMoment) (R S : List ℕ) → 0 < a → 0 < b → Wrote seg a b m n R → Wrote seg a b n o S → Wrote seg a b m o (R ++ S)
wrote_more seg a b m n o R S p q w v =
    let f = follows seg a b m n R w in
    let all = filled-append a b m n R S p q f in
    record {
      was_open = w.was_open;
      is_open = v.is_open;
      appended = subst (Appends m.got o.got) (unmarked-follows seg m.number n.number (filled a b m R) (filled a b n S) w.counted ∙ ap (unmarked seg m.number) (sym all))
          (Appends-trans m.got n.got o.got _ _ w.appended v.appended);
      held = v.held ∙ sym (open-append a b m n R S p q f);
      counted = omega (arith, w.counted, v.counted, ap length all, length-append (filled a b m R) (filled a b n S));
      few = v.few;
    }

pub wrote_then_prefix : (seg : ℕ → Bool → List ℕ → List ℕ) (a b : ℕ) (m n o : WriterMoment) (R S : List ℕ) → 0 < a → 0 < b → m.faults ≤ n.faults → Wrote seg a b m n R → WrotePrefixOf seg a b n o S → WrotePrefixOf seg a b m o (R ++ S)
wrote_then_prefix seg a b m n o R S p q later w v =
    let before : List (List ℕ) = filled a b m R in
    let stops = v.stops in
    record {
      was_open = w.was_open;
      failed = v.failed;
      held = v.held;
      stops = record {
        done = before ++ stops.done;
        next = stops.next;
        more = stops.more;
        split = filled-append a b m n R S p q (follows seg a b m n R w) ∙ ap (λ x. before ++ x) stops.split ∙ sym (append_assoc before stops.done (stops.next ∷ stops.more));
        counted = omega (arith, w.counted, stops.counted, length-append before stops.done);
        between = stops.between;
        whole = subst (Appends m.got stops.between) (unmarked-follows seg m.number n.number before stops.done w.counted) (Appends-trans m.got n.got stops.between _ _ w.appended stops.whole);
        prefix = stops.prefix;
      };
      rose = let r = v.rose in omega arith;
    }

-- a prefix of all the segments was written
pub stops_prefix : (seg : ℕ → Bool → List ℕ → List ℕ) (first number : ℕ) (chunks : List (List ℕ)) (old new : Option (List ℕ)) → StopsWithin seg first number chunks old new → AppendsPrefix old new (unmarked seg first chunks)
stops_prefix seg first number chunks old new s = one_begun seg old s.between new first number s.done s.next s.more chunks s.counted s.split s.whole s.prefix

-- the chunks below the number that is not there
take_below : (i j : ℕ) (xs ys : List (List ℕ)) → j ≡ i + length xs → j < 2 ^ 32 → take (2 ^ 32 - 1 - i) (xs ++ ys) ≡ xs ++ take (2 ^ 32 - 1 - j) ys
take_below i j xs ys e h =
    let n : 2 ^ 32 - 1 - i ≡ length xs + (2 ^ 32 - 1 - j) = omega arith in
    ap (λ k. take k (xs ++ ys)) n ∙ take-append-add xs ys (2 ^ 32 - 1 - j)

pub wrote_then_all : (seg : ℕ → Bool → List ℕ → List ℕ) (a b : ℕ) (m n o : WriterMoment) (R S : List ℕ) → 0 < a → 0 < b → Wrote seg a b m n R → WroteAll seg a b n o S → WroteAll seg a b m o (R ++ S)
wrote_then_all seg a b m n o R S p q w v =
    let all = filled-append a b m n R S p q (follows seg a b m n R w) in
    let below = ap (take (2 ^ 32 - 1 - m.number)) all ∙ take_below m.number n.number (filled a b m R) (filled a b n S) w.counted w.few in
    record {
      was_open = w.was_open;
      failed = v.failed;
      held = v.held;
      counted = v.counted;
      many = omega (arith, v.many, w.counted, ap length all, length-append (filled a b m R) (filled a b n S));
      appended = subst (Appends m.got o.got)
          (unmarked-follows seg m.number n.number (filled a b m R) (take (2 ^ 32 - 1 - n.number) (filled a b n S)) w.counted ∙ ap (unmarked seg m.number) (sym below))
          (Appends-trans m.got n.got o.got _ _ w.appended v.appended);
    }

-- a refusal after a text is that of both
pub refused_more : (seg : ℕ → Bool → List ℕ → List ℕ) (a b : ℕ) (m n o : WriterMoment) (R S : List ℕ) (k : Kind) → 0 < a → 0 < b → m.faults ≤ n.faults → Wrote seg a b m n R → WriteRefused seg a b n o S k → WriteRefused seg a b m o (R ++ S) k
refused_more seg a b m n o R S WriteFault p q later w v = wrote_then_prefix seg a b m n o R S p q later w v
refused_more seg a b m n o R S TooManySegments p q later w v = wrote_then_all seg a b m n o R S p q w v
refused_more seg a b m n o R S kind.Closed p q later w v = absurd (let e = sym w.is_open ∙ v.0 in cc)
refused_more seg a b m n o R S (FailedBefore c) p q later w v = absurd (let e = sym w.is_open ∙ v.0 in cc)
refused_more seg a b m n o R S _ p q later w v = absurd v

-- a writer that has written nothing
pub record IsFresh (m : WriterMoment) : Type 0 where
  pub mode : m.mode ≡ Open
  pub number : m.number ≡ 0
  pub held : m.held ≡ []

pub fresh_filled : (a b : ℕ) (m : WriterMoment) (R : List ℕ) → IsFresh m → filled a b m R ≡ full_chunks a b R
fresh_filled a b m R f = ap (λ i. full_chunks (room_at a b i) b (m.held ++ R)) f.number ∙ ap (λ x. full_chunks a b (x ++ R)) f.held

fresh_open : (a b : ℕ) (m : WriterMoment) (R : List ℕ) → IsFresh m → open_chunk (room_at a b m.number) b (m.held ++ R) ≡ open_chunk a b R
fresh_open a b m R f = ap (λ i. open_chunk (room_at a b i) b (m.held ++ R)) f.number ∙ ap (λ x. open_chunk a b (x ++ R)) f.held

-- no text so far
pub wrote_nothing : (seg : ℕ → Bool → List ℕ → List ℕ) (a b : ℕ) (m : WriterMoment) → IsFresh m → Wrote seg a b m m []
wrote_nothing seg a b m f =
    let none : filled a b m [] ≡ [] = fresh_filled a b m [] f ∙ full_chunks_fits a b [] (omega arith) in
    record {
      was_open = f.mode;
      is_open = f.mode;
      appended = subst (Appends m.got m.got) (ap (unmarked seg m.number) (sym none)) (Appends-nil m.got);
      held = f.held ∙ sym (fresh_open a b m [] f ∙ open_chunk_fits a b [] (omega arith));
      counted = omega (arith, ap length none);
      few = omega (arith, f.number);
    }

-- what a fresh writer's text and its marked segment are
whole : (seg : ℕ → Bool → List ℕ → List ℕ) (a b : ℕ) (m n : WriterMoment) (R : List ℕ) → IsFresh m → Wrote seg a b m n R
    → unmarked seg m.number (filled a b m R) ++ seg n.number true n.held ≡ sealed seg a b R
whole seg a b m n R f w =
    let number : n.number ≡ length (full_chunks a b R) = omega (arith, w.counted, f.number, ap length (fresh_filled a b m R f)) in
    ap (λ i. unmarked seg i (filled a b m R) ++ seg n.number true n.held) f.number
    ∙ ap (λ x. unmarked seg 0 x ++ seg n.number true n.held) (fresh_filled a b m R f)
    ∙ ap (λ i. unmarked seg 0 (full_chunks a b R) ++ seg i true n.held) number
    ∙ ap (λ x. unmarked seg 0 (full_chunks a b R) ++ seg (length (full_chunks a b R)) true x) (w.held ∙ fresh_open a b m R f)
    ∙ sym (sealed_split seg a b R)

-- a fresh writer that was given a text and closed has written the text's segments, and counted its chunks
pub closed_whole : (seg : ℕ → Bool → List ℕ → List ℕ) (a b : ℕ) (m n o : WriterMoment) (R : List ℕ) → IsFresh m → Wrote seg a b m n R → ClosedBy seg n o
    → Appends m.got o.got (sealed seg a b R) × (o.number ≡ length (chunks a b R))
closed_whole seg a b m n o R f w c = (
  subst (Appends m.got o.got) (whole seg a b m n R f w) (Appends-trans m.got n.got o.got _ _ w.appended c.appended),
  omega (arith, c.counted, w.counted, f.number, ap length (fresh_filled a b m R f), length-chunks a b R),
)

-- where the sink failed at the last segment, it has a prefix of them
pub closed_prefix : (seg : ℕ → Bool → List ℕ → List ℕ) (a b : ℕ) (m n o : WriterMoment) (R : List ℕ) → IsFresh m → Wrote seg a b m n R → ClosedShort seg n o → AppendsPrefix m.got o.got (sealed seg a b R)
closed_prefix seg a b m n o R f w c = subst (AppendsPrefix m.got o.got) (whole seg a b m n R f w) (then_prefix m.got n.got o.got _ _ w.appended c.begun)

-- putting the last segment closes a writer
pub put_closes : (seg : ℕ → Bool → List ℕ → List ℕ) (m n : WriterMoment) (r : Result (Unit {0}) TinkError) → m.mode ≡ Open → PutMeans seg true m n r → CloseMeans seg m n r
put_closes seg m n (Ok u) was p = inl (record { was_open = was; is_closed = p.mode; held = p.held; appended = p.appended; counted = p.counted })
put_closes seg m n (Err e) was p = rw p.kind (record { was_open = was; failed = p.failed; held = p.held; counted = p.counted; begun = p.begun; rose = p.rose })

-- closing that went well after a text
pub close_ok : (seg : ℕ → Bool → List ℕ → List ℕ) (a b : ℕ) (m n o : WriterMoment) (R : List ℕ) (r : Result (Unit {0}) TinkError) → IsFresh m → Wrote seg a b m n R → CloseMeans seg n o r
    → OnOk r (Appends m.got o.got (sealed seg a b R) × (o.number ≡ length (chunks a b R)))
close_ok seg a b m n o R (Ok u) f w (inl c) = closed_whole seg a b m n o R f w c
close_ok seg a b m n o R (Ok u) f w (inr c) = absurd (let e = sym w.is_open ∙ c.0 in cc)
close_ok seg a b m n o R (Err e) f w c = tt

-- a text has no more bytes than its full chunks and one more have room for
bytes_most : (n a b : ℕ) (R : List ℕ) → length R ≤ n → 0 < a → a ≤ b → length R ≤ (length (full_chunks a b R) + 1) * b
bytes_most zero a b R h p q = omega arith
bytes_most (suc n) a b R h p q = elim (fits_or_not (length R) a) [
  | inl fits ↦ let none = ap length (full_chunks_fits a b R fits) in omega (arith, ap (λ k. (k + 1) * b) none)
  | inr more ↦
      let rest = bytes_most n b b (drop a R) (omega (arith, length-drop a R)) (omega arith) (omega arith) in
      let count = ap length (full_chunks_more a b R more p (omega arith)) in
      omega (arith, rest, ap (λ k. (k + 1) * b) count, length-drop a R)
]

-- the bytes that an open writer has taken are fewer than 2^64
pub taken_fits : (a b : ℕ) (R : List ℕ) → 0 < a → a ≤ b → b < 2 ^ 32 → length (full_chunks a b R) < 2 ^ 32 → length R < 2 ^ 64
taken_fits a b R p q small few =
    let most = bytes_most (length R) a b R (omega arith) p q in
    let wide : (length (full_chunks a b R) + 1) * b ≤ (2 ^ 32) * b = mul-le-mul_right b (omega arith) in
    let all : (2 ^ 32) * b < 2 ^ 64 = omega arith in
    omega arith
