-- From the steps of a first read to its answer.
use Rattle.std.proofs.Common.{◌≡◌, inl, inr, suc, ◌<◌, ◌≤◌, ◌+◌, ◌-◌, ℕ, Bool, List, [], ◌∷◌, ◌++◌, length, map, take, drop, Result, refl, sym, ap, subst, ◌∙◌, arith, Some, None, IfSome, length-append, vec_len}
use Rattle.std.proofs.lemmas.List.{length-take}
use Rattle.std.specs.declared.option.Option.{Option}
use Rattle.std.specs.Io.KnownBytes.{Keeps, prepend_known}
use Rattle.std.proofs.KnownBytes.{Consumes-trans, prepend_known-nil}
use Rattle.tink_io.specs.Taken.{LosesAtMost}
use Rattle.tink_io.proofs.FaultLemmas.{Rose-earlier}
use Rattle.tink_io.specs.declared.error.Kind.{Kind}
use Rattle.tink_io.specs.declared.error.TinkError.{TinkError}
use Rattle.tink_io.specs.declared.error.Kind.TheVariants.{BadSegment, FailedBefore, NoMatchingKey, ReadFault, TooManySegments, Truncated}
use Rattle.stream_model.specs.Cut.{cut, room_at}
use Rattle.stream_model.specs.Agree.{Agree}
use Rattle.stream_model.specs.Key.{StreamKey}
use Rattle.stream_model.specs.Opening.{AgreeBy, Begins, FirstAgrees, IsChosen, OpeningKey, chunks_of, header_of, opening_key}
use Rattle.tink_streaming_segment.specs.declared.segment_traits.SegmentDecrypter.{Ghosts}
use Rattle.tink_streaming_io.specs.Choosing.{Started, StartRefused}
use Rattle.tink_streaming_io.specs.Trials.{BeginsInNone, MayBegin, ReadsFronts}
use Rattle.tink_streaming_io.specs.Openers.{held_bytes, reader_lacks, reader_rest}
use Rattle.tink_streaming_io.specs.declared.reading.SegmentReader.{SegmentReader}
use Rattle.tink_streaming_aead.specs.DecryptReaders.{DecryptMeans, DecryptState, FirstReadMeans, FirstReadRefused, GivesFirst, first_refusal}
use Rattle.tink_streaming_aead.specs.DecryptReaders.DecryptState.{Unread}
use Rattle.tink_streaming_io.specs.TextReading.{Gave, GivesText, TextMoment, ReadRefused}
use Rattle.tink_streaming_io.specs.declared.progress.Progress.TheVariants.{Running}
use Rattle.tink_streaming_io.proofs.TextLaws.{gave_more, gave_none}
use Rattle.tink_streaming_io.proofs.ChosenFacts.{chosen_begins, stream_agreed}

-- nothing is held of what was not read
pub unread : (n : ℕ) (items : List ℕ) (left : Option (List ℕ)) → n ≡ 0 → prepend_known (take n items) left ≡ left
unread n items left e = ap (λ m. prepend_known (take m items) left) e ∙ prepend_known-nil left

-- a reader that has given nothing, at this moment
abbrev pub first_moment : {D S : Type 0} {g : Ghosts D} → (S → Option (List ℕ)) → (S → ℕ) → SegmentReader D g → S → TextMoment
first_moment left faults r source = record {
  progress = r.progress;
  number = r.segments;
  pending = drop 0 r.opened.items;
  rest = reader_rest left r source;
  faults = faults source;
}

-- a refusal of a start
pub start_refused : (ks : List OpeningKey) (told : Option (List ℕ)) (before now : ℕ) (kind : Kind) → StartRefused ks told before now kind → FirstReadRefused ks told before now kind
start_refused ks told before now NoMatchingKey r = r
start_refused ks told before now ReadFault r = r
start_refused ks told before now _ r = absurd r

-- a first text and none do not both agree
not_both : (s : Option (ℕ → Bool → List ℕ → List ℕ)) (chunks : List (List ℕ)) → FirstAgrees s chunks → AgreeBy s chunks [] → ⊥
not_both None chunks f a = f
not_both (Some seg) chunks f a = let none : 1 ≤ 0 = a.longest (f.0 ∷ []) f.1 in omega (arith, none)

-- something comes of known bytes once a key was chosen for them
never_nothing : (ks : List OpeningKey) (all rest : Option (List ℕ)) (seg : ℕ → Bool → List ℕ → List ℕ) (first size overhead : ℕ) → IfSome all (λ X. Started ks X rest seg first size overhead)
    → IfSome rest (λ Y. Agree seg 0 (cut first size Y) []) → IfSome all (λ X. IsChosen ks X None)
never_nothing ks None rest seg first size overhead s n = tt
never_nothing ks (Some X) rest seg first size overhead s n =
    let k = s.found.key in
    let agree : Agree seg 0 (cut first size (drop s.front X)) [] = subst (λ (r : Option (List ℕ)). IfSome r (λ Y. Agree seg 0 (cut first size Y) [])) s.rest n in
    absurd (not_both (k.seg (header_of k X)) (chunks_of k X) (chosen_begins ks X k s.found.chosen).first (stream_agreed ks X seg s.front first size overhead [] s.found agree))

-- a first read to a buffer with room
pub first_read : {S : Type 0} (left : S → Option (List ℕ)) (faults : S → ℕ) (keys : List StreamKey) (aad : List ℕ) (room : ℕ) (source : S) (new : DecryptState S) (before after : List ℕ) (r : Result ℕ TinkError) → 0 < length before
    → FirstReadMeans left faults (map (opening_key aad) keys) source new before after r → DecryptMeans left faults (Unread keys aad room source) new before after r
first_read left faults keys aad room source new [] after r some is = absurd (omega arith)
first_read left faults keys aad room source new (b ∷ before) after r some is = is

-- a refusal of the chosen key's reader at its first read
pub first_refused : (ks : List OpeningKey) (all rest : Option (List ℕ)) (seg : ℕ → Bool → List ℕ → List ℕ) (a b overhead before faults room : ℕ) (n : TextMoment) (kind : Kind) → IfSome all (λ X. Started ks X rest seg a b overhead) → before ≤ faults
    → ReadRefused seg a b overhead (record { progress = Running; number = 0; pending = []; rest = rest; faults = faults }) n room kind
    → FirstReadRefused ks all before n.faults (first_refusal kind)
first_refused ks all rest seg a b overhead before faults room n ReadFault s later r = Rose-earlier before faults n.faults later r.1.rose
first_refused ks all rest seg a b overhead before faults room n TooManySegments s later r = never_nothing ks all rest seg a b overhead s r.1.nothing
first_refused ks all rest seg a b overhead before faults room n (BadSegment m) s later r = never_nothing ks all rest seg a b overhead s r.1.nothing
first_refused ks all rest seg a b overhead before faults room n (Truncated m) s later r = never_nothing ks all rest seg a b overhead s r.1.nothing
first_refused ks all rest seg a b overhead before faults room n (FailedBefore c) s later r = absurd (let e = r.0 in cc)
first_refused ks all rest seg a b overhead before faults room n _ s later r = absurd r

-- what is held is at most what was read
pub reads_held : (room f : ℕ) (all left : Option (List ℕ)) (items : List ℕ) → Keeps all (prepend_known (take f items) left) → f ≤ room → LosesAtMost room all left
reads_held room f None left items kept few = ([], omega arith, tt)
reads_held room f (Some x) None items kept few = absurd kept
reads_held room f (Some x) (Some y) items kept few = (take f items, omega (arith, few, length-take f items), sym kept)

-- from a to c no more was read than from b to c, where b has all the bytes of a
pub reads_kept : (room : ℕ) (a b c : Option (List ℕ)) → Keeps a b → LosesAtMost room b c → LosesAtMost room a c
reads_kept room None b c kept lost = ([], omega arith, tt)
reads_kept room (Some x) None c kept lost = absurd kept
reads_kept room (Some x) (Some y) c kept lost = subst (λ (z : List ℕ). LosesAtMost room (Some z) c) kept lost

-- where at most so many bytes were read, none more were
pub reads_more : (m n : ℕ) (a b : Option (List ℕ)) → m ≤ n → LosesAtMost m a b → LosesAtMost n a b
reads_more m n a b few lost = (lost.0, omega (arith, few, lost.1), lost.2)

-- the first segment of a reader that has opened none, and a byte behind it, have room
lacks_fit : (first size number room held : ℕ) → number ≡ 0 → first ≤ size → size < room → room_at first size number + 1 - held ≤ room
lacks_fit first size number room held fresh fits small = let at : room_at first size number ≡ first = ap (room_at first size) fresh in omega (arith, at)

-- a start has left room for what its reader lacks, and no more than that was read then
pub reads_near : {D : Type 0} {g : Ghosts D} (room filled : ℕ) (r : SegmentReader D g) (a b c : Option (List ℕ)) → r.segments ≡ 0 → vec_len r.buffer ≡ room → LosesAtMost (room - filled - reader_lacks r) a b → LosesAtMost (reader_lacks r) b c
    → LosesAtMost room a c
reads_near room filled r a b c fresh same first then =
    let lacks = lacks_fit r.opener.first r.opener.size r.segments room (length (held_bytes r)) fresh r.opener.first_fits (omega (arith, r.buffer_fits, same)) in
    (first.0 ++ then.0, omega (arith, lacks, first.1, then.1, length-append first.0 then.0), Consumes-trans a b c first.0 then.0 first.2 then.2)

may_begin : (k : OpeningKey) (X : List ℕ) → Begins k X → MayBegin k X
may_begin k X b = record { front = b.front; derived = λ none. subst (λ (s : Option (ℕ → Bool → List ℕ → List ℕ)). FirstAgrees s (chunks_of k X)) none b.first }

chosen_may : (ks : List OpeningKey) (X : List ℕ) (k : OpeningKey) → IsChosen ks X (Some k) → BeginsInNone ks X → ⊥
chosen_may [] X k h none = absurd (let e = h in cc)
chosen_may (l ∷ ks) X k (inl h) none = none 0 l (omega arith) (may_begin l X h.0)
chosen_may (l ∷ ks) X k (inr h) none = chosen_may ks X k h.1 (λ i d few. none (suc i) d (omega (arith, few)))

-- where a key was chosen, the stream begins in a front of it
pub started_fronts : (ks : List OpeningKey) (all rest b c : Option (List ℕ)) (seg : ℕ → Bool → List ℕ → List ℕ) (first size overhead : ℕ) → IfSome all (λ X. Started ks X rest seg first size overhead) → IfSome all (ReadsFronts ks 0 b c)
started_fronts ks None rest b c seg first size overhead s = tt
started_fronts ks (Some X) rest b c seg first size overhead s = λ none. absurd (chosen_may ks X s.found.key s.found.chosen none)

-- a moment of a reader that has opened nothing
fresh_moment : (P : TextMoment → Type 0) (m : TextMoment) → m.progress ≡ Running → m.number ≡ 0 → m.pending ≡ [] → P m → P (record { progress = Running; number = 0; pending = []; rest = m.rest; faults = m.faults })
fresh_moment P m p n q h =
    subst (λ x. P (record { progress = Running; number = 0; pending = x; rest = m.rest; faults = m.faults })) q
    (subst (λ x. P (record { progress = Running; number = x; pending = m.pending; rest = m.rest; faults = m.faults })) n
    (subst (λ x. P (record { progress = x; number = m.number; pending = m.pending; rest = m.rest; faults = m.faults })) p h))

pub fresh_gives : (seg : ℕ → Bool → List ℕ → List ℕ) (a b : ℕ) (m n : TextMoment) (before after : List ℕ) (count : ℕ) → m.progress ≡ Running → m.number ≡ 0 → m.pending ≡ [] → GivesText seg a b m n before after count
    → GivesText seg a b (record { progress = Running; number = 0; pending = []; rest = m.rest; faults = m.faults }) n before after count
fresh_gives seg a b m n before after count = fresh_moment (λ x. GivesText seg a b x n before after count) m

pub fresh_refused : (seg : ℕ → Bool → List ℕ → List ℕ) (a b overhead : ℕ) (m n : TextMoment) (room : ℕ) (kind : Kind) → m.progress ≡ Running → m.number ≡ 0 → m.pending ≡ [] → ReadRefused seg a b overhead m n room kind
    → ReadRefused seg a b overhead (record { progress = Running; number = 0; pending = []; rest = m.rest; faults = m.faults }) n room kind
fresh_refused seg a b overhead m n room kind = fresh_moment (λ x. ReadRefused seg a b overhead x n room kind) m

-- a first read has given a prefix of the text behind the header
pub first_gave : (keys : List OpeningKey) (all : Option (List ℕ)) (seg : ℕ → Bool → List ℕ → List ℕ) (a b overhead : ℕ) (new : TextMoment) (before after : List ℕ) (n : ℕ) (first : GivesFirst keys all seg a b overhead new before after n)
    → Gave seg a b first.rest (take n after) new
first_gave keys all seg a b overhead new before after n first =
    let m : TextMoment = record { progress = Running; number = 0; pending = []; rest = first.rest; faults = first.faults } in
    gave_more seg a b first.rest [] m new before after n (gave_none seg a b m refl refl) first.gave
