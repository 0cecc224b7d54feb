-- How far an open has read its source, once what its sink gathered was handed on, and by the keyset that its keys are of.
use Rattle.std.proofs.Common.{◌≡◌, inl, inr, ◌≤◌, ◌<◌, ◌+◌, ◌^◌, ℕ, zero, suc, List, [], ◌∷◌, length, drop, map, All, refl, sym, ap, subst, ◌∙◌, arith, Some, None, IfSome}
use Rattle.std.specs.declared.option.Option.{Option}
use Rattle.std.specs.Prelude.{Result, Ok, Err, IsSome}
use Rattle.std.specs.Io.KnownBytes.{Appends, IsAtEnd, Keeps}
use Rattle.std.proofs.KnownBytes.{Appends-kept}
use Rattle.std.proofs.lemmas.List.Elements.{All-head, All-tail, All-cons, All-nil}
use Rattle.std.proofs.lemmas.Simd.{map-map}
use Rattle.tink_io.specs.Taken.{LosesAtMost}
use Rattle.tink_io.specs.Written.{AppendsPrefix}
use Rattle.tink_io.specs.declared.error.Kind.{Kind}
use Rattle.tink_io.specs.declared.error.Kind.TheVariants.{OutOfMemory, ReadFault, WriteFault, TooManySegments, NoMatchingKey, BadSegment, Truncated}
use Rattle.tink_io.specs.declared.error.TinkError.{TinkError}
use Rattle.stream_model.specs.Agree.{joined}
use Rattle.stream_model.specs.Cut.{room_at}
use Rattle.stream_model.specs.Key.{StreamKey}
use Rattle.stream_model.specs.Opening.{OpeningKey, IsChosen, chunks_of, opening_key}
use Rattle.stream_model.specs.Order.{HaveSameOrder}
use Rattle.stream_model.proofs.KeyFacts.{CanOpen as Lawful}
use Rattle.stream_model.proofs.OrderFacts.{choose_the_same, each_too}
use Rattle.loading_model.specs.Loading.{Loaded, opening_keys}
use Rattle.tink_io.specs.Gathering.{IsCutShort, OnlyGrows}
use Rattle.tink_sets.specs.declared.typed_set.TypedPrimitiveSet.{TypedPrimitiveSet}
use Rattle.tink_streaming_keys.specs.declared.stream_kind.StreamKind.{StreamKind}
use Rattle.tink_streaming_aead.specs.DecryptReaders.{largest}
use Rattle.tink_streaming_aead.proofs.DecryptSteps.{reads_more}
use Rattle.tink_streaming_aead.specs.Wrapped.{KeepsOrder, all_entries, keys_in}
use Rattle.tink_run.specs.AllKeys.{load}
use Rattle.tink_run.specs.HeldKeys.{GivesLoaded}
use Rattle.tink_run.specs.declared.report.Command.{Command}
use Rattle.tink_run.specs.declared.report.Command.TheVariants.{Seal, Open}
use Rattle.tink_run.specs.declared.report.Report.{Report}
use Rattle.tink_run.specs.Endings.{EndsAs, IsEndedBy, IsRefusedEarly}
use Rattle.tink_run.specs.OpenAnswers.{AgreesUntil, IsOfChosen, Lead, chunk_of}
use Rattle.tink_run.specs.OpenReads.{OpensReading, ReadsBy, ReadsInChunk, ReadsNear, ReadsNoFurther, ReadsWithin, StopsBehind, from_chunk, largest_of, room_under}
use Rattle.tink_run.specs.OpenSteps.{OpensUnder, OpensUnderRefused}
use Rattle.tink_io.specs.Outside.{Outside}
use Rattle.tink_run.specs.Run.{IsEarly}
use Rattle.tink_run.proofs.EndingSteps.{cut_prefix, ends_mapped, if_told, kept_after, leads_agreed, leads_opened, not_early}
use Rattle.tink_run.proofs.OpenLemmas.{chosen_lawful, kept_prefix, same_loaded, stream_agrees, whole_prefix}
use Rattle.tink_run.proofs.ReadOut.{any_told}
use Rattle.tink_run.proofs.ReadsSteps.{same_largest}
use Rattle.tink_run.proofs.LoadedFacts.{loaded_usable}
use Rattle.tink_run.proofs.RunSteps.{are_of_keyset, opens_same, ordered_keys}

-- ---- from the moment of the answer to the end

-- nothing stands behind the last chunk
dropped : (cs : List (List ℕ)) (n : ℕ) → length cs ≡ n → drop n cs ≡ []
dropped [] zero e = refl
dropped [] (suc n) e = refl
dropped (c ∷ cs) zero e = absurd (omega (arith, e))
dropped (c ∷ cs) (suc n) e = dropped cs n (omega (arith, e))

none_lost : (room : ℕ) (cs : List (List ℕ)) (n : ℕ) (left : Option (List ℕ)) → length cs ≡ n → IsSome left → IsAtEnd left → LosesAtMost room (Some (from_chunk cs n)) left
none_lost room cs n None e some end = absurd (cc)
none_lost room cs n (Some y) e some end = ([], omega arith, ap joined (dropped cs n e) ∙ sym end)

-- a stream that was opened whole was read up to its end
whole_near : (room : ℕ) (keys : List OpeningKey) (all left : Option (List ℕ)) (texts : List (List ℕ)) → ((S : List ℕ) (k : OpeningKey) → IsChosen keys S (Some k) → Lawful k) → IfSome all (λ S. IsOfChosen keys S texts) → IfSome all (λ _. IsSome left) → IsAtEnd left
    → ReadsNear room keys (length texts) all left
whole_near room keys None left texts lawful s told end = tt
whole_near room keys (Some S) left texts lawful s told end =
    (s.key, s.chosen, none_lost room (chunks_of s.key S) (length texts) left (stream_agrees s.key S texts (lawful S s.key s.chosen) s.stream).1 told end)

module _ (room : ℕ) (keys : List OpeningKey) (old new : Outside) (told : Option (List ℕ)) (faults : ℕ) where
  abbrev first_end : Outside
  first_end = record new { got = told; write_faults = faults }

  handed : (Wrote Writes : Option (List ℕ) → Option (List ℕ) → List ℕ → Type 0) (Near Nears : ℕ → Option (List ℕ) → Option (List ℕ) → Type 0) → ((bs : List ℕ) → Wrote old.got told bs → Writes old.got new.got bs)
      → ((n : ℕ) → Near n old.left new.left → Nears n old.left new.left) → StopsBehind Wrote Near room keys old first_end → StopsBehind Writes Nears room keys old new
  handed Wrote Writes Near Nears on to r = record {
    texts = r.texts;
    lead = r.lead;
    read = elim r.read [ inl h ↦ inl (to (length r.texts) h) | inr h ↦ inr h ];
    written = on (joined r.texts) r.written;
  }

  -- all was handed on
  kept_by : Keeps told new.got → (kind : Kind) → ReadsBy room keys old first_end kind → ReadsBy room keys old new kind
  kept_by kept NoMatchingKey r = r
  kept_by kept (Truncated n) r = r
  kept_by kept (BadSegment n) r = r
  kept_by kept TooManySegments r = r
  kept_by kept ReadFault r = handed Appends Appends (ReadsInChunk keys) (ReadsInChunk keys) (λ bs w. Appends-kept old.got told new.got bs w kept) (λ n h. h) r
  kept_by kept WriteFault r = handed AppendsPrefix AppendsPrefix (ReadsNear room keys) (ReadsNear room keys) (λ bs w. kept_after old.got told new.got bs kept w) (λ n h. h) r
  kept_by kept _ r = tt

  reads_handed : Keeps told new.got → (answer : Result Report TinkError) → ReadsWithin room keys old first_end answer → ReadsWithin room keys old new answer
  reads_handed kept (Ok report) r = tt
  reads_handed kept (Err e) r = kept_by kept e.kind r

  -- a part was handed on
  module _ (grows : OnlyGrows old.got new.got) (short : IsCutShort told new.got) (within : (S : List ℕ) (k : OpeningKey) (n : ℕ) → IsChosen keys S (Some k) → room_at k.first k.size n ≤ room) where
    part : (bs : List ℕ) → AppendsPrefix old.got told bs → AppendsPrefix old.got new.got bs
    part bs w = cut_prefix old.got told new.got bs grows short w

    part_of : (bs : List ℕ) → Appends old.got told bs → AppendsPrefix old.got new.got bs
    part_of bs w = part bs (whole_prefix old.got told bs w)

    until : (n : ℕ) (texts : List (List ℕ)) (P : List ℕ → OpeningKey → Type 0) → n ≡ length texts → IfSome old.left (λ S. AgreesUntil keys S texts (P S)) → Appends old.got told (joined texts) → ReadsNear room keys n old.left new.left
        → StopsBehind AppendsPrefix (ReadsNear room keys) room keys old new
    until n texts P number stream w near = record {
      texts = texts;
      lead = if_told old.left (λ S. AgreesUntil keys S texts (P S)) (λ S. Lead keys S texts) (λ S a. leads_agreed keys S texts (P S) a) stream;
      read = inl (subst (λ (i : ℕ). ReadsNear room keys i old.left new.left) number near);
      written = part_of (joined texts) w;
    }

    -- a chunk under the chosen key has no more bytes than were held
    wider : (n : ℕ) (all left : Option (List ℕ)) → ReadsInChunk keys n all left → ReadsNear room keys n all left
    wider n None left h = tt
    wider n (Some S) left h = (h.0, h.1, reads_more (room_at h.0.first h.0.size n) room (Some (from_chunk (chunks_of h.0 S) n)) left (within S h.0 n h.1) h.2)

    cut_by : (kind : Kind) → (IsEarly kind → ⊥) → OpensUnderRefused keys old first_end kind → ReadsBy room keys old first_end kind → StopsBehind AppendsPrefix (ReadsNear room keys) room keys old new
    cut_by OutOfMemory early o r = absurd (early tt)
    cut_by NoMatchingKey early o r = record {
      texts = [];
      lead = any_told old.left;
      read = inr (refl, r);
      written = part [] (kept_prefix old.got told [] o.written);
    }
    cut_by (Truncated n) early o r = until n o.texts (λ S k. (0 < length (chunk_of k S n)) × (length (chunk_of k S n) < k.overhead)) o.number o.stream o.written r
    cut_by (BadSegment n) early o r = until n o.texts (λ S k. k.overhead ≤ length (chunk_of k S n)) o.number o.stream o.written r
    cut_by TooManySegments early o r = until (2 ^ 32) o.texts (λ S k. 2 ^ 32 < length (chunks_of k S)) (sym o.number) o.stream o.written r
    cut_by ReadFault early o r = handed Appends AppendsPrefix (ReadsInChunk keys) (ReadsNear room keys) part_of (λ n. wider n old.left new.left) r
    cut_by WriteFault early o r = handed AppendsPrefix AppendsPrefix (ReadsNear room keys) (ReadsNear room keys) part (λ n h. h) r
    cut_by _ early o r = absurd o

    reads_cut : ((S : List ℕ) (k : OpeningKey) → IsChosen keys S (Some k) → Lawful k) → (answer : Result Report TinkError) → (IsRefusedEarly answer → ⊥) → OpensUnder keys old first_end answer → ReadsWithin room keys old first_end answer
        → StopsBehind AppendsPrefix (ReadsNear room keys) room keys old new
    reads_cut lawful (Ok report) early o r = record {
      texts = o.texts;
      lead = if_told old.left (λ S. IsOfChosen keys S o.texts) (λ S. Lead keys S o.texts) (λ S s. leads_opened keys S o.texts lawful s) o.stream;
      read = inl (whole_near room keys old.left new.left o.texts lawful o.stream o.stays_told o.at_end);
      written = part_of (joined o.texts) o.written;
    }
    reads_cut lawful (Err e) early o r = cut_by e.kind early o r

-- a chunk under the chosen key is no longer than the segments of the keys
chosen_within : (keys : List OpeningKey) (S : List ℕ) (k : OpeningKey) → IsChosen keys S (Some k) → k.size ≤ largest_of keys
chosen_within [] S k h = absurd (cc)
chosen_within (e ∷ keys) S k (inl h) = let same : e ≡ k = cc in subst (λ (x : OpeningKey). x.size ≤ largest_of (e ∷ keys)) same (omega arith)
chosen_within (e ∷ keys) S k (inr h) = omega (arith, chosen_within keys S k h.1)

chunk_most : (first size n : ℕ) → first ≤ size → room_at first size n ≤ size
chunk_most first size zero fits = fits
chunk_most first size (suc n) fits = omega arith

-- an open to a sink that gathers has read what one to the sink behind it has
reads_ended : (keys : List OpeningKey) → ((S : List ℕ) (k : OpeningKey) → IsChosen keys S (Some k) → Lawful k) → (old new : Outside) (ended : Result Report TinkError) → EndsAs (OpensReading keys old) old new ended → ReadsWithin (room_under keys) keys old new ended
reads_ended keys lawful old new ended r = go r.ends
  where
    within : (S : List ℕ) (k : OpeningKey) (n : ℕ) → IsChosen keys S (Some k) → room_at k.first k.size n ≤ room_under keys
    within S k n c = omega (arith, chosen_within keys S k c, chunk_most k.first k.size n (omega (arith, (lawful S k c).fits)))

    go : IsEndedBy r.told new.got r.faults new.write_faults r.answer ended → ReadsWithin (room_under keys) keys old new ended
    go (inl w) = subst (ReadsWithin (room_under keys) keys old new) (sym w.is) (reads_handed (room_under keys) keys old new r.told r.faults w.kept r.answer r.meant.1)
    go (inr w) =
        subst (ReadsWithin (room_under keys) keys old new) (sym w.is)
        (reads_cut (room_under keys) keys old new r.told r.faults r.grows w.short within lawful r.answer (λ e. absurd (not_early r.answer ended (r.told ≡ new.got) (r.faults ≡ new.write_faults) r.early w.is e)) r.meant.0 r.meant.1)

-- ---- under other keys of which the same is chosen
module _ (room : ℕ) (ks js : List OpeningKey) (old new : Outside) (same : (S : List ℕ) (c : Option OpeningKey) → IsChosen ks S c → IsChosen js S c) where
  near_to : (n : ℕ) (all left : Option (List ℕ)) → ReadsNear room ks n all left → ReadsNear room js n all left
  near_to n None left h = tt
  near_to n (Some S) left h = (h.0, same S (Some h.0) h.1, h.2)

  lead_to : (texts : List (List ℕ)) (S : List ℕ) → Lead ks S texts → Lead js S texts
  lead_to [] S h = tt
  lead_to (t ∷ ts) S h = (h.0, same S (Some h.0) h.1, h.2)

  chunk_to : (n : ℕ) (all left : Option (List ℕ)) → ReadsInChunk ks n all left → ReadsInChunk js n all left
  chunk_to n None left h = tt
  chunk_to n (Some S) left h = (h.0, same S (Some h.0) h.1, h.2)

  stops_to : (Wrote : Option (List ℕ) → Option (List ℕ) → List ℕ → Type 0) (Near Nears : ℕ → Option (List ℕ) → Option (List ℕ) → Type 0) → ((n : ℕ) → Near n old.left new.left → Nears n old.left new.left)
      → StopsBehind Wrote Near room ks old new → StopsBehind Wrote Nears room js old new
  stops_to Wrote Near Nears to r = record {
    texts = r.texts;
    lead = if_told old.left (λ S. Lead ks S r.texts) (λ S. Lead js S r.texts) (lead_to r.texts) r.lead;
    read = elim r.read [ inl h ↦ inl (to (length r.texts) h) | inr h ↦ inr h ];
    written = r.written;
  }

  reads_by : (kind : Kind) → ReadsBy room ks old new kind → ReadsBy room js old new kind
  reads_by NoMatchingKey r = r
  reads_by (Truncated n) r = near_to n old.left new.left r
  reads_by (BadSegment n) r = near_to n old.left new.left r
  reads_by TooManySegments r = near_to (2 ^ 32) old.left new.left r
  reads_by ReadFault r = stops_to Appends (ReadsInChunk ks) (ReadsInChunk js) (λ n. chunk_to n old.left new.left) r
  reads_by WriteFault r = stops_to AppendsPrefix (ReadsNear room ks) (ReadsNear room js) (λ n. near_to n old.left new.left) r
  reads_by _ r = tt

  reads_to : (answer : Result Report TinkError) → ReadsWithin room ks old new answer → ReadsWithin room js old new answer
  reads_to (Ok report) r = tt
  reads_to (Err e) r = reads_by e.kind r

opens_reading : (ks js : List OpeningKey) (old new : Outside) (answer : Result Report TinkError) → ((S : List ℕ) (c : Option OpeningKey) → IsChosen ks S c → IsChosen js S c) → room_under ks ≡ room_under js
    → (OpensUnder ks old new answer → OpensUnder js old new answer) → OpensReading ks old new answer → OpensReading js old new answer
opens_reading ks js old new answer same room opens r =
    (opens r.0, subst (λ (n : ℕ). ReadsWithin n js old new answer) room (reads_to (room_under ks) ks js old new same answer r.1))

-- ---- keys in any order among prefixes

abbrev IsWithin : ℕ → StreamKey → Type 0
IsWithin n k = length k.out + k.segment ≤ n

each_within : (n : ℕ) (keys : List StreamKey) → largest keys ≤ n → All (IsWithin n) keys
each_within n [] h = All-nil (IsWithin n)
each_within n (k ∷ keys) h = All-cons (IsWithin n) k keys (omega (arith, h)) (each_within n keys (omega (arith, h)))

largest_within : (n : ℕ) (keys : List StreamKey) → All (IsWithin n) keys → largest keys ≤ n
largest_within n [] all = omega arith
largest_within n (k ∷ keys) all =
    let own = All-head (IsWithin n) k keys all in
    let rest = largest_within n keys (All-tail (IsWithin n) k keys all) in
    omega (arith, own, rest)

no_larger : (keys others : List StreamKey) → HaveSameOrder keys others → largest keys ≤ largest others
no_larger keys others same = largest_within (largest others) keys (each_too (IsWithin (largest others)) keys others same (each_within (largest others) others (omega arith)))

pub same_room : (aad : List ℕ) (keys others : List StreamKey) → HaveSameOrder keys others → room_under (map (opening_key aad) keys) ≡ room_under (map (opening_key aad) others)
same_room aad keys others same =
    let one = no_larger keys others same in
    let two = no_larger others keys (λ prefix. sym (same prefix)) in
    let mine = same_largest aad keys in
    let theirs = same_largest aad others in
    omega (arith, one, two, mine, theirs)

-- ---- what a run has read

-- where the keyset does not load, or there is no memory for it
pub reads_unloaded : (command : Command) (keyset aad : List ℕ) (old new : Outside) (e : TinkError) → GivesLoaded (Err e) (load keyset) → ReadsNoFurther command keyset aad old new (Err e)
reads_unloaded Seal keyset aad old new e m = tt
reads_unloaded Open keyset aad old new e (inl m) = λ l loads. subst (ReadsBy (room_under (opening_keys aad l)) (opening_keys aad l) old new) (sym m) tt
reads_unloaded Open keyset aad old new e (inr m) = λ l loads. absurd (let f = m in cc)

pub reads_no_room : (command : Command) (keyset aad : List ℕ) (old new : Outside) (e : TinkError) → e ≡ record { kind = OutOfMemory } → ReadsNoFurther command keyset aad old new (Err e)
reads_no_room Seal keyset aad old new e is = tt
reads_no_room Open keyset aad old new e is = λ l loads. subst (ReadsBy (room_under (opening_keys aad l)) (opening_keys aad l) old new) (sym (ap (λ x. x.kind) is)) tt

-- an open under all keys of the set is one under the keyset
pub reads_keyset : (keyset aad : List ℕ) (set : TypedPrimitiveSet StreamKind) (old new : Outside) (answer : Result Report TinkError) → GivesLoaded (Ok set) (load keyset) → KeepsOrder set.entries
    → EndsAs (OpensReading (map (opening_key aad) (keys_in (all_entries set.entries))) old) old new answer → ReadsNoFurther Open keyset aad old new answer
reads_keyset keyset aad set old new answer loads order r = λ m told.
    let l : Loaded = loads.0 in
    let own : List StreamKey = map (λ k. k.key) l.keys in
    let all : List StreamKey = keys_in (all_entries set.entries) in
    let ordered = ordered_keys l set loads.2 order in
    let given : List OpeningKey = map (opening_key aad) all in
    let held : List OpeningKey = map (opening_key aad) own in
    let under : EndsAs (OpensReading held old) old new answer =
    ends_mapped (OpensReading given old) (OpensReading held old) old new answer
    (λ n a. let same = λ (S : List ℕ) (c : Option OpeningKey). (choose_the_same aad S all own c (are_of_keyset l.keys (loaded_usable keyset l loads.1).0) ordered).0 in
    opens_reading given held old n a same (same_room aad all own ordered) (opens_same given held old n same a)) r
    in
    let loaded : EndsAs (OpensReading (opening_keys aad l) old) old new answer = subst (λ (ks : List OpeningKey). EndsAs (OpensReading ks old) old new answer) (map-map (opening_key aad) (λ k. k.key) l.keys) under in
    subst (λ (x : Loaded). ReadsWithin (room_under (opening_keys aad x)) (opening_keys aad x) old new answer) (same_loaded keyset l m loads.1 told)
    (reads_ended (opening_keys aad l) (λ S k. chosen_lawful keyset aad S l k loads.1) old new answer loaded)
