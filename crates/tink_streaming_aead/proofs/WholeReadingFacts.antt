-- What reads up to the end have given, in the words of streams.
use Rattle.std.proofs.Common.{◌≡◌, inl, inr, ◌<◌, ◌-◌, ℕ, Bool, List, [], ◌∷◌, ◌++◌, length, take, drop, map, Some, None, sym, ap, subst, ◌∙◌, arith, length-append, All}
use Rattle.std.specs.Prelude.{IfSome, slice_index}
use Rattle.std.specs.declared.option.Option.{Option}
use Rattle.std.specs.Io.KnownBytes.{Consumes}
use Rattle.std.proofs.lemmas.Bool.Decides.{nat_tests}
use Rattle.std.proofs.lemmas.List.Elements.{All-tail}
use Rattle.std.proofs.Math.Seq.{take-append_seam, drop-append_seam}
use Rattle.stream_model.specs.Agree.{Leads}
use Rattle.stream_model.specs.Cut.{cut}
use Rattle.stream_model.specs.Key.{IsUsable, StreamKey, first_segment, fronted, header_length, overhead}
use Rattle.stream_model.specs.Opening.{AreSegments, AreSegmentsBy, IsChosen, IsStream, OpeningKey, header_of, opening_key}
use Rattle.stream_model.proofs.KeyFacts.{CanOpen, IsLawful, opening_key_lawful}
use Rattle.tink_streaming_io.specs.Choosing.{Started}
use Rattle.tink_streaming_io.specs.TextReading.{AtEnd, Gave, TextMoment}
use Rattle.tink_streaming_io.proofs.ChosenFacts.{stream_opened}
use Rattle.tink_streaming_io.proofs.TextLaws.{gave_all, text_of_whole}
use Rattle.tink_streaming_keys.specs.Decrypting.{IsNewReader}
use Rattle.tink_streaming_aead.proofs.FrontFacts.{no_prefix}
use Rattle.tink_streaming_aead.specs.DecryptReaders.{GivesFirst}
use Rattle.tink_streaming_aead.specs.WholeReading.{IsTextOfChosen, IsTextOfStream}

-- the first byte of a header is the first of all
first_byte : (H Y : List ℕ) (n : ℕ) → 0 < length H → slice_index H 0 ≡ n → slice_index (H ++ Y) 0 ≡ n
first_byte [] Y n some e = absurd (omega arith)
first_byte (x ∷ H) Y n some e = e

-- a header and the segments of some texts are a stream
joined_stream : (k : StreamKey) (aad H X Y : List ℕ) (seg : ℕ → Bool → List ℕ → List ℕ) (texts : List (List ℕ)) → length H ≡ header_length k → slice_index H 0 ≡ header_length k → X ≡ H ++ Y
    → (opening_key aad k).seg H ≡ Some seg → AreSegments seg 0 (first_segment k - overhead k) (k.segment - overhead k) Y texts → IsStream (opening_key aad (fronted [] k)) X texts
joined_stream k aad H X Y seg texts long mark all map are =
    let front : take (header_length k) X ≡ H = ap (take (header_length k)) all ∙ subst (λ n. take n (H ++ Y) ≡ H) long (take-append_seam H Y) in
    let behind : drop (header_length k) X ≡ Y = ap (drop (header_length k)) all ∙ subst (λ n. drop n (H ++ Y) ≡ Y) long (drop-append_seam H Y) in
    record {
      front = record {
        long = omega (arith, ap length all, length-append H Y);
        mark = let first : slice_index X 0 ≡ header_length k = ap (λ xs. slice_index xs 0) all ∙ first_byte H Y (header_length k) (omega arith) mark in grind (arith, nat_tests);
      };
      segments =
          subst (λ n. AreSegmentsBy ((opening_key aad k).seg (take (header_length k) X)) (first_segment k - overhead k) (k.segment - overhead k) (drop n X) texts) (no_prefix (header_length k))
          (subst (λ (o : Option (ℕ → Bool → List ℕ → List ℕ)). AreSegmentsBy o (first_segment k - overhead k) (k.segment - overhead k) (drop (header_length k) X) texts) (sym (ap (opening_key aad k).seg front ∙ map))
          (subst (λ zs. AreSegments seg 0 (first_segment k - overhead k) (k.segment - overhead k) zs texts) (sym behind) are));
    }

told_stream : (k : StreamKey) (aad H : List ℕ) (before rest : Option (List ℕ)) (seg : ℕ → Bool → List ℕ → List ℕ) (texts : List (List ℕ)) → length H ≡ header_length k → slice_index H 0 ≡ header_length k → Consumes before rest H
    → (opening_key aad k).seg H ≡ Some seg → IfSome rest (λ Y. AreSegments seg 0 (first_segment k - overhead k) (k.segment - overhead k) Y texts) → IfSome before (λ X. IsStream (opening_key aad (fronted [] k)) X texts)
told_stream k aad H None rest seg texts long mark c map are = tt
told_stream k aad H (Some X) None seg texts long mark c map are = absurd c
told_stream k aad H (Some X) (Some Y) seg texts long mark c map are = joined_stream k aad H X Y seg texts long mark c map are

-- a key's reader at its end
pub whole_of_key : (k : StreamKey) (aad : List ℕ) (before : Option (List ℕ)) (seg : ℕ → Bool → List ℕ → List ℕ) (a b over : ℕ) (held given : List ℕ) (m n : TextMoment)
    → IsUsable k → IsNewReader k aad before seg a b over held m → Gave seg a b m.rest given n → AtEnd n → IsTextOfStream (opening_key aad (fronted [] k)) before given
whole_of_key k aad before seg a b over held given m n u new gave end =
    let lawful = (opening_key_lawful aad k u).lawful new.header seg new.segments in
    let text = text_of_whole seg (overhead k) a b m.rest given lawful.longer (omega (arith, new.first_is, u.room)) (omega (arith, new.first_is, new.size_is)) (gave_all seg a b m.rest given n gave end) in
    let first : IfSome m.rest (λ Y. AreSegments seg 0 (first_segment k - overhead k) (b - overhead k) Y text.texts) =
    subst (λ x. IfSome m.rest (λ Y. AreSegments seg 0 (x - overhead k) (b - overhead k) Y text.texts)) new.first_is text.segments
    in
    let both : IfSome m.rest (λ Y. AreSegments seg 0 (first_segment k - overhead k) (k.segment - overhead k) Y text.texts) =
    subst (λ y. IfSome m.rest (λ Y. AreSegments seg 0 (first_segment k - overhead k) (y - overhead k) Y text.texts)) new.size_is first
    in
    record {
      texts = text.texts;
      stream = told_stream k aad new.header before m.rest seg text.texts new.reads.long new.reads.mark new.reads.read new.segments both;
      given_is = text.given_is;
    }

-- a chosen key is one of the usable ones
chosen_can : (aad : List ℕ) (keys : List StreamKey) (X : List ℕ) (k : OpeningKey) → All IsUsable keys → IsChosen (map (opening_key aad) keys) X (Some k) → CanOpen k
chosen_can aad [] X k all h = absurd (let e = h in cc)
chosen_can aad (j ∷ keys) X k all (inl h) =
    let same : k ≡ opening_key aad j = cc in
    subst CanOpen (sym same) (opening_key_lawful aad j (all 0 j (omega arith)))
chosen_can aad (j ∷ keys) X k all (inr h) = chosen_can aad keys X k (All-tail IsUsable j keys all) h.1

started_stream : (aad : List ℕ) (keys : List StreamKey) (X : List ℕ) (rest : Option (List ℕ)) (seg : ℕ → Bool → List ℕ → List ℕ) (a b over : ℕ) (texts : List (List ℕ)) → All IsUsable keys
    → Started (map (opening_key aad) keys) X rest seg a b over → 0 < length texts → IfSome rest (λ Y. Leads seg 0 (cut a b Y) texts [])
    → (k : OpeningKey) × IsChosen (map (opening_key aad) keys) X (Some k) × IsStream k X texts
started_stream aad keys X rest seg a b over texts all s some leads =
    let f = s.found in
    let can = chosen_can aad keys X f.key all f.chosen in
    let lawful : IsLawful over seg = subst (λ n. IsLawful n seg) (sym f.opener.overhead_is) (can.lawful (header_of f.key X) seg f.opener.map) in
    let behind : Leads seg 0 (cut a b (drop s.front X)) texts [] = subst (λ (r : Option (List ℕ)). IfSome r (λ Y. Leads seg 0 (cut a b Y) texts [])) s.rest leads in
    (f.key, f.chosen, stream_opened (map (opening_key aad) keys) X seg s.front a b over texts f lawful.longer (omega (arith, f.opener.overhead_is, f.opener.first_is, can.room)) some behind)

told_chosen : (aad : List ℕ) (keys : List StreamKey) (all rest : Option (List ℕ)) (seg : ℕ → Bool → List ℕ → List ℕ) (a b over : ℕ) (texts : List (List ℕ)) → All IsUsable keys
    → IfSome all (λ X. Started (map (opening_key aad) keys) X rest seg a b over) → 0 < length texts → IfSome rest (λ Y. Leads seg 0 (cut a b Y) texts [])
    → IfSome all (λ X. (k : OpeningKey) × IsChosen (map (opening_key aad) keys) X (Some k) × IsStream k X texts)
told_chosen aad keys None rest seg a b over texts usable s some leads = tt
told_chosen aad keys (Some X) rest seg a b over texts usable s some leads = started_stream aad keys X rest seg a b over texts usable s some leads

-- a keyset's reader at its end
pub whole_of_chosen : (keys : List StreamKey) (aad : List ℕ) (all : Option (List ℕ)) (seg : ℕ → Bool → List ℕ → List ℕ) (a b over : ℕ) (old new : TextMoment) (before after given : List ℕ) (n : ℕ) → All IsUsable keys
    → (first : GivesFirst (map (opening_key aad) keys) all seg a b over old before after n) → Gave seg a b first.rest given new → AtEnd new → IsTextOfChosen (map (opening_key aad) keys) all given
whole_of_chosen keys aad all seg a b over old new before after given n usable first gave end =
    let whole = gave_all seg a b first.rest given new gave end in
    record {
      texts = whole.texts;
      stream = told_chosen aad keys all first.rest seg a b over whole.texts usable first.chosen whole.some whole.leads;
      given_is = whole.given_is;
    }
