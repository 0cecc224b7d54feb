-- What was opened by the chosen key, in the words of streams.
use Rattle.std.proofs.Common.{◌≡◌, inl, inr, ◌<◌, ◌+◌, ◌-◌, ℕ, Bool, List, [], ◌∷◌, length, drop, Some, None, sym, ap, subst, ◌∙◌, arith}
use Rattle.std.specs.declared.option.Option.{Option}
use Rattle.stream_model.specs.Cut.{cut}
use Rattle.stream_model.specs.Agree.{Leads, Agree}
use Rattle.stream_model.specs.Opening.{OpeningKey, Begins, IsChosen, behind_front, chunks_of, AgreeBy, IsAgreed, AreSegmentsBy, IsStream}
use Rattle.stream_model.proofs.WholeFacts.{stream_of_leads}
use Rattle.tink_streaming_io.specs.Choosing.{IsOpenerOf, Found}

abbrev key_or : OpeningKey → Option OpeningKey → OpeningKey
key_or k None = k
key_or k (Some l) = l

-- the stream begins under the chosen key
pub chosen_begins : (ks : List OpeningKey) (X : List ℕ) (k : OpeningKey) → IsChosen ks X (Some k) → Begins k X
chosen_begins [] X k h = absurd (let e = h in cc)
chosen_begins (l ∷ ks) X k (inl h) = subst (λ (x : OpeningKey). Begins x X) (sym (ap (key_or k) h.1)) h.0
chosen_begins (l ∷ ks) X k (inr h) = chosen_begins ks X k h.1

pub chunks_are : (k : OpeningKey) (X : List ℕ) (seg : ℕ → Bool → List ℕ → List ℕ) (front first size overhead : ℕ) → IsOpenerOf k X seg front first size overhead → cut first size (drop front X) ≡ chunks_of k X
chunks_are k X seg front first size overhead o =
    ap (λ n. cut first size (drop n X)) o.front_is ∙ ap (λ n. cut n size (behind_front k X)) o.first_is ∙ ap (λ n. cut k.first n (behind_front k X)) o.size_is

-- texts that lead to the end make the whole a stream of the chosen key
pub stream_opened : (ks : List OpeningKey) (X : List ℕ) (seg : ℕ → Bool → List ℕ → List ℕ) (front first size overhead : ℕ) (texts : List (List ℕ)) (f : Found ks X seg front first size overhead)
    → ((i : ℕ) (last : Bool) (t : List ℕ) → length (seg i last t) ≡ length t + overhead) → overhead < first → 0 < length texts
    → Leads seg 0 (cut first size (drop front X)) texts [] → IsStream f.key X texts
stream_opened ks X seg front first size overhead texts f longer fits some leads =
    let k : OpeningKey = f.key in
    let o = f.opener in
    let a : ℕ = k.first - k.overhead in
    let b : ℕ = k.size - k.overhead in
    let first_size : first ≡ a + overhead = omega (arith, o.first_is, o.overhead_is) in
    let later_size : size ≡ b + overhead = omega (arith, o.first_is, o.overhead_is, o.size_is, o.fits) in
    let sized : Leads seg 0 (cut (a + overhead) (b + overhead) (behind_front k X)) texts [] =
    subst (λ (n : ℕ). Leads seg 0 (cut (a + overhead) n (behind_front k X)) texts []) later_size
    (subst (λ (n : ℕ). Leads seg 0 (cut n size (behind_front k X)) texts []) first_size
    (subst (λ (n : ℕ). Leads seg 0 (cut first size (drop n X)) texts []) o.front_is leads)) in
    record {
      front = (chosen_begins ks X k f.chosen).front;
      segments = subst (λ (s : Option (ℕ → Bool → List ℕ → List ℕ)). AreSegmentsBy s a b (behind_front k X) texts) (sym o.map)
          (stream_of_leads seg overhead 0 a b texts (behind_front k X) longer (omega arith) (omega (arith, o.first_is, o.overhead_is, o.fits)) some sized);
    }

-- texts that agree are those of the whole under the chosen key
pub stream_agreed : (ks : List OpeningKey) (X : List ℕ) (seg : ℕ → Bool → List ℕ → List ℕ) (front first size overhead : ℕ) (texts : List (List ℕ)) (f : Found ks X seg front first size overhead)
    → Agree seg 0 (cut first size (drop front X)) texts → IsAgreed f.key X texts
stream_agreed ks X seg front first size overhead texts f agree =
    let k : OpeningKey = f.key in
    subst (λ (s : Option (ℕ → Bool → List ℕ → List ℕ)). AgreeBy s (chunks_of k X) texts) (sym f.opener.map)
    (subst (λ (cs : List (List ℕ)). Agree seg 0 cs texts) (chunks_are k X seg front first size overhead f.opener) agree)
