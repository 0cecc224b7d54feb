-- Laws of a reader's calls, for callers that open a whole stream.
use Rattle.std.proofs.Common.{◌≡◌, inl, inr, ◌<◌, ◌+◌, ℕ, zero, suc, Bool, List, [], ◌∷◌, ◌++◌, length, take, get_or, Some, None, IfSome, refl, sym, ap, subst, ◌∙◌, arith, length-append, zero-add}
use Rattle.std.proofs.lemmas.List.{take_all}
use Rattle.std.specs.declared.option.Option.{Option}
use Rattle.std.specs.Io.KnownBytes.{IsAtEnd}
use Rattle.stream_model.specs.Cut.{cut, room_at, nonce, numbered}
use Rattle.stream_model.specs.Agree.{Leads, Agree}
use Rattle.stream_model.proofs.CutFacts.{cut_none, cut_fits, cut_more}
use Rattle.stream_model.proofs.AgreeFacts.{Leads-trans, Agree-leads}
use Rattle.std.proofs.lemmas.List.{append-nil}
use Rattle.tink_streaming_io.specs.Reading.{ReaderMoment, TellsLeads, OpensNext, NothingComes, HasNotFailed, chunk_at}
use Rattle.tink_streaming_io.specs.declared.progress.Progress.{Progress}
use Rattle.tink_streaming_io.specs.declared.progress.Progress.TheVariants.{Running, Ended, Failed}
use Rattle.tink_streaming_segment.proofs.HeadFacts.{fits_or_not}

-- from a fresh reader over all bytes on, these texts were opened
pub record Opened (seg : ℕ → Bool → List ℕ → List ℕ) (a b : ℕ) (all : Option (List ℕ)) (texts : List (List ℕ)) (m : ReaderMoment) : Type 0 where
  pub number : m.number ≡ length texts
  pub leads : TellsLeads seg a b 0 all texts m.rest

tells_none : (seg : ℕ → Bool → List ℕ → List ℕ) (a b : ℕ) (r : Option (List ℕ)) → TellsLeads seg a b 0 r [] r
tells_none seg a b None = tt
tells_none seg a b (Some X) = refl

pub opened_none : (seg : ℕ → Bool → List ℕ → List ℕ) (a b : ℕ) (m : ReaderMoment) → m.number ≡ 0 → Opened seg a b m.rest [] m
opened_none seg a b m z = record { number = z; leads = tells_none seg a b m.rest }

tells_more : (seg : ℕ → Bool → List ℕ → List ℕ) (a b i : ℕ) (r0 r1 r2 : Option (List ℕ)) (texts : List (List ℕ)) (t : List ℕ) → i ≡ length texts
    → TellsLeads seg a b 0 r0 texts r1 → TellsLeads seg a b i r1 (t ∷ []) r2 → TellsLeads seg a b 0 r0 (texts ++ (t ∷ [])) r2
tells_more seg a b i None r1 r2 texts t e p q = tt
tells_more seg a b i (Some X) None r2 texts t e p q = absurd p
tells_more seg a b i (Some X) (Some Y) None texts t e p q = absurd q
tells_more seg a b i (Some X) (Some Y) (Some Z) texts t e p q =
    let more = subst (λ (n : ℕ). Leads seg n (cut (room_at a b n) b Y) (t ∷ []) (cut (room_at a b (n + 1)) b Z)) e q in
    let next = subst (λ (n : ℕ). Leads seg n (cut (room_at a b (length texts)) b Y) (t ∷ []) (cut (room_at a b (length texts + 1)) b Z)) (sym (zero-add (length texts))) more in
    let place : 0 + length (texts ++ (t ∷ [])) ≡ length texts + 1 = omega (arith, length-append texts (t ∷ [])) in
    let first : Leads seg 0 (cut a b X) texts (cut (room_at a b (length texts)) b Y) = subst (λ (n : ℕ). Leads seg 0 (cut a b X) texts (cut (room_at a b n) b Y)) (zero-add (length texts)) p in
    subst (λ (n : ℕ). Leads seg 0 (cut a b X) (texts ++ (t ∷ [])) (cut (room_at a b n) b Z)) (sym place)
    (Leads-trans seg 0 (cut a b X) texts (cut (room_at a b (length texts)) b Y) (t ∷ []) (cut (room_at a b (length texts + 1)) b Z) first next)

-- one more segment
pub opened_more : (seg : ℕ → Bool → List ℕ → List ℕ) (a b : ℕ) (all : Option (List ℕ)) (texts : List (List ℕ)) (m n : ReaderMoment) → Opened seg a b all texts m → OpensNext seg a b m n
    → Opened seg a b all (texts ++ (n.opened ∷ [])) n
opened_more seg a b all texts m n o next = record {
  number = omega (arith, next.number, o.number, length-append texts (n.opened ∷ []));
  leads = tells_more seg a b m.number all m.rest n.rest texts n.opened o.number o.leads next.leads;
}

all_led : (seg : ℕ → Bool → List ℕ → List ℕ) (a b : ℕ) (r0 r1 : Option (List ℕ)) (texts : List (List ℕ)) → TellsLeads seg a b 0 r0 texts r1 → IsAtEnd r1 → IfSome r0 (λ X. Leads seg 0 (cut a b X) texts [])
all_led seg a b None r1 texts p e = tt
all_led seg a b (Some X) None texts p e = absurd p
all_led seg a b (Some X) (Some Y) texts p e =
    subst (Leads seg 0 (cut a b X) texts) (ap (cut (room_at a b (0 + length texts)) b) e ∙ cut_none (room_at a b (0 + length texts)) b) p

-- at the end the texts lead from all chunks to none
pub opened_all : (seg : ℕ → Bool → List ℕ → List ℕ) (a b : ℕ) (all : Option (List ℕ)) (texts : List (List ℕ)) (m : ReaderMoment) → Opened seg a b all texts m → IsAtEnd m.rest → IfSome all (λ X. Leads seg 0 (cut a b X) texts [])
opened_all seg a b all texts m o e = all_led seg a b all m.rest texts o.leads e

agree_led : (seg : ℕ → Bool → List ℕ → List ℕ) (a b i : ℕ) (r0 r1 : Option (List ℕ)) (texts : List (List ℕ)) → i ≡ length texts → TellsLeads seg a b 0 r0 texts r1
    → IfSome r1 (λ Y. Agree seg i (cut (room_at a b i) b Y) []) → IfSome r0 (λ X. Agree seg 0 (cut a b X) texts)
agree_led seg a b i None r1 texts e p q = tt
agree_led seg a b i (Some X) None texts e p q = absurd p
agree_led seg a b i (Some X) (Some Y) texts e p q =
    let place : i ≡ 0 + length texts = omega arith in
    subst (Agree seg 0 (cut a b X)) (append-nil texts)
    (Agree-leads seg 0 (cut a b X) texts (cut (room_at a b (0 + length texts)) b Y) [] p (subst (λ (n : ℕ). Agree seg n (cut (room_at a b n) b Y) []) place q))

-- where nothing comes the texts are the longest list that agrees
pub opened_agree : (seg : ℕ → Bool → List ℕ → List ℕ) (a b : ℕ) (all : Option (List ℕ)) (texts : List (List ℕ)) (m : ReaderMoment) → Opened seg a b all texts m → NothingComes seg a b m → IfSome all (λ X. Agree seg 0 (cut a b X) texts)
opened_agree seg a b all texts m o none = agree_led seg a b m.number all m.rest texts o.number o.leads none

led_rest : (seg : ℕ → Bool → List ℕ → List ℕ) (i : ℕ) (chunks texts rest : List (List ℕ)) → Leads seg i chunks texts rest → get_or chunks (length texts) [] ≡ get_or rest 0 []
led_rest seg i chunks [] rest p = ap (λ x. get_or x 0 []) (sym p)
led_rest seg i [] (t ∷ ts) rest p = absurd p
led_rest seg i (c ∷ chunks) (t ∷ ts) rest p = led_rest seg (i + 1) chunks ts rest p.2

first_chunk : (a b : ℕ) (Y : List ℕ) → 0 < a → 0 < b → get_or (cut a b Y) 0 [] ≡ take a Y
first_chunk a b [] p q = ap (λ x. get_or x 0 []) (cut_none a b) ∙ sym (take_all a [] (omega arith))
first_chunk a b (y ∷ Y) p q = elim (fits_or_not (length (y ∷ Y)) a) [
  | inl fits ↦ ap (λ x. get_or x 0 []) (cut_fits a b (y ∷ Y) (omega arith) fits) ∙ sym (take_all a (y ∷ Y) fits)
  | inr more ↦ ap (λ x. get_or x 0 []) (cut_more a b (y ∷ Y) more p q)
]

positive : (a b i : ℕ) → 0 < a → 0 < b → 0 < room_at a b i
positive a b zero p q = p
positive a b (suc i) p q = q

chunk_is : (seg : ℕ → Bool → List ℕ → List ℕ) (a b n : ℕ) (X Y : List ℕ) (texts : List (List ℕ)) → 0 < a → 0 < b → n ≡ length texts → TellsLeads seg a b 0 (Some X) texts (Some Y)
    → get_or (cut a b X) (length texts) [] ≡ chunk_at a b n Y
chunk_is seg a b n X Y texts p q e leads =
    let place : 0 + length texts ≡ n = omega arith in
    led_rest seg 0 (cut a b X) texts (cut (room_at a b (0 + length texts)) b Y) leads
    ∙ first_chunk (room_at a b (0 + length texts)) b Y (positive a b (0 + length texts) p q) q
    ∙ ap (λ i. take (room_at a b i) Y) place

chunk_told : (seg : ℕ → Bool → List ℕ → List ℕ) (a b n : ℕ) (r0 r1 : Option (List ℕ)) (texts : List (List ℕ)) (P : List ℕ → Type 0) → 0 < a → 0 < b → n ≡ length texts → TellsLeads seg a b 0 r0 texts r1
    → IfSome r1 (λ Y. P (chunk_at a b n Y)) → IfSome r0 (λ X. P (get_or (cut a b X) (length texts) []))
chunk_told seg a b n None r1 texts P p q e l h = tt
chunk_told seg a b n (Some X) None texts P p q e l h = absurd l
chunk_told seg a b n (Some X) (Some Y) texts P p q e l h = subst P (sym (chunk_is seg a b n X Y texts p q e l)) h

-- what is so of the next chunk that is left is so of the chunk of that number
pub at_next_chunk : (seg : ℕ → Bool → List ℕ → List ℕ) (a b : ℕ) (all : Option (List ℕ)) (texts : List (List ℕ)) (m : ReaderMoment) (P : List ℕ → Type 0) → 0 < a → 0 < b → Opened seg a b all texts m
    → IfSome m.rest (λ Y. P (chunk_at a b m.number Y)) → IfSome all (λ X. P (get_or (cut a b X) (length texts) []))
at_next_chunk seg a b all texts m P p q o h = chunk_told seg a b m.number all m.rest texts P p q o.number o.leads h

-- the overhead of each segment
pub numbered_longer : (seg : List ℕ → List ℕ → List ℕ) (size : ℕ) (prefix : List ℕ) (o : ℕ) → ((n t : List ℕ) → length (seg n t) ≡ length t + o) → (i : ℕ) (last : Bool) (t : List ℕ) → length (numbered seg size prefix i last t) ≡ length t + o
numbered_longer seg size prefix o l i last t = l (nonce size prefix i last) t

-- a reader that has not failed and runs no more has ended
pub not_running : (p : Progress) → HasNotFailed p → (p ≡ Running → ⊥) → p ≡ Ended
not_running Running h n = absurd (n refl)
not_running Ended h n = refl
not_running (Failed c) h n = absurd h
