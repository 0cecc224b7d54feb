-- From the key that is chosen of what came to a reader, and from its calls to its stream.
use Rattle.std.proofs.Common.{◌≡◌, ℕ, Bool, List, [], ◌++◌, length, drop, None, Some, ap, sym, subst, ◌∙◌, arith, length-append}
use Rattle.std.proofs.lemmas.List.{append-nil}
use Rattle.tink_io.specs.declared.error.Kind.{Kind}
use Rattle.tink_io.specs.declared.error.Kind.TheVariants.{NoMatchingKey, ReadFault}
use Rattle.stream_model.specs.Opening.{IsChosen, OpeningKey}
use Rattle.tink_streaming_io.specs.Choosing.{Found, Started, StartRefused}
use Rattle.tink_streaming_io.specs.declared.progress.Progress.TheVariants.{Running}
use Rattle.tink_c_pieces.specs.Readings.{PieceReading}
use Rattle.tink_c_pieces.proofs.ReadingSteps.{none_left}
use Rattle.tink_c_streams.specs.Choices.{BeginsNoText, BeginsText}

pub not_begun : (ks : List OpeningKey) (X nothing : List ℕ) (kind : Kind) → nothing ≡ [] → StartRefused ks (Some (X ++ nothing)) 0 0 kind → BeginsNoText ks X kind
not_begun ks X nothing NoMatchingKey none r = subst (λ x. IsChosen ks x None) (ap (λ y. X ++ y) none ∙ append-nil X) r
not_begun ks X nothing ReadFault none r = absurd (omega (arith, r))
not_begun ks X nothing _ none r = absurd r

same_some : (x y : List ℕ) → Some x ≡ Some y → x ≡ y
same_some x y e = cc

-- nothing is left of nothing
pub none_behind : (nothing lost left : List ℕ) → nothing ≡ [] → nothing ≡ lost ++ left → left ≡ []
none_behind nothing lost left none e = none_left left (omega (arith, ap length none, ap length e, length-append lost left))

pub begun : (ks : List OpeningKey) (X nothing left held : List ℕ) (seg : ℕ → Bool → List ℕ → List ℕ) (first size overhead : ℕ) (m : PieceReading) → nothing ≡ [] → left ≡ []
    → Started ks (X ++ nothing) (Some (held ++ left)) seg first size overhead
    → m.held ≡ held → m.progress ≡ Running → m.number ≡ 0 → m.pending ≡ [] → BeginsText ks X seg first size overhead m
begun ks X nothing left held seg first size overhead m none behind s is runs number pending =
    let all : X ++ nothing ≡ X = ap (λ y. X ++ y) none ∙ append-nil X in
    let rest : held ++ left ≡ held = ap (λ y. held ++ y) behind ∙ append-nil held in
    record {
      front = s.front;
      found = subst (λ x. Found ks x seg s.front first size overhead) all s.found;
      held = is ∙ sym rest ∙ same_some (held ++ left) (drop s.front (X ++ nothing)) s.rest ∙ ap (drop s.front) all;
      progress = runs;
      number = number;
      pending = pending;
    }
