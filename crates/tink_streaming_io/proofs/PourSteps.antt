-- Pouring a source into a writer, piece by piece.
use Rattle.std.proofs.Common.{◌≡◌, ◌⊎◌, inl, inr, ◌≤◌, ◌<◌, ◌+◌, ◌-◌, ◌*◌, ◌^◌, ℕ, zero, suc, Bool, List, [], ◌++◌, length, take, drop, refl, sym, ap, subst, ◌∙◌, arith, length-append, length-drop}
use mir.Syntax.{w64}
use mir.Val.{Fits}
use Rattle.std.specs.declared.option.Option.{Option}
use Rattle.std.specs.Io.KnownBytes.{Consumes}
use Rattle.std.proofs.KnownBytes.{Consumes-nil, Consumes-trans}
use Rattle.std.proofs.Math.Nat.{mul-le-mul}
use Rattle.std.proofs.lemmas.List.{append-nil}
use Rattle.tink_io.specs.declared.error.Kind.{Kind}
use Rattle.tink_io.specs.declared.error.Kind.TheVariants.{ReadFault, WriteFault, TooManySegments, FailedBefore}
use Rattle.tink_io.specs.declared.error.Kind.TheVariants as kind
use Rattle.stream_model.specs.Cut.{full_chunks}
use Rattle.stream_model.proofs.CutFacts.{full_chunks_more}
use Rattle.tink_streaming_io.specs.Writing.{WriterMoment, Wrote, WriteRefused}
use Rattle.tink_streaming_io.proofs.WritingFacts.{IsFresh, fresh_filled, wrote_nothing, wrote_more, refused_more}
use Rattle.tink_streaming_io.specs.Pouring.{IsPoured, PourRefused}

fits_or_not : (m n : ℕ) → (m ≤ n) ⊎ (n < m)
fits_or_not zero n = inl (omega arith)
fits_or_not (suc m) zero = inr (omega arith)
fits_or_not (suc m) (suc n) = elim (fits_or_not m n) [ inl h ↦ inl (omega arith) | inr h ↦ inr (omega arith) ]

-- a text is no longer than its chunks have room
within : (n a b : ℕ) (R : List ℕ) → length R ≤ n → 0 < a → a ≤ b → length R ≤ b * length (full_chunks a b R) + b
within zero a b R h p q = omega arith
within (suc n) a b R h p q = elim (fits_or_not (length R) a) [
  | inl fits ↦ omega arith
  | inr more ↦
      let rest = within n b b (drop a R) (omega (arith, length-drop a R)) (omega arith) (omega arith) in
      let chunks : length (full_chunks a b R) ≡ length (full_chunks b b (drop a R)) + 1 = omega (arith, ap length (full_chunks_more a b R more p (omega arith))) in
      let size : b * length (full_chunks a b R) ≡ b * length (full_chunks b b (drop a R)) + b = omega (arith, ap (λ k. b * k) chunks) in
      omega (arith, length-drop a R)
]

-- what was written by a writer that is still open is a text of 64 bits
pub few_bytes : (seg : ℕ → Bool → List ℕ → List ℕ) (a b : ℕ) (m n : WriterMoment) (R : List ℕ) → 0 < a → a ≤ b → b < 2 ^ 32 → IsFresh m → Wrote seg a b m n R → length R < 2 ^ 64
few_bytes seg a b m n R p q small f w =
    let count : length (full_chunks a b R) < 2 ^ 32 = omega (arith, w.few, w.counted, ap length (fresh_filled a b m R f)) in
    let most : b * length (full_chunks a b R) ≤ (2 ^ 32 - 1) * (2 ^ 32 - 1) = mul-le-mul {n₁ = b} {m₁ = length (full_chunks a b R)} {n₂ = 2 ^ 32 - 1} {m₂ = 2 ^ 32 - 1} (omega arith) (omega arith) in
    omega (arith, within (length R) a b R (omega arith) p q)

-- nothing was read yet
pub poured_none : (seg : ℕ → Bool → List ℕ → List ℕ) (a b : ℕ) (s : Option (List ℕ)) (m : WriterMoment) → IsFresh m → IsPoured seg a b s s m m 0
poured_none seg a b s m f = record { text = []; read = Consumes-nil s; wrote = wrote_nothing seg a b m f; bytes_are = refl }

-- one piece more
pub poured_more : (seg : ℕ → Bool → List ℕ → List ℕ) (a b : ℕ) (s t u : Option (List ℕ)) (m n o : WriterMoment) (bytes more : ℕ) (piece : List ℕ) → 0 < a → 0 < b → IsPoured seg a b s t m n bytes → Consumes t u piece → Wrote seg a b n o piece → more ≡ length piece
    → IsPoured seg a b s u m o (bytes + more)
poured_more seg a b s t u m n o bytes more piece p q x c w e = record {
  text = x.text ++ piece;
  read = Consumes-trans s t u x.text piece x.read c;
  wrote = wrote_more seg a b m n o x.text piece p q x.wrote w;
  bytes_are = omega (arith, x.bytes_are, length-append x.text piece);
}

-- the writer refused a piece
pub pour_refused : (seg : ℕ → Bool → List ℕ → List ℕ) (a b : ℕ) (s t u : Option (List ℕ)) (i j : ℕ) (m n o : WriterMoment) (bytes : ℕ) (piece : List ℕ) (k : Kind) → 0 < a → 0 < b → m.faults ≤ n.faults → IsPoured seg a b s t m n bytes → Consumes t u piece → WriteRefused seg a b n o piece k
    → PourRefused seg a b s u i j m o k
pour_refused seg a b s t u i j m n o bytes piece WriteFault p q later x c r =
    record { text = x.text ++ piece; read = Consumes-trans s t u x.text piece x.read c; refused = refused_more seg a b m n o x.text piece WriteFault p q later x.wrote r }
pour_refused seg a b s t u i j m n o bytes piece TooManySegments p q later x c r =
    record { text = x.text ++ piece; read = Consumes-trans s t u x.text piece x.read c; refused = refused_more seg a b m n o x.text piece TooManySegments p q later x.wrote r }
pour_refused seg a b s t u i j m n o bytes piece kind.Closed p q later x c r = absurd (let e = sym x.wrote.is_open ∙ r.0 in cc)
pour_refused seg a b s t u i j m n o bytes piece (FailedBefore d) p q later x c r = absurd (let e = sym x.wrote.is_open ∙ r.0 in cc)
pour_refused seg a b s t u i j m n o bytes piece _ p q later x c r = absurd r

-- so that their number is one of 64 bits
pub more_bytes : (seg : ℕ → Bool → List ℕ → List ℕ) (a b : ℕ) (s t u : Option (List ℕ)) (m n o : WriterMoment) (bytes more over : ℕ) (piece : List ℕ) → 0 < a → a ≤ b → b + over < 2 ^ 32 → IsFresh m → IsPoured seg a b s t m n bytes
    → Consumes t u piece → Wrote seg a b n o piece → more ≡ length piece → Fits w64 (bytes + more)
more_bytes seg a b s t u m n o bytes more over piece p q small f x c w e =
    let then = poured_more seg a b s t u m n o bytes more piece p (omega arith) x c w e in
    omega (arith, few_bytes seg a b m o then.text p q (omega arith) f then.wrote, then.bytes_are)

-- nothing more was read
pub poured_end : (seg : ℕ → Bool → List ℕ → List ℕ) (a b : ℕ) (s t u : Option (List ℕ)) (m n : WriterMoment) (bytes k : ℕ) (piece : List ℕ) → IsPoured seg a b s t m n bytes → k ≡ 0 → Consumes t u (take k piece) → IsPoured seg a b s u m n bytes
poured_end seg a b s t u m n bytes k piece x none c = record {
  text = x.text;
  read = subst (Consumes s u) (append-nil x.text) (Consumes-trans s t u x.text [] x.read (subst (λ (j : ℕ). Consumes t u (take j piece)) none c));
  wrote = x.wrote;
  bytes_are = x.bytes_are;
}
