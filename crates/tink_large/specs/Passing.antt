-- Bytes that were read, and then more.
use Rattle.std.proofs.Common.{[], ◌++◌, refl, sym, ap, subst, ◌∙◌, arith, append_assoc, append-nil, length-append}
use Rattle.sha2.specs.Hashers.{Holds256}
use Rattle.tink_large.specs.SealedText.{Passed, stream_left}
use Rattle.tink_large.specs.declared.sealed_text.SealedText.{SealedText}

pub Passed-refl : (s : SealedText) → Passed s s
Passed-refl s = record { read = []; left = refl; count = omega arith; hashed = λ m h. subst (Holds256 s.hash) (sym (append-nil m)) h; number = refl }

pub Passed-trans : (s t u : SealedText) → Passed s t → Passed t u → Passed s u
Passed-trans s t u p q = record {
  read = p.read ++ q.read;
  left = p.left ∙ ap (λ xs. p.read ++ xs) q.left ∙ sym (append_assoc p.read q.read (stream_left u));
  count = omega (arith, p.count, q.count, length-append p.read q.read);
  hashed = λ m h. subst (Holds256 u.hash) (append_assoc m p.read q.read) (q.hashed (m ++ p.read) (p.hashed m h));
  number = q.number ∙ p.number;
}
