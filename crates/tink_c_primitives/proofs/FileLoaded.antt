-- A file that loads, and what is asked of its keys.
use Rattle.std.proofs.Common.{◌≡◌, ◌⊎◌, inl, inr, ℕ, List, Result, Ok, Err, ap, sym, subst}
use Rattle.tink_io.specs.Answering.{Answers, Replies}
use Rattle.tink_io.specs.declared.error.Kind.{Kind}
use Rattle.tink_io.specs.declared.error.Kind.TheVariants.{OutOfMemory}
use Rattle.tink_io.specs.declared.error.TinkError.{TinkError}
use Rattle.tink_keysets.specs.Encrypted.{chained}
use Rattle.tink_aead.specs.AeadKinds.{kind_encrypts}
use Rattle.tink_aead.specs.Wrapped.{primary_encrypts}
use Rattle.tink_aead.specs.declared.aead_kind.AeadKind.{AeadKind}
use Rattle.tink_aead.specs.declared.factory.WrappedAead.{WrappedAead}
use Rattle.tink_prf.specs.PrfKinds.{kind_output}
use Rattle.tink_prf.specs.Sets.{primary_output}
use Rattle.tink_prf.specs.declared.prf_kind.PrfKind.{PrfKind}
use Rattle.tink_prf.specs.declared.set_factory.Set.{Set}
use Rattle.tink_c_bytes.specs.Delivered.{MadeBy}
use Rattle.tink_c_primitives.specs.Primitives.{ArePrfs, PrfGives, PrfKeys, PrfRefuses, prfs_of_file}

-- a file that is refused answers nothing else
pub unloaded : {K T : Type 0} (told : Result K Kind) (answer : K → Result T Kind) (e : TinkError)
    → Answers {T = K} (Err e) told → Answers {T = T} (Err e) (chained answer told)
unloaded told answer e (inl want) = inl want
unloaded told answer e (inr is) = inr (ap (chained answer) is)

-- what its keys answer is the answer
pub loaded : {K T : Type 0} (told : Result K Kind) (answer : K → Result T Kind) (k : K) (result : Result T TinkError)
    → told ≡ Ok k → Answers result (answer k) → Answers result (chained answer told)
loaded told answer k result is answers = subst (Answers result) (sym (ap (chained answer) is)) answers

-- the same without what is left of the random bytes
pub of_replies : {T : Type 0} (result : Result T TinkError) (told : Result T Kind × List ℕ) (before now : List ℕ)
    → Replies result told before now → Answers result told.0
of_replies (Ok v) told before now replies = replies.0
of_replies (Err e) told before now (inl short) = inl short.kind
of_replies (Err e) told before now (inr replies) = inr replies.0

-- ---- AEADs

-- an encryption with the random bytes that were handed in
pub encrypted_by : (w : WrappedAead AeadKind) (text aad draws random now : List ℕ) (result : Result (List ℕ) TinkError) → draws ≡ random
    → Replies result (primary_encrypts kind_encrypts w.ps.primary text aad draws) draws now → Answers result (primary_encrypts kind_encrypts w.ps.primary text aad random).0
encrypted_by w text aad draws random now result same replies =
    subst (λ (d : List ℕ). Answers result (primary_encrypts kind_encrypts w.ps.primary text aad d).0) same
    (of_replies result (primary_encrypts kind_encrypts w.ps.primary text aad draws) draws now replies)

-- ---- pseudorandom functions

pub prf_unloaded : (file input : List ℕ) (n : ℕ) (e : TinkError) → (e.kind ≡ OutOfMemory) ⊎ (prfs_of_file file ≡ Err e.kind) → MadeBy (PrfGives file input n) (PrfRefuses file input n) (Err e)
prf_unloaded file input n e (inl want) = inl want
prf_unloaded file input n e (inr is) = inr (inl is)

pub prf_answers : (file input : List ℕ) (n : ℕ) (k : PrfKeys) (set : Set PrfKind) (result : Result (List ℕ) TinkError) → prfs_of_file file ≡ Ok k → ArePrfs k set
    → Answers result (primary_output kind_output set input n) → MadeBy (PrfGives file input n) (PrfRefuses file input n) result
prf_answers file input n k set (Ok bytes) loads are tells = record { keys = k; loads = loads; set = set; are = are; tells = tells }
prf_answers file input n k set (Err e) loads are (inl want) = inl want
prf_answers file input n k set (Err e) loads are (inr tells) = inr (inr (record { keys = k; loads = loads; set = set; are = are; tells = tells }))
