-- From the values that a call was given to those that the caller handed in.
use Rattle.std.proofs.Common.{◌≡◌, ◌⊎◌, inl, inr, refl, ℕ, List, [], Result, Ok, Err, ap, subst, sym}
use Rattle.tink_io.specs.Answering.{Answers, Replies}
use Rattle.tink_io.specs.declared.error.Kind.{Kind}
use Rattle.tink_io.specs.declared.error.Kind.TheVariants.{OutOfMemory, RandomFault}
use Rattle.tink_io.specs.declared.error.TinkError.{TinkError}
use Rattle.tink_keysets.specs.Encrypted.{chained}
use Rattle.tink_aead.specs.AeadKinds.{kind_encrypts}
use Rattle.tink_aead.specs.Wrapped.{primary_encrypts}
use Rattle.tink_aead.specs.declared.aead_kind.AeadKind.{AeadKind}
use Rattle.tink_aead.specs.declared.factory.WrappedAead.{WrappedAead}
use Rattle.tink_cli_files.specs.Masters.{GivesMaster, IsMaster, MasterKeys, master_encrypts}
use Rattle.tink_c_keysets.specs.Formats.{Lacks, had_random, has_random, lacks}

-- the same of one value
pub by_one : {A T : Type 0} (told : A → Result T Kind) (a b : A) (result : Result T TinkError) → a ≡ b → Answers result (told a) → Answers result (told b)
by_one told a b result same is = subst (λ x. Answers result (told x)) same is

-- and of two
pub by_two : {A B T : Type 0} (told : A → B → Result T Kind) (a a' : A) (b b' : B) (result : Result T TinkError) → a ≡ a' → b ≡ b'
    → Answers result (told a b) → Answers result (told a' b')
by_two told a a' b b' result same alike is = by_one (told a') b b' result alike (by_one (λ x. told x b) a a' result same is)

-- and of three
pub by_three : {A B C T : Type 0} (told : A → B → C → Result T Kind) (a a' : A) (b b' : B) (d d' : C) (result : Result T TinkError) → a ≡ a' → b ≡ b' → d ≡ d'
    → Answers result (told a b d) → Answers result (told a' b' d')
by_three told a a' b b' d d' result same alike also is =
    by_one (told a' b') d d' result also (by_two (λ x y. told x y d) a a' b b' result same alike is)

-- a file that is no master
pub unloaded : {T : Type 0} (told : Result MasterKeys Kind) (answer : MasterKeys → Result T Kind) (e : TinkError)
    → GivesMaster (Err e) told → Answers {T = T} (Err e) (chained answer told)
unloaded told answer e (inl want) = inl want
unloaded told answer e (inr is) = inr (ap (chained answer) is)

-- one that is
pub loaded : {T : Type 0} (told : Result MasterKeys Kind) (answer : MasterKeys → Result T Kind) (w : WrappedAead AeadKind) (result : Result T TinkError)
    → GivesMaster (Ok w) told → ((m : MasterKeys) → IsMaster m w → Answers result (answer m)) → Answers result (chained answer told)
loaded told answer w result gives answers = subst (Answers result) (sym (ap (chained answer) gives.1)) (answers gives.0 gives.2)

-- ---- the random bytes of an encryption by a master

-- they do not suffice
pub short : {T : Type 0} (told : Result (Unit {0}) Kind) (answer : Unit {0} → Result T Kind) (e : TinkError)
    → Answers {T = Unit {0}} (Err e) told → Answers {T = T} (Err e) (chained answer told)
short told answer e (inl want) = inl want
short told answer e (inr is) = inr (ap (chained answer) is)

-- they do
pub enough : {T : Type 0} (told : Result (Unit {0}) Kind) (answer : Unit {0} → Result T Kind) (u : Unit {0}) (result : Result T TinkError)
    → Answers {T = Unit {0}} (Ok u) told → Answers result (answer u) → Answers result (chained answer told)
enough told answer u result is answers = subst (Answers result) (sym (ap (chained answer) is)) answers

-- an answer without what is left of the random bytes
of_replies : {T : Type 0} (result : Result T TinkError) (told : Result T Kind × List ℕ) (before now : List ℕ)
    → Replies result told before now → Answers result told.0
of_replies (Ok v) told before now replies = replies.0
of_replies (Err e) told before now (inl want) = inl want.kind
of_replies (Err e) told before now (inr replies) = inr replies.0

-- a master's own encryption of the empty plaintext says so
pub asked : (m : MasterKeys) (w : WrappedAead AeadKind) (aad draws random now : List ℕ) (encrypted : Result (List ℕ) TinkError) (result : Result (Unit {0}) TinkError)
    → IsMaster m w → draws ≡ random → Replies encrypted (primary_encrypts kind_encrypts w.ps.primary [] aad draws) draws now
    → ((told : Result (List ℕ) Kind) → Answers encrypted told → Answers result (had_random told)) → Answers result (has_random m aad random)
asked m w aad draws random now encrypted result is same replies answers =
    answers (master_encrypts m [] aad random).0
    (subst (λ (r : Result (List ℕ) Kind × List ℕ). Answers encrypted r.0) (is.encrypted [] aad random)
    (subst (λ (d : List ℕ). Answers encrypted (primary_encrypts kind_encrypts w.ps.primary [] aad d).0) same
    (of_replies encrypted (primary_encrypts kind_encrypts w.ps.primary [] aad draws) draws now replies)))

of_kind : (kind : Kind) (result : Result (Unit {0}) TinkError) → Lacks kind result → Answers result (lacks kind)
of_kind OutOfMemory result is = subst (λ (x : Result (Unit {0}) TinkError). Answers x (lacks OutOfMemory)) (sym is) (inl refl)
of_kind RandomFault result is = subst (λ (x : Result (Unit {0}) TinkError). Answers x (lacks RandomFault)) (sym is) (inr refl)
of_kind kind result is = subst (λ (x : Result (Unit {0}) TinkError). Answers x (lacks kind)) (sym is) refl

-- an encryption that was refused
pub lacked : (told : Result (List ℕ) Kind) (kind : Kind) (result : Result (Unit {0}) TinkError) → (kind ≡ OutOfMemory) ⊎ (told ≡ Err kind) → Lacks kind result
    → Answers result (had_random told)
lacked told kind result (inl want) is =
    subst (λ (x : Result (Unit {0}) TinkError). Answers x (had_random told)) (sym (subst (λ (k : Kind). Lacks k result) want is)) (inl refl)
lacked told kind result (inr said) is = subst (Answers result) (sym (ap had_random said)) (of_kind kind result is)
