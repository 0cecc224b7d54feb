-- Errors of loading, through the calls that pass them on.
use Rattle.std.proofs.Common.{◌≡◌, ◌≤◌, inl, inr, ℕ, List, Bool, true, false, Result, Ok, Err, refl, sym, ◌∙◌, subst, ap}
use Rattle.std.proofs.lemmas.Bool.{true≢false}
use Rattle.std.specs.Prelude.{IfErr}
use Rattle.tink_io.specs.declared.error.Kind.{Kind}
use Rattle.tink_io.proofs.FaultLemmas.{Rose-earlier}
use Rattle.tink_keysets.specs.Encrypted.{chained}
use Rattle.tink_aead.specs.declared.aead_kind.AeadKind.{AeadKind}
use Rattle.tink_aead.specs.declared.factory.WrappedAead.{WrappedAead}
use Rattle.tink_cli_files.specs.Masters.{IsMaster, MasterKeys}
use Rattle.tink_system.specs.States.{SystemState}
use Rattle.tink_system.specs.Statuses.{trouble_status}
use Rattle.tink_system.specs.declared.trouble.Trouble.{Trouble}
use Rattle.tink_cli_jobs.specs.Loading.{Fails, HasStatusOf, IsMasterOf, RefusesBy, keyset_of, unwrapped_keyset, wrapped_keyset}
use Rattle.tink_cli_jobs.specs.declared.keys.KeyWords.{KeyWords}

status_chained : {S T : Type 0} (f : S → Result T Kind) (given : Result S Kind) (status : ℕ) → HasStatusOf given status → HasStatusOf (chained f given) status
status_chained f (Ok v) status is = absurd is
status_chained f (Err kind) status is = is

refused_chained : {S T : Type 0} (f : S → Result T Kind) (given : Result S Kind) (t : Trouble) → RefusesBy given t → RefusesBy (chained f given) t
refused_chained f given t (inl want) = inl want
refused_chained f given t (inr status) = inr (status_chained f given (trouble_status t) status)

-- an error of the first step is one of both
pub fails_chained : {S T : Type 0} (s : SystemState) (before now : ℕ) (f : S → Result T Kind) (given : Result S Kind) (t : Trouble)
    → Fails s before now given t → Fails s before now (chained f given) t
fails_chained s before now f given t (inl rose) = inl rose
fails_chained s before now f given t (inr by) = inr (λ known. refused_chained f given t (by known))

-- an error under a master that was loaded
pub fails_unwrapped : (s middle : SystemState) (words : KeyWords) (name : List ℕ) (before then now : ℕ) (master : WrappedAead AeadKind) (t : Trouble)
    → middle ≡ s → before ≤ then → IsMasterOf s name master
    → ((m : MasterKeys) → IsMaster m master → Fails middle then now (unwrapped_keyset middle words m) t)
    → Fails s before now (wrapped_keyset s words name) t
fails_unwrapped s middle words name before then now master t same earlier is fails = by_known s.is_known refl
  where
    through : (m : MasterKeys) → wrapped_keyset s words name ≡ unwrapped_keyset s words m → Fails s then now (unwrapped_keyset s words m) t
        → Fails s before now (wrapped_keyset s words name) t
    through m loaded (inl rose) = inl (Rose-earlier before then now earlier rose)
    through m loaded (inr by) = inr (λ known. subst (λ (r : Result (List ℕ) Kind). RefusesBy r t) (sym loaded) (by known))

    by_known : (b : Bool) → s.is_known ≡ b → Fails s before now (wrapped_keyset s words name) t
    by_known true known =
        let found = is known in
        through found.0 (rw found.1 refl) (subst (λ (x : SystemState). Fails x then now (unwrapped_keyset x words found.0) t) same (fails found.0 found.2))
    by_known false unknown = inr (λ known. absurd (true≢false (sym known ∙ unknown)))

-- the same of an answer
pub refused_unwrapped : {T : Type 0} (s middle : SystemState) (words : KeyWords) (name : List ℕ) (before then now : ℕ) (master : WrappedAead AeadKind) (result : Result T Trouble)
    → middle ≡ s → before ≤ then → IsMasterOf s name master
    → ((m : MasterKeys) → IsMaster m master → IfErr result (λ t. Fails middle then now (unwrapped_keyset middle words m) t))
    → IfErr result (λ t. Fails s before now (wrapped_keyset s words name) t)
refused_unwrapped s middle words name before then now master (Ok v) same earlier is fails = tt
refused_unwrapped s middle words name before then now master (Err t) same earlier is fails =
    fails_unwrapped s middle words name before then now master t same earlier is fails

-- a keyset that was loaded after a call that changed nothing, as the slice that is handed on
pub loaded_by : (old middle : SystemState) (words : KeyWords) (keyset slice : List ℕ) → middle ≡ old → slice ≡ keyset
    → (middle.is_known ≡ true → keyset_of middle words ≡ Ok keyset) → old.is_known ≡ true → keyset_of old words ≡ Ok slice
loaded_by old middle words keyset slice same is gives known =
    subst (λ (s : SystemState). s.is_known ≡ true → keyset_of s words ≡ Ok keyset) same gives known ∙ ap (λ (k : List ℕ). Ok k) (sym is)
