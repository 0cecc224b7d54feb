-- Files of keys that a command does not write.
use Rattle.std.proofs.Common.{◌≡◌, ◌⊎◌, inl, inr, ℕ, List, true, false, refl, sym, ◌∙◌, subst, ap}
use Rattle.std.specs.Prelude.{Option, Some, None, Result, Ok, Err, IfErr, OnErr, OnOk, option_map}
use Rattle.tink_cli_words.specs.LineRead.{LineRead}
use Rattle.tink_system.specs.States.{SystemState}
use Rattle.tink_system.specs.Statuses.{trouble_status}
use Rattle.tink_system.specs.declared.trouble.Trouble.{Trouble}
use Rattle.tink_cli_jobs.specs.Jobs.{AreNewKeys, IsJob}
use Rattle.tink_cli_jobs.specs.Loading.{Fails, keyset_of, named}
use Rattle.tink_cli_jobs.specs.Protecting.{AreOthers, AreSpared, AreSparedBy, AreSparedOf, Differ, HasNoKeyset, IsNotFor, names_twice, reads_twice, reads_twice_by}
use Rattle.tink_cli_jobs.specs.declared.job.Job.{Job}
use Rattle.tink_cli_jobs.specs.declared.keys.KeyWords.{KeyWords}

-- the second file after the first
pub both_spared : (old middle : SystemState) (output m n master new_keys : Option (List ℕ)) (result : Result (Unit {0}) Trouble) → middle ≡ old
    → m ≡ master → n ≡ new_keys → (old.is_known ≡ true → Differ old output m) → OnOk result (middle.is_known ≡ true → Differ middle output n)
    → OnOk result (old.is_known ≡ true → AreOthers old output master new_keys)
both_spared old middle output m n master new_keys (Ok done) same m_is n_is first second = λ known. record {
  of_master = subst (λ (x : Option (List ℕ)). Differ old output x) m_is (first known);
  of_new_keys = subst (λ (x : Option (List ℕ)). Differ old output x) n_is
      (subst (λ (s : SystemState). s.is_known ≡ true → Differ s output n) same second known);
}
both_spared old middle output m n master new_keys (Err t) same m_is n_is first second = tt

-- both after the file of keys
pub all_spared : (old middle : SystemState) (output k keys master new_keys : Option (List ℕ)) (result : Result (Unit {0}) Trouble) → middle ≡ old
    → k ≡ keys → (old.is_known ≡ true → Differ old output k) → OnOk result (middle.is_known ≡ true → AreOthers middle output master new_keys)
    → OnOk result (old.is_known ≡ true → AreSpared old output keys master new_keys)
all_spared old middle output k keys master new_keys (Ok done) same k_is first others = λ known. record {
  of_keys = subst (λ (x : Option (List ℕ)). Differ old output x) k_is (first known);
  others = subst (λ (s : SystemState). s.is_known ≡ true → AreOthers s output master new_keys) same others known;
}
all_spared old middle output k keys master new_keys (Err t) same k_is first others = tt

new_name : (line : LineRead) (to : Option (List ℕ)) (new : Option KeyWords) → AreNewKeys line to new → option_map (λ w. w.keys.now) new ≡ to
new_name line (Some file) (Some words) are = ap (λ (n : List ℕ). Some n) are.keys_is
new_name line None None are = refl
new_name line (Some file) None are = absurd are
new_name line None (Some words) are = absurd are

by_names : (s : SystemState) (output out keys file master of_master new_keys to : Option (List ℕ)) → output ≡ out → keys ≡ file → master ≡ of_master → new_keys ≡ to
    → AreSpared s output keys master new_keys → AreSpared s out file of_master to
by_names s output out keys file master of_master new_keys to out_is file_is master_is to_is spared = record {
  of_keys = subst (λ (k : Option (List ℕ)). Differ s out k) file_is (subst (λ (o : Option (List ℕ)). Differ s o keys) out_is spared.of_keys);
  others = record {
    of_master = subst (λ (k : Option (List ℕ)). Differ s out k) master_is (subst (λ (o : Option (List ℕ)). Differ s o master) out_is spared.others.of_master);
    of_new_keys = subst (λ (k : Option (List ℕ)). Differ s out k) to_is (subst (λ (o : Option (List ℕ)). Differ s o new_keys) out_is spared.others.of_new_keys);
  };
}

-- those of a job are those of its words
pub spared_by_words : (line : LineRead) (job : Job) (s : SystemState) → IsJob line job → AreSparedBy s job → AreSparedOf s line
spared_by_words line job s is spared =
    by_names s (option_map (λ n. n.now) job.output) (named line.output) (named (Some job.keys.keys.now)) (named line.keys)
    (named (option_map (λ n. n.now) job.keys.master)) (named line.master) (named (option_map (λ w. w.keys.now) job.new_keys)) (named line.to)
    is.output (ap (λ (k : List ℕ). named (Some k)) is.keys.keys_is ∙ ap (λ (o : Option (List ℕ)). named o) (sym is.given))
    (ap (λ (o : Option (List ℕ)). named o) is.keys.master) (ap (λ (o : Option (List ℕ)). named o) (new_name line line.to job.new_keys is.new_keys)) spared

-- ---- causes

-- the second file is the one that is not spared
pub other_unspared : (old middle : SystemState) (output m n master new_keys : Option (List ℕ)) (result : Result (Unit {0}) Trouble) → middle ≡ old
    → n ≡ new_keys → OnErr result (middle.is_known ≡ true → Differ middle output n → ⊥)
    → OnErr result (old.is_known ≡ true → AreOthers old output master new_keys → ⊥)
other_unspared old middle output m n master new_keys (Ok done) same n_is cause = tt
other_unspared old middle output m n master new_keys (Err t) same n_is cause = λ known others.
    subst (λ (s : SystemState). s.is_known ≡ true → Differ s output n → ⊥) same cause known (subst (λ (x : Option (List ℕ)). Differ old output x) (sym n_is) others.of_new_keys)

-- the first is
pub master_unspared : (old : SystemState) (output m master new_keys : Option (List ℕ)) → m ≡ master → (old.is_known ≡ true → Differ old output m → ⊥)
    → old.is_known ≡ true → AreOthers old output master new_keys → ⊥
master_unspared old output m master new_keys m_is cause = λ known others. cause known (subst (λ (x : Option (List ℕ)). Differ old output x) (sym m_is) others.of_master)

-- one of both after the file of keys
pub others_unspared : (old middle : SystemState) (output keys master new_keys : Option (List ℕ)) (result : Result (Unit {0}) Trouble) → middle ≡ old
    → OnErr result (middle.is_known ≡ true → AreOthers middle output master new_keys → ⊥)
    → OnErr result (old.is_known ≡ true → AreSpared old output keys master new_keys → ⊥)
others_unspared old middle output keys master new_keys (Ok done) same cause = tt
others_unspared old middle output keys master new_keys (Err t) same cause = λ known spared.
    subst (λ (s : SystemState). s.is_known ≡ true → AreOthers s output master new_keys → ⊥) same cause known spared.others

-- the file of keys is
pub keys_unspared : (old : SystemState) (output k keys master new_keys : Option (List ℕ)) → k ≡ keys → (old.is_known ≡ true → Differ old output k → ⊥)
    → old.is_known ≡ true → AreSpared old output keys master new_keys → ⊥
keys_unspared old output k keys master new_keys k_is cause = λ known spared. cause known (subst (λ (x : Option (List ℕ)). Differ old output x) (sym k_is) spared.of_keys)

-- a keyset that is not loaded
pub not_loaded : {T : Type 0} (old middle : SystemState) (job : Job) (before then now : ℕ) (result : Result T Trouble) → middle ≡ old → then ≡ before
    → IfErr result (λ t. Fails middle then now (keyset_of middle job.keys) t) → IfErr result (HasNoKeyset old job before now)
not_loaded old middle job before then now (Ok v) same_state same_count fails = tt
not_loaded old middle job before then now (Err t) same_state same_count fails =
    inr (subst (λ (i : ℕ). Fails old i now (keyset_of old job.keys) t) same_count (subst (λ (s : SystemState). Fails s then now (keyset_of s job.keys) t) same_state fails))

pub not_for : {T : Type 0} (s : SystemState) (job : Job) (before now : ℕ) (result : Result T Trouble)
    → IfErr result (HasNoKeyset s job before now) → IfErr result (IsNotFor s job before now)
not_for s job before now (Ok v) has_none = tt
not_for s job before now (Err t) has_none = inr has_none

-- whether standard input is named twice, by the words
pub twice_by_words : (line : LineRead) (job : Job) → IsJob line job → reads_twice job ≡ names_twice line
twice_by_words line job is =
    ap (λ (input : Option (List ℕ)). reads_twice_by input (Some job.keys.keys.now) (option_map (λ n. n.now) job.keys.master) (option_map (λ w. w.keys.now) job.new_keys)) is.input
    ∙ ap (λ (keys : Option (List ℕ)). reads_twice_by (named line.first) keys (option_map (λ n. n.now) job.keys.master) (option_map (λ w. w.keys.now) job.new_keys))
    (ap (λ (k : List ℕ). Some k) is.keys.keys_is ∙ sym is.given)
    ∙ ap (λ (master : Option (List ℕ)). reads_twice_by (named line.first) line.keys master (option_map (λ w. w.keys.now) job.new_keys)) is.keys.master
    ∙ ap (λ (new_keys : Option (List ℕ)). reads_twice_by (named line.first) line.keys line.master new_keys) (new_name line line.to job.new_keys is.new_keys)
