-- Errors of the commands on files of keys, by their causes.
use Rattle.std.proofs.Common.{◌≡◌, ◌⊎◌, ◌≤◌, arith, inl, inr, ℕ, List, Bool, true, refl, sym, ◌∙◌, subst, ap}
use Rattle.std.specs.Prelude.{Option, Some, None, Result, Ok, Err, IfErr, IsErrAnd, OnErr, OnOk, option_map, take, drop}
use Rattle.tink_cli_words.specs.LineRead.{LineRead}
use Rattle.tink_io.specs.Answering.{Answers}
use Rattle.tink_io.specs.declared.error.Kind.{Kind}
use Rattle.tink_io.specs.declared.error.Kind.TheVariants.{OutOfMemory, WriteFault}
use Rattle.tink_io.specs.declared.error.TinkError.{TinkError}
use Rattle.tink_io.specs.Faults.{Rose}
use Rattle.tink_io.proofs.FaultLemmas.{Rose-earlier, Rose-later}
use Rattle.tink_keysets.specs.Encrypted.{chained}
use Rattle.tink_cli_files.specs.Saved.{Saves}
use Rattle.tink_cli_jobs.specs.Loading.{Fails, HasStatusOf, named, whole_of}
use Rattle.tink_system.specs.States.{HindersDraft, IsDrawnFrom, IsOfCause, IsUnbegun, SystemState}
use Rattle.tink_system.specs.Statuses.{refusal_status, trouble_status}
use Rattle.tink_system.specs.declared.system.How.{How}
use Rattle.tink_system.specs.declared.system.How.TheVariants.{Fresh}
use Rattle.tink_system.specs.declared.trouble.Trouble.{Trouble}
use Rattle.tink_proto.specs.declared.enums.OutputPrefixType.{OutputPrefixType}
use Rattle.tink_keyset_io.specs.declared.key_files.formats.Format.{Format}
use Rattle.tink_cli_files.specs.Saved.{converted_file, new_file}
use Rattle.tink_cli_keys.specs.KeyFiles.{format_named, grown_file, listed_file}
use Rattle.tink_cli_keys.specs.Refusing.{HasConvertCause, HasListCause, IsCaused, IsHindered, IsMissing, IsRefusedAs, LeavesOut, LeavesOutAs, listed_by, made_of_file, of_two}
use Rattle.tink_cli_keys.specs.Saving.{readable}
use Rattle.tink_cli_keys.specs.declared.keys.Growth.{Growth}

-- the error of a call that answers the given
pub of_answer : (given : Result (List ℕ) Kind) (e : TinkError) (before now : ℕ) (W : Type 0) (status : ℕ) → Answers (Err e) given → status ≡ refusal_status e.kind → IsCaused before now W given status
of_answer given e before now W status (inl want) is = inl (is ∙ ap (λ (k : Kind). refusal_status k) want)
of_answer given e before now W status (inr told) is = inr (inr (inr (subst (λ (r : Result (List ℕ) Kind). HasStatusOf r status) (sym told) is)))

-- a count that rose from 0 is not 0
above_zero : (i j : ℕ) → i ≡ 0 → Rose i j → j ≡ 0 → ⊥
above_zero i j zero rose is = omega (arith, zero, rose, is)

-- an error of a save: the system counts the faults of a draft
pub of_save : (given : Result (List ℕ) Kind) (answer : Result (Unit {0}) TinkError) (draft : Option (List ℕ)) (replaces : Bool) (before after : Option (Option (List ℕ))) (i j p q : ℕ)
    (K : Type 0) (result : Result (Unit {0}) Trouble) → Saves given answer draft replaces before after i j → OnOk answer (OnErr result ⊥)
    → IfErr answer (λ e. IsErrAnd result (λ t. trouble_status t ≡ refusal_status e.kind)) → (K → (j ≡ 0 → ⊥) → Rose p q)
    → IfErr result (λ t. K → i ≡ 0 → IsCaused p q ⊥ given (trouble_status t))
of_save given answer draft replaces before after i j p q K (Ok done) saves ok refused counted = tt
of_save given (Ok u) draft replaces before after i j p q K (Err t) saves ok refused counted = absurd ok
of_save given (Err e) draft replaces before after i j p q K (Err t) saves ok refused counted = λ known zero. by known zero saves.0
  where
    by : K → i ≡ 0 → (e.kind ≡ OutOfMemory) ⊎ (given ≡ Err e.kind) ⊎ ((e.kind ≡ WriteFault) × Rose i j) → IsCaused p q ⊥ given (trouble_status t)
    by known zero (inl want) = inl (refused ∙ ap (λ (k : Kind). refusal_status k) want)
    by known zero (inr (inl told)) = inr (inr (inr (subst (λ (r : Result (List ℕ) Kind). HasStatusOf r (trouble_status t)) (sym told) refused)))
    by known zero (inr (inr fault)) = inr (inr (inl (counted known (above_zero i j zero fault.1))))

-- a cause later is one of both, and a write may fail for one more cause
pub caused_as : (V W : Type 0) (before then later now : ℕ) (given : Result (List ℕ) Kind) (status : ℕ) → before ≤ then → later ≤ now → (V → W)
    → IsCaused then later V given status → IsCaused before now W given status
caused_as V W before then later now given status le le' f (inl want) = inl want
caused_as V W before then later now given status le le' f (inr (inl write)) = inr (inl (write.0, f write.1))
caused_as V W before then later now given status le le' f (inr (inr (inl rose))) = inr (inr (inl (Rose-earlier before then now le (Rose-later then later now rose le'))))
caused_as V W before then later now given status le le' f (inr (inr (inr by))) = inr (inr (inr by))

pub caused_between : (W : Type 0) (before then now : ℕ) (given : Result (List ℕ) Kind) (status : ℕ) → before ≤ then → IsCaused then now W given status → IsCaused before now W given status
caused_between W before then now given status le caused = caused_as W W before then now now given status le (omega arith) (λ w. w) caused

-- a draft was not begun, or there is no memory
pub of_begin : (s : SystemState) (name : List ℕ) (how : How) (before now : ℕ) (given : Result (List ℕ) Kind) (t : Trouble)
    → IsUnbegun s name how before now t → IsCaused before now (HindersDraft s name how) given (trouble_status t)
of_begin s name how before now given t (inl want) = inl want
of_begin s name how before now given t (inr write) = by write.1
  where
    by : HindersDraft s name how ⊎ Rose before now → IsCaused before now (HindersDraft s name how) given (trouble_status t)
    by (inl hinders) = inr (inl (write.0, hinders))
    by (inr rose) = inr (inr (inl rose))

pub of_draws : (before now : ℕ) (W : Type 0) (given : Result (List ℕ) Kind) (t : Trouble) → IsOfCause 35 (Rose before now) t → IsCaused before now W given (trouble_status t)
of_draws before now W given t (inl want) = inl want
of_draws before now W given t (inr rose) = inr (inr (inl rose.1))

-- what is not made of what there is not
unmade : {A B : Type 0} (f : A → Result B Kind) (r : Result A Kind) (status : ℕ) → HasStatusOf r status → HasStatusOf (chained f r) status
unmade f (Ok v) status is = absurd is
unmade f (Err kind) status is = is

-- a value that a call of the system gives was not given
pub of_failing : {A : Type 0} (f : A → Result (List ℕ) Kind) (r : Result A Kind) (s : SystemState) (before now : ℕ) (W : Type 0) (t : Trouble)
    → Fails s before now r t → s.is_known ≡ true → IsCaused before now W (chained f r) (trouble_status t)
of_failing f r s before now W t (inl rose) known = inr (inr (inl rose))
of_failing f r s before now W t (inr by) known = by_cause (by known)
  where
    by_cause : (trouble_status t ≡ 10) ⊎ HasStatusOf r (trouble_status t) → IsCaused before now W (chained f r) (trouble_status t)
    by_cause (inl want) = inl want
    by_cause (inr is) = inr (inr (inr (unmade f r (trouble_status t) is)))

-- a file that was not read
pub unread : (makes : List ℕ → Result (List ℕ) Kind) (s : SystemState) (name : Option (List ℕ)) (before now : ℕ) (W : Type 0) (t : Trouble)
    → Fails s before now (whole_of s name) t → s.is_known ≡ true → IsCaused before now W (made_of_file makes s name) (trouble_status t)
unread makes s name before now W t fails known = of_failing (λ file. readable (makes file)) (whole_of s name) s before now W t fails known

-- the same if its draft is taken away behind it
pub of_reading : (makes : List ℕ → Result (List ℕ) Kind) (s : SystemState) (name : Option (List ℕ)) (before now later : ℕ) (W : Type 0) (t : Trouble) (status : ℕ)
    → Fails s before now (whole_of s name) t → now ≤ later → (status ≡ 10) ⊎ (status ≡ trouble_status t) → s.is_known ≡ true
    → IsCaused before later W (made_of_file makes s name) status
of_reading makes s name before now later W t status fails le (inl want) known = inl want
of_reading makes s name before now later W t status fails le (inr is) known =
    subst (λ (n : ℕ). IsCaused before later W (made_of_file makes s name) n) (sym is)
    (caused_as W W before before now later (made_of_file makes s name) (trouble_status t) (omega arith) le (λ w. w) (unread makes s name before now W t fails known))

-- a file that was read
pub of_read : (makes : List ℕ → Result (List ℕ) Kind) (s : SystemState) (name : Option (List ℕ)) (file : List ℕ) (before then now : ℕ) (D V W : Type 0) (result : Result (Unit {0}) Trouble)
    → (s.is_known ≡ true → whole_of s name ≡ Ok file) → before ≤ then → (V → W)
    → IfErr result (λ t. s.is_known ≡ true → D → IsCaused then now V (readable (makes file)) (trouble_status t))
    → IfErr result (λ t. s.is_known ≡ true → D → IsCaused before now W (made_of_file makes s name) (trouble_status t))
of_read makes s name file before then now D V W (Ok done) read le f caused = tt
of_read makes s name file before then now D V W (Err t) read le f caused = λ known d.
    subst (λ (r : Result (List ℕ) Kind). IsCaused before now W (chained (λ f. readable (makes f)) r) (trouble_status t)) (sym (read known))
    (caused_as V W before then now now (readable (makes file)) (trouble_status t) le (omega arith) f (caused known d))

-- what hinders a file does not change by a draw
pub hindered_later : (old : SystemState) (name : Option (List ℕ)) (i j : ℕ) (random : List ℕ) → IsHindered (record old { random = random }) name i j → IsHindered old name i j
hindered_later old None i j random is = is
hindered_later old (Some n) i j random is = is

-- after a draw
pub of_drawn : (G : List ℕ → SystemState → Result (List ℕ) Kind) (W : SystemState → Type 0) (old middle : SystemState) (drawn : List ℕ) (before then now : ℕ) (result : Result (Unit {0}) Trouble)
    → ((d random : List ℕ) → G d (record old { random = random }) ≡ G d old) → ((random : List ℕ) → W (record old { random = random }) → W old)
    → IsDrawnFrom old middle 1024 drawn → before ≤ then
    → IfErr result (λ t. middle.is_known ≡ true → IsCaused then now (W middle) (G drawn middle) (trouble_status t))
    → IfErr result (λ t. old.is_known ≡ true → IsCaused before now (W old) (G (take 1024 old.random) old) (trouble_status t))
of_drawn G W old middle drawn before then now (Ok done) same same_cause draws le caused = tt
of_drawn G W old middle drawn before then now (Err t) same same_cause draws le caused = λ known.
    let by_state = subst (λ (s : SystemState). s.is_known ≡ true → IsCaused then now (W s) (G drawn s) (trouble_status t)) draws.left caused known in
    let by_old = subst (λ (r : Result (List ℕ) Kind). IsCaused then now (W (record old { random = drop 1024 old.random })) r (trouble_status t)) (same drawn _) by_state in
    caused_as (W (record old { random = drop 1024 old.random })) (W old) before then now now (G (take 1024 old.random) old) (trouble_status t) le (omega arith) (same_cause _)
    (subst (λ (d : List ℕ). IsCaused then now (W (record old { random = drop 1024 old.random })) (G d old) (trouble_status t)) (draws.next known) by_old)

-- of what the words ask for
pub as_asked : {A B : Type 0} (f : A → B → Result (List ℕ) Kind) (x : Option A) (y : Option B) (a : A) (b : B) (before now : ℕ) (K : Type 0) (W : Option A → Option B → Type 0) (result : Result (Unit {0}) Trouble)
    → x ≡ Some a → y ≡ Some b → IfErr result (λ t. K → IsCaused before now (W (Some a) (Some b)) (f a b) (trouble_status t))
    → IfErr result (λ t. K → IsRefusedAs before now (W x y) (of_two f x y) (trouble_status t))
as_asked f x y a b before now K W result x_is y_is caused =
    subst (λ (o : Option _). IfErr result (λ t. K → IsRefusedAs before now (W o y) (of_two f o y) (trouble_status t))) (sym x_is)
    (subst (λ (o : Option _). IfErr result (λ t. K → IsRefusedAs before now (W (Some a) o) (of_two f (Some a) o) (trouble_status t))) (sym y_is) caused)

pub left_as_asked : {A B : Type 0} (f : A → B → Result (List ℕ) Kind) (x : Option A) (y : Option B) (a : A) (b : B) (output got got_after : Option (List ℕ)) (K : Type 0) (result : Result (Unit {0}) Trouble)
    → x ≡ Some a → y ≡ Some b → OnErr result (K → LeavesOut (f a b) output got got_after)
    → OnErr result (K → LeavesOutAs (of_two f x y) output got got_after)
left_as_asked f x y a b output got got_after K result x_is y_is left =
    subst (λ (o : Option _). OnErr result (K → LeavesOutAs (of_two f o y) output got got_after)) (sym x_is)
    (subst (λ (o : Option _). OnErr result (K → LeavesOutAs (of_two f (Some a) o) output got got_after)) (sym y_is) left)

-- a key that was not added
pub of_growth : (growth want : Growth) (path template drawn : List ℕ) (old middle : SystemState) (before then now : ℕ) (first second : Option (List ℕ)) (result : Result (Unit {0}) Trouble)
    → first ≡ Some path → second ≡ Some template → growth ≡ want → IsDrawnFrom old middle 1024 drawn → before ≤ then
    → IfErr result (λ t. middle.is_known ≡ true
    → IsCaused then now (IsMissing middle (Some path)) (made_of_file (λ file. grown_file growth template drawn file) middle (Some path)) (trouble_status t))
    → IfErr result (λ t. old.is_known ≡ true
    → IsRefusedAs before now (IsMissing old first) (of_two (λ p n. made_of_file (λ file. grown_file want n (take 1024 old.random) file) old (Some p)) first second) (trouble_status t))
of_growth growth want path template drawn old middle before then now first second result first_is second_is is draws le caused =
    as_asked (λ (p n : List ℕ). made_of_file (λ file. grown_file want n (take 1024 old.random) file) old (Some p)) first second path template before now (old.is_known ≡ true)
    (λ (p n : Option (List ℕ)). IsMissing old p) result first_is second_is
    (of_drawn (λ (d : List ℕ) (s : SystemState). made_of_file (λ file. grown_file want template d file) s (Some path)) (λ (s : SystemState). IsMissing s (Some path))
    old middle drawn before then now result (λ d r. refl) (λ r is. is) draws le
    (subst (λ (gr : Growth). IfErr result (λ t. middle.is_known ≡ true
    → IsCaused then now (IsMissing middle (Some path)) (made_of_file (λ file. grown_file gr template drawn file) middle (Some path)) (trouble_status t))) is caused))

-- a new file that was not made
pub of_new : (prefix prefix_want : Option OutputPrefixType) (format format_want : Format) (template output drawn : List ℕ) (old middle : SystemState) (before then now i j : ℕ)
    (first out : Option (List ℕ)) (result : Result (Unit {0}) Trouble)
    → first ≡ Some template → out ≡ Some output → prefix ≡ prefix_want → format ≡ format_want → IsDrawnFrom old middle 1024 drawn → before ≤ then
    → IfErr result (λ t. middle.is_known ≡ true
    → IsCaused then now (IsHindered middle (named (Some output)) i j) (readable (new_file template prefix format drawn)) (trouble_status t))
    → IfErr result (λ t. old.is_known ≡ true
    → IsRefusedAs before now (IsHindered old (named out) i j) (of_two (λ n o. readable (new_file n prefix_want format_want (take 1024 old.random))) first out) (trouble_status t))
of_new prefix prefix_want format format_want template output drawn old middle before then now i j first out result first_is out_is prefix_is format_is draws le caused =
    as_asked (λ (n o : List ℕ). readable (new_file n prefix_want format_want (take 1024 old.random))) first out template output before now (old.is_known ≡ true)
    (λ (n o : Option (List ℕ)). IsHindered old (named o) i j) result first_is out_is
    (of_drawn (λ (d : List ℕ) (s : SystemState). readable (new_file template prefix_want format_want d)) (λ (s : SystemState). IsHindered s (named (Some output)) i j)
    old middle drawn before then now result (λ d r. refl) (λ r. hindered_later old (named (Some output)) i j r) draws le
    (subst (λ (f : Format). IfErr result (λ t. middle.is_known ≡ true
    → IsCaused then now (IsHindered middle (named (Some output)) i j) (readable (new_file template prefix_want f drawn)) (trouble_status t))) format_is
    (subst (λ (p : Option OutputPrefixType). IfErr result (λ t. middle.is_known ≡ true
    → IsCaused then now (IsHindered middle (named (Some output)) i j) (readable (new_file template p format drawn)) (trouble_status t))) prefix_is caused)))

-- a draft that has not failed when it was begun
pub of_draft : (given : Result (List ℕ) Kind) (W : Type 0) (old begun : SystemState) (before then now i : ℕ) (result : Result (Unit {0}) Trouble)
    → begun ≡ old → before ≤ then → (old.is_known ≡ true → i ≡ 0)
    → IfErr result (λ t. begun.is_known ≡ true → i ≡ 0 → IsCaused then now ⊥ given (trouble_status t))
    → IfErr result (λ t. old.is_known ≡ true → IsCaused before now W given (trouble_status t))
of_draft given W old begun before then now i (Ok done) same le unfailed caused = tt
of_draft given W old begun before then now i (Err t) same le unfailed caused = λ known.
    caused_as ⊥ W before then now now given (trouble_status t) le (omega arith) (λ h. absurd h)
    (subst (λ (s : SystemState). s.is_known ≡ true → i ≡ 0 → IsCaused then now ⊥ given (trouble_status t)) same caused known (unfailed known))

-- the same of a file that is changed
pub of_change : (G : SystemState → Result (List ℕ) Kind) (W : SystemState → Type 0) (old begun : SystemState) (before then now i : ℕ) (result : Result (Unit {0}) Trouble)
    → begun ≡ old → before ≤ then → (old.is_known ≡ true → i ≡ 0)
    → IfErr result (λ t. begun.is_known ≡ true → i ≡ 0 → IsCaused then now (W begun) (G begun) (trouble_status t))
    → IfErr result (λ t. old.is_known ≡ true → IsCaused before now (W old) (G old) (trouble_status t))
of_change G W old begun before then now i (Ok done) same le unfailed caused = tt
of_change G W old begun before then now i (Err t) same le unfailed caused = λ known.
    caused_between (W old) before then now (G old) (trouble_status t) le
    (subst (λ (s : SystemState). s.is_known ≡ true → i ≡ 0 → IsCaused then now (W s) (G s) (trouble_status t)) same caused known (unfailed known))

-- no draft of a new file was begun
pub unbegun_new : (s : SystemState) (name output : List ℕ) (before now i j : ℕ) (given : Result (List ℕ) Kind) (t : Trouble)
    → Some name ≡ named (Some output) → IsUnbegun s name Fresh before now t → IsCaused before now (IsHindered s (named (Some output)) i j) given (trouble_status t)
unbegun_new s name output before now i j given t is unbegun =
    subst (λ (o : Option (List ℕ)). IsCaused before now (IsHindered s o i j) given (trouble_status t)) is (of_begin s name Fresh before now given t unbegun)

-- what is known later was known before
pub known_later : (old middle : SystemState) (P : Trouble → Type 0) (result : Result (Unit {0}) Trouble) → middle ≡ old → IfErr result (λ t. middle.is_known ≡ true → P t)
    → IfErr result (λ t. old.is_known ≡ true → P t)
known_later old middle P (Ok done) same holds = tt
known_later old middle P (Err t) same holds = subst (λ (s : SystemState). s.is_known ≡ true → P t) same holds

-- a file in another format that was not made
pub of_conversion : (line : LineRead) (path output file : List ℕ) (format : Format) (old middle : SystemState) (before then now i j : ℕ) (result : Result (Unit {0}) Trouble)
    → line.first ≡ Some path → line.output ≡ Some output → format ≡ format_named line.format → middle ≡ old → before ≤ then
    → (old.is_known ≡ true → whole_of old (named (Some path)) ≡ Ok file)
    → IfErr result (λ t. middle.is_known ≡ true → IsCaused then now (IsHindered middle (named (Some output)) i j) (readable (converted_file file format)) (trouble_status t))
    → IfErr result (λ t. old.is_known ≡ true → HasConvertCause line old before now i j (trouble_status t))
of_conversion line path output file format old middle before then now i j (Ok done) first out format_is same le read caused = tt
of_conversion line path output file format old middle before then now i j (Err t) first out format_is same le read caused =
    as_asked (λ (p o : List ℕ). made_of_file (λ f. converted_file f (format_named line.format)) old (named (Some p))) line.first line.output path output before now (old.is_known ≡ true)
    (λ (p o : Option (List ℕ)). IsHindered old (named o) i j) (Err t) first out (λ known.
    let here = subst (λ (s : SystemState). s.is_known ≡ true → IsCaused then now (IsHindered s (named (Some output)) i j) (readable (converted_file file format)) (trouble_status t)) same
    caused known in
    let by_format = subst (λ (f : Format). IsCaused then now (IsHindered old (named (Some output)) i j) (readable (converted_file file f)) (trouble_status t)) format_is here in
    subst (λ (r : Result (List ℕ) Kind). IsCaused before now (IsHindered old (named (Some output)) i j) (chained (λ f. readable (converted_file f (format_named line.format))) r) (trouble_status t))
    (sym (read known))
    (caused_between (IsHindered old (named (Some output)) i j) before then now (readable (converted_file file (format_named line.format))) (trouble_status t) le by_format))

-- keys that were not listed
pub of_listing : (line : LineRead) (path file : List ℕ) (json : Bool) (s : SystemState) (before now i j : ℕ) (result : Result (Unit {0}) Trouble)
    → line.first ≡ Some path → json ≡ line.json → (s.is_known ≡ true → whole_of s (named (Some path)) ≡ Ok file)
    → IfErr result (λ t. IsCaused before now (Rose i j) (listed_file json file) (trouble_status t))
    → IfErr result (λ t. s.is_known ≡ true → HasListCause line s before now i j (trouble_status t))
of_listing line path file json s before now i j (Ok done) first json_is read caused = tt
of_listing line path file json s before now i j (Err t) first json_is read caused = λ known.
    let here = subst (λ (b : Bool). IsCaused before now (Rose i j) (listed_file b file) (trouble_status t)) json_is caused in
    let under = subst (λ (r : Result (List ℕ) Kind). IsCaused before now (Rose i j) (chained (λ f. listed_file line.json f) r) (trouble_status t)) (sym (read known)) here in
    subst (λ (o : Option (List ℕ)). IsRefusedAs before now (Rose i j) (option_map (λ p. chained (λ f. listed_file line.json f) (whole_of s (named (Some p)))) o) (trouble_status t)) (sym first) under

pub of_listing_left : (line : LineRead) (path file : List ℕ) (json : Bool) (s : SystemState) (got got_after : Option (List ℕ)) (result : Result (Unit {0}) Trouble)
    → line.first ≡ Some path → json ≡ line.json → (s.is_known ≡ true → whole_of s (named (Some path)) ≡ Ok file)
    → OnErr result (LeavesOut (listed_file json file) None got got_after) → OnErr result (s.is_known ≡ true → LeavesOutAs (listed_by line s) None got got_after)
of_listing_left line path file json s got got_after (Ok done) first json_is read left = tt
of_listing_left line path file json s got got_after (Err t) first json_is read left = λ known.
    let here = subst (λ (b : Bool). LeavesOut (listed_file b file) None got got_after) json_is left in
    let under = subst (λ (r : Result (List ℕ) Kind). LeavesOut (chained (λ f. listed_file line.json f) r) None got got_after) (sym (read known)) here in
    subst (λ (o : Option (List ℕ)). LeavesOutAs (option_map (λ p. chained (λ f. listed_file line.json f) (whole_of s (named (Some p)))) o) None got got_after) (sym first) under

-- keys of a file that was not read
pub unlisted_by : (line : LineRead) (path : List ℕ) (s : SystemState) (before now i j : ℕ) (t : Trouble) → line.first ≡ Some path
    → Fails s before now (whole_of s (named (Some path))) t → s.is_known ≡ true → HasListCause line s before now i j (trouble_status t)
unlisted_by line path s before now i j t first fails known =
    subst (λ (o : Option (List ℕ)). IsRefusedAs before now (Rose i j) (option_map (λ p. chained (λ f. listed_file line.json f) (whole_of s (named (Some p)))) o) (trouble_status t)) (sym first)
    (of_failing (λ f. listed_file line.json f) (whole_of s (named (Some path))) s before now (Rose i j) t fails known)

-- standard output in the place of a new file
pub on_output : (s : SystemState) (output : List ℕ) (before now i j : ℕ) (given : Result (List ℕ) Kind) (K : Type 0) (result : Result (Unit {0}) Trouble) → None ≡ named (Some output)
    → IfErr result (λ t. K → IsCaused before now (Rose i j) given (trouble_status t))
    → IfErr result (λ t. K → IsCaused before now (IsHindered s (named (Some output)) i j) given (trouble_status t))
on_output s output before now i j given K result is caused =
    subst (λ (o : Option (List ℕ)). IfErr result (λ t. K → IsCaused before now (IsHindered s o i j) given (trouble_status t))) is caused
