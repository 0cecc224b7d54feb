-- A token that is held in memory, and then written.
use Rattle.std.proofs.Common.{Bool, ◌≡◌, ◌⊎◌, ◌≤◌, ◌<◌, ◌+◌, ◌++◌, arith, inl, inr, ℕ, List, [], length, take, true, false, refl, sym, ◌∙◌, subst, ap, length-take-le}
use Rattle.std.specs.Prelude.{Option, Some, None, Result, Ok, Err, IfErr, IfOk, OnErr, OnOk}
use Rattle.std.specs.Io.KnownBytes.{Appends}
use Rattle.tink_io.specs.Faults.{Rose}
use Rattle.tink_io.specs.Memory.{MemoryTaken, SameSink}
use Rattle.tink_io.specs.Outside.{Outside, AreKnown}
use Rattle.tink_io.specs.Places.{Ends, IsShown}
use Rattle.tink_io.specs.Written.{AppendsPrefix}
use Rattle.tink_io.specs.declared.error.Kind.{Kind}
use Rattle.tink_io.specs.declared.error.Kind.TheVariants.{OutOfMemory, ReadFault, WriteFault, BadKeyset, InvalidKeyset, UnsupportedKeyType, InvalidKey, NoPrimary, WrongPrimitive, InputTooLong}
use Rattle.tink_io.specs.declared.error.TinkError.{TinkError}
use Rattle.tink_run.specs.declared.report.Report.{Report}
use Rattle.tink_tokens.specs.Inputs.{HasInput, IsOfInput, LeavesSink, input_limit}
use Rattle.tink_tokens.specs.Tokens.{GaveOutput, Macs, RefusesSigning, SignsTo, TokenRefused, macs_of}
use Rattle.tink_tokens.proofs.InputSteps.{none_taken}
use Rattle.tink_tokens.proofs.ToldLemmas.{answered_whole, of_told, one_load}
use Rattle.tink_cli_files.specs.Streams.{IsShownWhole, RanAndEnded}
use Rattle.tink_cli_files.specs.Tasks.{IsDone, TaskMeans}
use Rattle.tink_cli_files.specs.declared.tasks.Task.{Task}
use Rattle.tink_cli_files.specs.declared.tasks.Task.TheVariants.{Rewrap, Run, Sign, Verify}
use Rattle.tink_cli_streams.specs.Fitting.{FittingMeans, HasLongToken, HoldsToken, IsDoneFitting, IsTooLong, beside, signs, unheld}

-- ---- one token

one_token : (macs : Macs) (text one other : List ℕ) → SignsTo macs text one → SignsTo macs text other → one ≡ other
one_token macs text one other is are =
    let same = sym is.made ∙ are.made in
    let mac : is.mac ≡ are.mac = cc same in
    let one_text = is.is.text in
    let other_text = are.is.text in
    cc

-- a token that fits is the only one
fits_not_long : (keyset text token : List ℕ) (macs : Macs) → macs_of keyset ≡ Ok macs → SignsTo macs text token → length token ≤ input_limit → HasLongToken keyset text → ⊥
fits_not_long keyset text token macs loads gives fits x =
    let gives_other : SignsTo macs text x.token = subst (λ m. SignsTo m text x.token) (one_load (macs_of keyset) x.macs macs x.loads loads) x.gives in
    let same : x.token ≡ token = one_token macs text x.token token gives_other gives in
    omega (arith, fits, subst (λ (t : List ℕ). input_limit < length t) same x.long)

-- a task that makes no token makes nothing too long
never_long : (task : Task) (keyset text : List ℕ) → signs task ≡ false → IsTooLong task keyset text → ⊥
never_long (Run command) keyset text is long = long
never_long (Rewrap to to_aad) keyset text is long = long
never_long Sign keyset text is long = absurd (cc)
never_long Verify keyset text is long = long

pub done_unsigned : (task : Task) (keyset aad draws left_draws : List ℕ) (old new : Outside) (result : Result (Option Report) TinkError) → signs task ≡ false
    → IfOk result (λ report. (T G : List ℕ) → AreKnown old T G → IsDone task keyset aad draws left_draws T G new report)
    → IfOk result (λ report. (T G : List ℕ) → AreKnown old T G → IsDoneFitting task keyset aad draws left_draws T G new report)
done_unsigned task keyset aad draws left_draws old new (Ok report) is done = λ T G told. (done T G told, never_long task keyset T is)
done_unsigned task keyset aad draws left_draws old new (Err e) is done = tt

-- ---- in memory

module _ (keyset aad draws left_draws : List ℕ) (left left_after : Option (List ℕ)) (reads reads_after : ℕ) (memory after : MemoryTaken) (none : memory.got ≡ []) where
  abbrev In : Outside
  In = beside left reads (Some memory.got) memory.faults

  abbrev Then : Outside
  Then = beside left_after reads_after (Some after.got) after.faults

  -- all of the token is there
  held : (report : Option Report) (token : List ℕ) → TaskMeans Sign keyset aad draws left_draws In Then (Ok report) → token ≡ after.got → length token ≤ input_limit
      → (got : Option (List ℕ)) (writes : ℕ) → HoldsToken keyset draws left_draws (beside left reads got writes) (beside left_after reads_after got writes) token
  held (Some report) token task is fits = absurd task.means
  held None token task is fits = λ got writes.
      let m = task.means in
      let written : after.got ≡ m.then.output = m.then.written ∙ ap (λ (l : List ℕ). l ++ m.then.output) none in
      record {
        of = record {
          loaded = m.loaded;
          loads = m.loads;
          input = m.input;
          has = m.has;
          then = subst (λ (t : List ℕ). SignsTo m.loaded m.input t) (sym written ∙ sym is) m.then.gives;
        };
        fits = fits;
        rest = task.rest;
        taken = task.taken;
      }

  pub held_short : {V : Type 0} (items : V → List ℕ) (report : Option Report) (bytes : List ℕ) (result : Result V TinkError)
      → TaskMeans Sign keyset aad draws left_draws In Then (Ok report) → bytes ≡ after.got → IfOk result (λ v. (items v ≡ bytes) × (length bytes ≤ input_limit))
      → IfOk result (λ v. (got : Option (List ℕ)) (writes : ℕ) → HoldsToken keyset draws left_draws (beside left reads got writes) (beside left_after reads_after got writes) (items v))
  held_short items report bytes (Ok v) task is fits = held report (items v) task (fits.0 ∙ is) (subst (λ (b : List ℕ). length b ≤ input_limit) (sym fits.0) fits.1)
  held_short items report bytes (Err e) task is fits = tt

  -- it is there, and is too long
  not_fitting : (report : Option Report) (e : TinkError) → TaskMeans Sign keyset aad draws left_draws In Then (Ok report) → e.kind ≡ InputTooLong → input_limit < length after.got
      → (got : Option (List ℕ)) (writes : ℕ) → FittingMeans Sign keyset aad draws left_draws (beside left reads got writes) (beside left_after reads_after got writes) (Err e)
  not_fitting (Some report) e task is long = absurd task.means
  not_fitting None e task is long = λ got writes.
      let m = task.means in
      let written : after.got ≡ m.then.output = m.then.written ∙ ap (λ (l : List ℕ). l ++ m.then.output) none in
      inr (record {
        kind = is;
        text = m.input;
        has = m.has;
        long = record { macs = m.loaded; loads = m.loads; token = m.then.output; gives = m.then.gives; long = subst (λ (t : List ℕ). input_limit < length t) written long };
        sink = record { got = refl; faults = refl };
      })

  pub not_short : {V : Type 0} (report : Option Report) (bytes : List ℕ) (result : Result V TinkError)
      → TaskMeans Sign keyset aad draws left_draws In Then (Ok report) → bytes ≡ after.got → IfErr result (λ e. (e.kind ≡ InputTooLong) × (input_limit < length bytes))
      → IfErr result (λ e. (got : Option (List ℕ)) (writes : ℕ)
      → FittingMeans Sign keyset aad draws left_draws (beside left reads got writes) (beside left_after reads_after got writes) (Err e))
  not_short report bytes (Ok v) task is long = tt
  not_short report bytes (Err e) task is long = not_fitting report e task long.0 (subst (λ (b : List ℕ). input_limit < length b) is long.1)

  -- there is no room for the token only if it is too long
  module _ (got : Option (List ℕ)) (writes : ℕ) where
    abbrev Old : Outside
    Old = beside left reads got writes

    abbrev New : Outside
    New = beside left_after reads_after got writes

    abbrev IsLong : Kind → Type 0
    IsLong kind = (kind ≡ InputTooLong) × ((text : List ℕ) × HasInput Old New text × HasLongToken keyset text)

    abbrev Why : Kind → Type 0
    Why kind = TokenRefused SignsTo RefusesSigning keyset Old New kind ⊎ IsLong kind

    sink : LeavesSink Old New
    sink = record { got = refl; faults = refl }

    full : memory.room ≡ input_limit + 1 → memory.faults ≡ 0 → memory.fails ≡ [] → SameSink memory after
        → IsOfInput (macs_of keyset) In Then (λ macs input. GaveOutput SignsTo macs input In Then AppendsPrefix × Rose memory.faults after.faults) → IsLong InputTooLong
    full room unfailed sure same m = (
      refl,
      (
        m.input,
        m.has,
        record {
          macs = m.loaded;
          loads = m.loads;
          token = m.then.0.output;
          gives = m.then.0.gives;
          long = long (same.count sure);
        },
      ),
    )
      where
        front : after.got ≡ take m.then.0.written.0 m.then.0.output
        front = m.then.0.written.2 ∙ ap (λ (l : List ℕ). l ++ take m.then.0.written.0 m.then.0.output) none

        counted : length after.got ≡ m.then.0.written.0
        counted = ap (λ (l : List ℕ). length l) front ∙ length-take-le m.then.0.written.0 m.then.0.output m.then.0.written.1

        long : (after.faults ≡ memory.faults) ⊎ (memory.room ≤ length after.got) → input_limit < length m.then.0.output
        long (inl still) = absurd (omega (arith, m.then.1, still, unfailed))
        long (inr over) = omega (arith, over, room, counted, m.then.0.written.1)

    why : memory.room ≡ input_limit + 1 → memory.faults ≡ 0 → memory.fails ≡ [] → SameSink memory after
        → (kind : Kind) → TokenRefused SignsTo RefusesSigning keyset In Then kind → Why (unheld kind)
    why room unfailed sure same OutOfMemory m = inl sink
    why room unfailed sure same BadKeyset m = inl (record { cause = m.cause; untouched = ap (λ (o : Outside). beside o.left o.read_faults got writes) m.untouched })
    why room unfailed sure same InvalidKeyset m = inl (record { cause = m.cause; untouched = ap (λ (o : Outside). beside o.left o.read_faults got writes) m.untouched })
    why room unfailed sure same UnsupportedKeyType m = inl (record { cause = m.cause; untouched = ap (λ (o : Outside). beside o.left o.read_faults got writes) m.untouched })
    why room unfailed sure same InvalidKey m = inl (record { cause = m.cause; untouched = ap (λ (o : Outside). beside o.left o.read_faults got writes) m.untouched })
    why room unfailed sure same NoPrimary m = inl (record { cause = m.cause; untouched = ap (λ (o : Outside). beside o.left o.read_faults got writes) m.untouched })
    why room unfailed sure same WrongPrimitive m = inl (record { cause = m.cause; untouched = ap (λ (o : Outside). beside o.left o.read_faults got writes) m.untouched })
    why room unfailed sure same ReadFault m = inl (m.0, sink, m.2)
    why room unfailed sure same InputTooLong m = inl (m.0, sink, m.2)
    why room unfailed sure same WriteFault m = inr (full room unfailed sure same m)
    why room unfailed sure same _ m = absurd m.then.0

  pub not_held : (e given : TinkError) → TaskMeans Sign keyset aad draws left_draws In Then (Err e) → given.kind ≡ unheld e.kind
      → memory.room ≡ input_limit + 1 → memory.faults ≡ 0 → memory.fails ≡ [] → SameSink memory after → (got : Option (List ℕ)) (writes : ℕ)
      → FittingMeans Sign keyset aad draws left_draws (beside left reads got writes) (beside left_after reads_after got writes) (Err given)
  not_held e given task is room unfailed sure same got writes =
      by (subst (λ (kind : Kind). Why got writes kind) (sym is) (why got writes room unfailed sure same e.kind task.means))
    where
      by : Why got writes given.kind → FittingMeans Sign keyset aad draws left_draws (beside left reads got writes) (beside left_after reads_after got writes) (Err given)
      by (inl means) = inl (record { means = means; rest = task.rest; taken = task.taken })
      by (inr x) = inr (record { kind = x.0; text = x.1.0; has = x.1.1; long = x.1.2; sink = record { got = refl; faults = refl } })

-- there is no memory for it
pub unreserved : (keyset aad draws : List ℕ) (left : Option (List ℕ)) (reads : ℕ) (e : TinkError) → e ≡ record { kind = OutOfMemory } → (got : Option (List ℕ)) (writes : ℕ)
    → FittingMeans Sign keyset aad draws draws (beside left reads got writes) (beside left reads got writes) (Err e)
unreserved keyset aad draws left reads e is got writes = inl (record {
  means = subst (λ (kind : Kind). TokenRefused SignsTo RefusesSigning keyset (beside left reads got writes) (beside left reads got writes) kind) (sym (ap (λ (x : TinkError). x.kind) is))
      (record { got = refl; faults = refl });
  rest = refl;
  taken = none_taken left;
})

-- ---- to a sink

-- what is said of the signing task
pub of_signing : (P : Task → Type 0) (task : Task) → signs task ≡ true → P Sign → P task
of_signing P (Run command) is p = absurd (cc)
of_signing P (Rewrap to to_aad) is p = absurd (cc)
of_signing P Sign is p = p
of_signing P Verify is p = absurd (cc)

module _ (keyset aad draws left_draws : List ℕ) (left left_after : Option (List ℕ)) (reads reads_after : ℕ) (got got_after : Option (List ℕ)) (writes writes_after : ℕ) (token : List ℕ)
    (holds : HoldsToken keyset draws left_draws (beside left reads got writes) (beside left_after reads_after got writes) token) where
  abbrev Before : Outside
  Before = beside left reads got writes

  abbrev After : Outside
  After = beside left_after reads_after got_after writes_after

  -- it was written whole
  whole : Appends got got_after token → IsOfInput (macs_of keyset) Before After (λ macs input. GaveOutput SignsTo macs input Before After Appends)
  whole written = record {
    loaded = holds.of.loaded;
    loads = holds.of.loads;
    input = holds.of.input;
    has = holds.of.has;
    then = record { output = token; gives = holds.of.then; written = written };
  }

  pub put_means : (result : Result (Option Report) TinkError) → IfOk result (λ report. report ≡ None)
      → OnOk result (Appends got got_after token) → OnErr result (AppendsPrefix got got_after token) → IfErr result (λ e. e ≡ record { kind = WriteFault })
      → OnErr result (Rose writes writes_after) → FittingMeans Sign keyset aad draws left_draws Before After result
  put_means (Ok (Some report)) none written front fault rose = absurd (cc)
  put_means (Ok None) none written front fault rose = inl (record { means = whole written; rest = holds.rest; taken = holds.taken })
  put_means (Err e) none written front fault rose = inl (record {
    means = subst (λ (kind : Kind). TokenRefused SignsTo RefusesSigning keyset Before After kind) (sym (ap (λ (x : TinkError). x.kind) fault)) (record {
      loaded = holds.of.loaded;
      loads = holds.of.loads;
      input = holds.of.input;
      has = holds.of.has;
      then = (record { output = token; gives = holds.of.then; written = front }, rose);
    });
    rest = holds.rest;
    taken = holds.taken;
  })

  pub put_done : (result : Result (Option Report) TinkError) → IfOk result (λ report. report ≡ None) → OnOk result (Appends got got_after token)
      → IfOk result (λ report. (T G : List ℕ) → AreKnown Before T G → IsDoneFitting Sign keyset aad draws left_draws T G After report)
  put_done (Ok (Some report)) none written = absurd (cc)
  put_done (Ok None) none written = λ T G told.
      let read = of_told (macs_of keyset) (λ macs input. SignsTo macs input token) Before (beside left_after reads_after got writes) T G told holds.of in
      (answered_whole SignsTo RefusesSigning keyset Before After (whole written) T G told, fits_not_long keyset T token read.loaded read.loads read.then holds.fits)
  put_done (Err e) none written = tt

-- ---- in a draft

-- a call wrote the draft, which leaves all else of the place, and its answer ended it
pub ran_and_ended : {P V : Type 0} (got : P → Option (List ℕ)) (counted : P → ℕ) (says : P → Result V TinkError → Type 0) (draft : P)
    (replaces drafted : Bool) (before beside after : Option (Option (List ℕ))) (j : ℕ) (answer result : Result V TinkError)
    → drafted ≡ replaces → beside ≡ before → says draft answer → Ends (got draft) drafted beside after (counted draft) j answer result
    → RanAndEnded got counted says replaces before after j result
ran_and_ended got counted says draft replaces drafted before beside after j answer result same_replaces same_shown ran ends =
    let Replaces : Bool → Type 0 = λ r. Ends (got draft) r beside after (counted draft) j answer result in
    let Before : Option (Option (List ℕ)) → Type 0 = λ b. Ends (got draft) replaces b after (counted draft) j answer result in
    record {
      draft = draft;
      answer = answer;
      ran = ran;
      ended = subst Before same_shown (subst Replaces same_replaces ends);
    }

-- an Ok is that of the call, whose draft is shown
pub shown_whole : {P V : Type 0} (got : P → Option (List ℕ)) (is_whole : P → V → Type 0) (draft : P) (i j : ℕ)
    (replaces drafted : Bool) (before beside after : Option (Option (List ℕ))) (answer result : Result V TinkError)
    → drafted ≡ replaces → beside ≡ before → IfOk answer (λ v. is_whole draft v) → Ends (got draft) drafted beside after i j answer result
    → IfOk result (λ v. IsShownWhole got is_whole replaces before after v)
shown_whole got is_whole draft i j replaces drafted before beside after (Ok v) (Ok w) same_replaces same_shown means ends =
    let Replaces : Bool → Type 0 = λ r. IsShown (got draft) r beside after in
    let Before : Option (Option (List ℕ)) → Type 0 = λ b. IsShown (got draft) replaces b after in
    record {
      draft = draft;
      whole = subst (λ u. is_whole draft u) (sym ends.0) means;
      shown = subst Before same_shown (subst Replaces same_replaces ends.1);
    }
shown_whole got is_whole draft i j replaces drafted before beside after (Ok v) (Err e) same_replaces same_shown means ends = tt
shown_whole got is_whole draft i j replaces drafted before beside after (Err e) (Ok w) same_replaces same_shown means ends = absurd ends
shown_whole got is_whole draft i j replaces drafted before beside after (Err e) (Err f) same_replaces same_shown means ends = tt
