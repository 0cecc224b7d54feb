-- Templates under their names, and keys that their formats make.
use Rattle.std.proofs.Common.{◌≡◌, ℕ, ◌≤◌, List, [], ◌∷◌, take, drop, length, Bool, true, false, Some, Ok, Result, cond, refl, arith, subst}
use Rattle.std.specs.declared.option.Option.{Option}
use Rattle.std.specs.Option.{option_map}
use Rattle.std.specs.Prelude.{fold, find, nat_eq, nat_le}
use Rattle.std.specs.List.{AllByRecursion}
use Rattle.std.specs.Str.{bytes_eq}
use Rattle.std.specs.Ordering.{nat_cmp}
use Rattle.std.specs.Cmp.Lexicographic.{slice_cmp}
use Rattle.std.specs.declared.cmp.Ordering.{Ordering}
use Rattle.std.specs.declared.cmp.Ordering.TheVariants.{Less, Equal, Greater}
use Rattle.std.proofs.lemmas.Bool.Decides.{nat_tests}
use Rattle.tink_io.specs.declared.error.Kind.{Kind}
use Rattle.tink_proto.specs.declared.messages.keys.KeyTemplate.{KeyTemplate}
use Rattle.wire_format.specs.Columns.{Column}
use Rattle.wire_format.specs.Message.{encoded}
use Rattle.wire_format.proofs.ReadingLaws.{written_again}
use Rattle.tink_registry.specs.Listed.{template_of, with_template, Named}
use Rattle.tink_key_manager.specs.Manager.{made_if, makes_data, message_of, symmetric}

-- ---- templates under their names

module _ (P : KeyTemplate → Type 0) where
  abbrev pub AllNamed : List Named → Type 0
  AllNamed ts = AllByRecursion (λ t. P t.1) ts

  by_order : (o : Ordering) (name : List ℕ) (kt : KeyTemplate) (t : Named) (ts rest : List Named) → P kt → AllNamed (t ∷ ts) → AllNamed rest
      → AllNamed (elim o [ Less ↦ (name, kt) ∷ t ∷ ts | Equal ↦ (name, kt) ∷ ts | Greater ↦ t ∷ rest ])
  by_order Less name kt t ts rest p all more = (p, all)
  by_order Equal name kt t ts rest p all more = (p, all.1)
  by_order Greater name kt t ts rest p all more = (all.0, more)

  with_one : (name : List ℕ) (kt : KeyTemplate) (ts : List Named) → P kt → AllNamed ts → AllNamed (with_template ts (name, kt))
  with_one name kt [] p all = (p, tt)
  with_one name kt (t ∷ ts) p all =
      by_order (slice_cmp nat_cmp name t.0) name kt t ts (with_template ts (name, kt)) p all (with_one name kt ts p all.1)

  -- what holds of templates and of more templates holds of both
  pub with_more : (ts more : List Named) → AllNamed ts → AllNamed more → AllNamed (fold with_template ts more)
  with_more ts [] all each = all
  with_more ts (t ∷ more) all each = with_more (with_template ts t) more (with_one t.0 t.1 ts each.0 all) each.1

  -- and of the one of a name
  pub of_name : (name : List ℕ) (kt : KeyTemplate) (ts : List Named) → AllNamed ts → template_of name ts ≡ Some kt → P kt
  of_name name kt [] all is = absurd (cc)
  of_name name kt (t ∷ ts) all is = by_test (bytes_eq t.0 name) t (find (λ x. bytes_eq x.0 name) ts) all.0 (of_name name kt ts all.1) is
    where
      by_test : (here : Bool) (t : Named) (found : Option Named) → P t.1 → (option_map (λ x. x.1) found ≡ Some kt → P kt) → option_map (λ x. x.1) (cond here (Some t) found) ≡ Some kt → P kt
      by_test true t found p later is = let same : t.1 ≡ kt = cc in subst P same p
      by_test false t found p later is = later is

-- ---- keys of a format

drawn : {Key : Type 0} (n : ℕ) (message : List ℕ → Key) (draws : List ℕ) → n ≤ length draws → made_if true n message draws ≡ (Ok (message (take n draws)), drop n draws)
drawn n message draws enough =
    let long : nat_le n (length draws) ≡ true = grind (arith, nat_tests) in
    rw long refl

read_again : {Format : Type 0} (formats : Column Format) (f : Format) → formats.fits f ≡ true → nat_eq (length (encoded formats.write f)) 0 ≡ false → message_of formats (encoded formats.write f) ≡ Some f
read_again formats f fits some = rw some (written_again formats f fits)

-- the data of a key that a format makes, where the format's bytes are handed in
pub made_data : {Key Format : Type 0} (url : List ℕ) (keys : Column Key) (formats : Column Format) (made : Format → List ℕ → Result Key Kind × List ℕ) (f : Format)
    → formats.fits f ≡ true → nat_eq (length (encoded formats.write f)) 0 ≡ false → (draws left : List ℕ) (key : Key) → made f draws ≡ (Ok key, left)
    → makes_data url keys formats made (encoded formats.write f) draws ≡ (Ok (symmetric url (encoded keys.write key)), left)
made_data url keys formats made f fits some draws left key is = rw (read_again formats f fits some, is) refl

pub made_data_if : {Key Format : Type 0} (url : List ℕ) (keys : Column Key) (formats : Column Format) (accepted : Format → Bool) (size : Format → ℕ) (message : Format → List ℕ → Key) (f : Format)
    → formats.fits f ≡ true → nat_eq (length (encoded formats.write f)) 0 ≡ false → accepted f ≡ true → (draws : List ℕ) → size f ≤ length draws
    → makes_data url keys formats (λ f draws. made_if (accepted f) (size f) (message f) draws) (encoded formats.write f) draws
    ≡ (Ok (symmetric url (encoded keys.write (message f (take (size f) draws)))), drop (size f) draws)
made_data_if url keys formats accepted size message f fits some accepts draws enough =
    made_data url keys formats (λ f draws. made_if (accepted f) (size f) (message f) draws) f fits some draws (drop (size f) draws) (message f (take (size f) draws))
    (rw accepts (drawn (size f) (message f) draws enough))
