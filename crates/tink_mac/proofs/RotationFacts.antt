-- What an entry made is accepted by each list that has the entry, and under its keyset after commands that spare its key.
use Rattle.std.proofs.Common.{◌≡◌, ◌∙◌, ◌<◌, ◌++◌, ℕ, List, Bool, cond, Option, Some, None, Result, Ok, Err, length, refl, ap, subst, arith}
use Rattle.std.specs.List.{All, Contains}
use Rattle.std.proofs.lemmas.Bool.{lt-ltb}
use Rattle.std.proofs.lemmas.List.{length-append}
use Rattle.std.proofs.lemmas.List.Elements.{All-contains_itself, All-weaker}
use Rattle.tink_io.specs.declared.error.Kind.{Kind}
use Rattle.tink_io.specs.declared.error.Kind.TheVariants.{MacMismatch}
use Rattle.tink_primitives.specs.Sorts.{as_mac}
use Rattle.tink_primitives.specs.declared.primitive.Primitive.{Primitive}
use Rattle.tink_primitives.specs.declared.primitive.Primitive.TheVariants.{Mac}
use Rattle.tink_sets.specs.Entries.{entry_of_id}
use Rattle.tink_sets.specs.declared.entry.TypedEntry.{TypedEntry}
use Rattle.tink_keysets.specs.Accepting.{AcceptsNoOther, accepted, entries_of}
use Rattle.tink_keysets.proofs.KeyEntries.{key_holds, made_ok, primary_key}
use Rattle.tink_keysets.proofs.LastingFacts.{IsAcceptedBy, accepted_after, accepted_by_key}
use Rattle.tink_mac.specs.Wrapped.{any_verifies, covered, entry_mac, entry_verifies, primary_mac, Computes, Verifies}
use Rattle.tink_mac.specs.Rotation.{IsMacBy, IsSound, MacsOutlive, OldMacsVerify}

module _ {P : Type 0} (computes : Computes P) (verifies : Verifies P) (message mac : List ℕ) where
  abbrev answer : TypedEntry P → List ℕ → Result (Unit {0}) Kind
  answer = entry_verifies verifies message

  -- a MAC that is accepted is accepted in one way
  alone : (es : List (TypedEntry P)) → All (AcceptsNoOther answer tt mac) es
  alone es = All-weaker (Contains es) (AcceptsNoOther answer tt mac) (λ e _. record { behind = λ _ other _. one other; whole = λ _ other _. one other }) es (All-contains_itself es)
    where
      one : (u : Unit {0}) → u ≡ tt
      one tt = refl

  accepted_mac : (e : TypedEntry P) → IsMacBy computes verifies e message mac → IsAcceptedBy answer e tt mac
  accepted_mac e by =
      let made = made_ok (λ tag. e.prefix ++ tag) (computes e.primitive (covered e.prefix_type message)) mac by.made in
      record { rest = made.0; is = made.2; accepted = by.own made.0 made.1; long = by.long }

  -- one of more than five bytes is asked about
  asked : (es : List (TypedEntry P)) → 5 < length mac → any_verifies verifies (entries_of es) mac message ≡ accepted answer (entries_of es) MacMismatch mac
  asked es long = ap (λ b. cond b (accepted answer (entries_of es) MacMismatch mac) (Err MacMismatch)) (lt-ltb 5 (length mac) long)

longer : (front tag mac : List ℕ) → front ++ tag ≡ mac → 5 < length tag → 5 < length mac
longer front tag mac is long = subst (λ l. 5 < length l) is (rw (length-append front tag) (omega arith))

sound_mac : {P : Type 0} (computes : Computes P) (verifies : Verifies P) (e : TypedEntry P) (message mac : List ℕ) → IsSound computes verifies e.primitive → entry_mac computes e message ≡ Ok mac → IsMacBy computes verifies e message mac
sound_mac computes verifies e message mac sound made =
    let text = covered e.prefix_type message in
    let tag = made_ok (λ t. e.prefix ++ t) (computes e.primitive text) mac made in
    record {
      made = made;
      own = λ t is. sound.own text t is;
      long = longer e.prefix tag.0 mac tag.2 (sound.long text tag.0 tag.1);
    }

of_primary : {P : Type 0} (computes : Computes P) (o : Option (TypedEntry P)) (message mac : List ℕ) → primary_mac computes o message ≡ Ok mac → (e : TypedEntry P) × (o ≡ Some e) × (entry_mac computes e message ≡ Ok mac)
of_primary computes None message mac made = absurd (cc)
of_primary computes (Some e) message mac made = (e, refl, made)

module _ {M K A D HD HE P F S St V : Type 0} (url : M → List ℕ) (supports : M → List ℕ → Bool) (builds : M → List ℕ → Result (Primitive K A D HD HE P F S St V) Kind) where
  is_mac : (q : Primitive K A D HD HE P F S St V) (p : P) → as_mac q ≡ Ok p → q ≡ Mac p
  is_mac (Mac x) p e = let same : x ≡ p = cc in ap Mac same
  is_mac _ p e = absurd (cc)

  pub old_macs_verify : (computes : Computes P) (verifies : Verifies P) → OldMacsVerify url supports builds computes verifies
  old_macs_verify computes verifies managers ks k e es message mac entry there all by =
      asked computes verifies message mac es by.long
      ∙ accepted_by_key as_mac url supports builds managers (entry_verifies verifies message) MacMismatch ks k e es tt mac entry there all (accepted_mac computes verifies message mac e by) (alone computes verifies message mac es)

  pub macs_outlive : (computes : Computes P) (verifies : Verifies P) → MacsOutlive url supports builds computes verifies
  macs_outlive computes verifies sound managers makes m commands es later message mac spared first last made =
      let primary = of_primary computes (entry_of_id m.keyset.primary_key_id es) message mac made in
      let e = primary.0 in
      let k = primary_key as_mac url supports builds managers m.keyset es e first primary.1 in
      let own = key_holds as_mac url supports builds managers (IsSound computes verifies) (λ r value q p built picked. sound r value p (built ∙ ap Ok (is_mac q p picked))) k.0 e k.2 in
      let by = sound_mac computes verifies e message mac own primary.2 in
      asked computes verifies message mac later by.long
      ∙ accepted_after as_mac url supports builds managers (entry_verifies verifies message) MacMismatch makes m commands es later e tt mac spared first primary.1 last (accepted_mac computes verifies message mac e by) (alone computes verifies message mac later)
