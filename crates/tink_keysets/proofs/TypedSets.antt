-- The set of one sort of what a keyset builds.
use Rattle.std.proofs.Common.{◌≡◌, ◌∙◌, ◌⊎◌, ℕ, List, [], Bool, true, false, cond, Option, Some, None, Result, Ok, Err, refl, sym, ap, subst, inl, inr, ⊎_elim}
use Rattle.std.specs.Prelude.{Vec, IfOk, IfErr, filter, find, is_some, nat_eq, unwrap_or}
use Rattle.std.specs.Str.{bytes_eq}
use Rattle.std.specs.BTreeMap.{BTreeMap}
use Rattle.tink_io.specs.declared.error.Kind.{Kind}
use Rattle.tink_io.specs.declared.error.Kind.TheVariants.{OutOfMemory, NoPrimary, WrongPrimitive}
use Rattle.tink_io.specs.declared.error.TinkError.{TinkError}
use Rattle.tink_io.specs.Answering.{made_of}
use Rattle.tink_primitives.specs.declared.primitive.Primitive.{Primitive}
use Rattle.tink_sets.specs.Converting.{converted, AreConverted, HasRefused}
use Rattle.tink_sets.specs.Entries.{prefix_of, typed_by, typed_prefix_of, with_primitive, IsTypedPrimary, IsRefusedPrimary, HasAnother}
use Rattle.tink_sets.specs.Groups.{AreGroupsOf, group_at, group_of}
use Rattle.tink_sets.specs.declared.entry.Entry.{Entry}
use Rattle.tink_sets.specs.declared.entry.TypedEntry.{TypedEntry}
use Rattle.tink_sets.proofs.SortFacts.{OnlyWrong, converted_wrong, typed_wrong}
use Rattle.tink_keysets.specs.Built.{GivesSet, HasEntries, HasNoOther}
use Rattle.tink_keysets.specs.Typing.{typed_entries}
use Rattle.tink_keysets.proofs.TypingFacts.{IsFound, converted-filter, converted-find, converted-none, converted-nothing, group-converted, refused_under}

module _ {K A D HD HE M P S St V Q : Type 0} (pick : Primitive K A D HD HE M P S St V → Result Q Kind) where
  with_ok : (e : Entry K A D HD HE M P S St V) (r : Result Q Kind) (y : TypedEntry Q) → made_of (with_primitive e) r ≡ Ok y → (e.prefix ≡ y.prefix) × (e.key_id ≡ y.key_id)
  with_ok e (Ok v) y is =
      let same : with_primitive e v ≡ y = cc in
      (ap (λ (t : TypedEntry Q). t.prefix) same, ap (λ (t : TypedEntry Q). t.key_id) same)
  with_ok e (Err k) y is = absurd (cc)

  same_prefix : (p : List ℕ) (e : Entry K A D HD HE M P S St V) (y : TypedEntry Q) → typed_by pick e ≡ Ok y → bytes_eq e.prefix p ≡ bytes_eq y.prefix p
  same_prefix p e y is = ap (λ l. bytes_eq l p) (with_ok e (pick e.primitive) y is).0

  same_id : (id : ℕ) (e : Entry K A D HD HE M P S St V) (y : TypedEntry Q) → typed_by pick e ≡ Ok y → nat_eq e.key_id id ≡ nat_eq y.key_id id
  same_id id e y is = ap (λ n. nat_eq n id) (with_ok e (pick e.primitive) y is).1

  module _ (id : ℕ) (es : List (Entry K A D HD HE M P S St V)) where
    -- the primary entry of the one sort
    typed_found : (o : Option (Entry K A D HD HE M P S St V)) (q r : Option (TypedEntry Q)) → IsTypedPrimary pick o q → IsFound (typed_by pick) o r → q ≡ r
    typed_found None None r h g = sym g
    typed_found None (Some t) r h g = absurd h
    typed_found (Some e) None r h g = absurd h
    typed_found (Some e) (Some t) r h g = let one = g.1 in let there = g.2 in cc

    module _ {G : Type 0} (primary : Option (Entry K A D HD HE M P S St V)) (groups : BTreeMap (Vec ℕ G) (List (Entry K A D HD HE M P S St V))) (has : HasEntries prefix_of (λ e. e.key_id) id es primary groups) where
      module _ (ts : List (TypedEntry Q)) (all : converted (typed_by pick) es ≡ Ok ts) where
        typed_groups : (n : BTreeMap (Vec ℕ G) (List (TypedEntry Q))) → AreConverted (typed_by pick) groups n → AreGroupsOf typed_prefix_of ts n
        typed_groups n h p =
            let one = group-converted (typed_by pick) groups n h p in
            let other = ap (converted (typed_by pick)) (has.by_prefix p) ∙ converted-filter (typed_by pick) (λ e. bytes_eq e.prefix p) (λ t. bytes_eq t.prefix p) (same_prefix p) es ts all in
            cc

        typed_no_other : (n : BTreeMap (Vec ℕ G) (List (TypedEntry Q))) → AreConverted (typed_by pick) groups n → HasNoOther typed_prefix_of ts n
        typed_no_other n h p empty =
            let kept = converted-filter (typed_by pick) (λ e. bytes_eq e.prefix p) (λ t. bytes_eq t.prefix p) (same_prefix p) es ts all ∙ ap Ok empty in
            converted-none (typed_by pick) (group_at groups p) (group_at n p) (h p)
            (has.no_other p (converted-nothing (typed_by pick) (filter (λ e. bytes_eq e.prefix p) es) kept))

        typed_primary : (q : Option (TypedEntry Q)) → IsTypedPrimary pick primary q → q ≡ find (λ t. nat_eq t.key_id id) ts
        typed_primary q h =
            typed_found (find (λ e. nat_eq e.key_id id) es) q (find (λ t. nat_eq t.key_id id) ts)
            (subst (λ o. IsTypedPrimary pick o q) has.by_id h)
            (converted-find (typed_by pick) (λ e. nat_eq e.key_id id) (λ t. nat_eq t.key_id id) (same_id id) es ts all)

        none_refused : HasRefused (typed_by pick) groups WrongPrimitive → ⊥
        none_refused h =
            let there : group_of groups h.prefix ≡ h.entries = ap (λ o. unwrap_or o []) h.there in
            let one = ap (converted (typed_by pick)) (sym there ∙ has.by_prefix h.prefix) ∙ converted-filter (typed_by pick) (λ e. bytes_eq e.prefix h.prefix) (λ t. bytes_eq t.prefix h.prefix) (same_prefix h.prefix) es ts all in
            let refused = h.refused in
            absurd (cc)

        found_refused : (o : Option (Entry K A D HD HE M P S St V)) (r : Option (TypedEntry Q)) → IsRefusedPrimary pick o WrongPrimitive → IsFound (typed_by pick) o r → ⊥
        found_refused None r h g = h
        found_refused (Some e) r h g = let one = g.1 in absurd (cc)

        no_other : HasAnother pick primary groups → ⊥
        no_other h =
            ⊎_elim
            (λ refused. found_refused (find (λ e. nat_eq e.key_id id) es) (find (λ t. nat_eq t.key_id id) ts)
            (subst (λ o. IsRefusedPrimary pick o WrongPrimitive) has.by_id refused)
            (converted-find (typed_by pick) (λ e. nat_eq e.key_id id) (λ t. nat_eq t.key_id id) (same_id id) es ts all))
            none_refused
            h

      -- each list is converted, so all entries are
      not_refused : (k : Kind) (n : BTreeMap (Vec ℕ G) (List (TypedEntry Q))) → AreConverted (typed_by pick) groups n → converted (typed_by pick) es ≡ Err k → ⊥
      not_refused k n h e =
          let w = refused_under (typed_by pick) prefix_of es k e in
          let one = group-converted (typed_by pick) groups n h w.0 in
          let other = ap (converted (typed_by pick)) (has.by_prefix w.0) ∙ w.1 in
          absurd (cc)

      given : (r : Result (List (TypedEntry Q)) Kind) → converted (typed_by pick) es ≡ r → (q : Option (TypedEntry Q)) (n : BTreeMap (Vec ℕ G) (List (TypedEntry Q))) → IsTypedPrimary pick primary q → AreConverted (typed_by pick) groups n
          → (ts : List (TypedEntry Q)) × (r ≡ Ok ts) × HasEntries typed_prefix_of (λ t. t.key_id) id ts q n
      given (Ok ts) is q n first rest = (ts, refl, record { by_prefix = typed_groups ts is n rest; no_other = typed_no_other ts is n rest; by_id = typed_primary ts is q first })
      given (Err k) is q n first rest = absurd (not_refused k n rest is)

      another : OnlyWrong pick → (r : Result (List (TypedEntry Q)) Kind) → converted (typed_by pick) es ≡ r → HasAnother pick primary groups → r ≡ Err WrongPrimitive
      another law (Ok ts) is h = absurd (no_other ts is h)
      another law (Err k) is h = ap Err (converted_wrong (typed_by pick) (typed_wrong pick law) es k is)

  built_so : (id : ℕ) (es : List (Entry K A D HD HE M P S St V)) (told : Result (List (Entry K A D HD HE M P S St V)) Kind) (b : Bool) → told ≡ Ok es → is_some (find (λ e. nat_eq e.key_id id) es) ≡ b → typed_entries pick id told ≡ cond b (converted (typed_by pick) es) (Err NoPrimary)
  built_so id es told b is there = rw is (ap (λ c. cond c (converted (typed_by pick) es) (Err NoPrimary)) there)

  pub typed-refused : (id : ℕ) (told : Result (List (Entry K A D HD HE M P S St V)) Kind) (kind : Kind) → (kind ≡ OutOfMemory) ⊎ (told ≡ Err kind) → (kind ≡ OutOfMemory) ⊎ (typed_entries pick id told ≡ Err kind)
  typed-refused id told kind h = ⊎_elim inl (λ is. inr (ap (typed_entries pick id) is)) h

  pub typed-no_primary : (id : ℕ) (told : Result (List (Entry K A D HD HE M P S St V)) Kind) (es : List (Entry K A D HD HE M P S St V)) (primary : Option (Entry K A D HD HE M P S St V))
      → told ≡ Ok es → primary ≡ find (λ e. nat_eq e.key_id id) es → is_some primary ≡ false → typed_entries pick id told ≡ Err NoPrimary
  typed-no_primary id told es primary is by_id none = built_so id es told false is (ap is_some (sym by_id) ∙ none)

  module _ {T U G : Type 0} (id : ℕ) (told : Result (List (Entry K A D HD HE M P S St V)) Kind) (primary_of : U → Option (Entry K A D HD HE M P S St V)) (groups_of : U → BTreeMap (Vec ℕ G) (List (Entry K A D HD HE M P S St V))) (typed_primary_of : T → Option (TypedEntry Q)) (typed_groups_of : T → BTreeMap (Vec ℕ G) (List (TypedEntry Q))) where
    -- a set of what was built, and one of the one sort
    abbrev pub Built : List (Entry K A D HD HE M P S St V) → U → Type 0
    Built es set = HasEntries prefix_of (λ e. e.key_id) id es (primary_of set) (groups_of set)

    abbrev pub Typed : List (TypedEntry Q) → T → Type 0
    Typed ts set = HasEntries typed_prefix_of (λ t. t.key_id) id ts (typed_primary_of set) (typed_groups_of set)

    module _ (set : U) (built : (es : List (Entry K A D HD HE M P S St V)) × (told ≡ Ok es) × Built es set) where
      whole : is_some (primary_of set) ≡ true → typed_entries pick id told ≡ converted (typed_by pick) built.0
      whole there = built_so id built.0 told true built.1 (ap is_some (sym built.2.by_id) ∙ there)

      pub typed-given : is_some (primary_of set) ≡ true → OnlyWrong pick → (r : Result T TinkError)
          → IfOk r (λ t. IsTypedPrimary pick (primary_of set) (typed_primary_of t))
          → IfOk r (λ t. AreConverted (typed_by pick) (groups_of set) (typed_groups_of t))
          → IfErr r (λ e. (e.kind ≡ OutOfMemory) ⊎ ((e.kind ≡ WrongPrimitive) × HasAnother pick (primary_of set) (groups_of set)))
          → GivesSet Typed r (typed_entries pick id told)
      typed-given there law (Ok t) first rest other =
          let w = given id built.0 (primary_of set) (groups_of set) built.2 (converted (typed_by pick) built.0) refl (typed_primary_of t) (typed_groups_of t) first rest in
          (w.0, whole there ∙ w.1, w.2)
      typed-given there law (Err e) first rest other =
          ⊎_elim inl
          (λ h. inr (whole there ∙ another id built.0 (primary_of set) (groups_of set) built.2 law (converted (typed_by pick) built.0) refl h.1 ∙ ap Err (sym h.0)))
          other

  has_one : (o : Option (Entry K A D HD HE M P S St V)) (q : Option (TypedEntry Q)) → is_some o ≡ true → IsTypedPrimary pick o q → is_some q ≡ true
  has_one None None there h = there
  has_one None (Some t) there h = refl
  has_one (Some e) None there h = absurd h
  has_one (Some e) (Some t) there h = refl

  pub typed-has_primary : {T : Type 0} (typed_primary_of : T → Option (TypedEntry Q)) (o : Option (Entry K A D HD HE M P S St V)) → is_some o ≡ true → (r : Result T TinkError)
      → IfOk r (λ t. IsTypedPrimary pick o (typed_primary_of t)) → IfOk r (λ t. is_some (typed_primary_of t) ≡ true)
  typed-has_primary typed_primary_of o there (Ok t) first = has_one o (typed_primary_of t) there first
  typed-has_primary typed_primary_of o there (Err e) first = tt
