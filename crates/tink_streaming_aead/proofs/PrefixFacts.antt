-- The keys that a keyset's enabled keys build have output prefixes, of five bytes at most.
use Rattle.std.proofs.Common.{◌≡◌, ◌∙◌, ◌≤◌, ◌+◌, ℕ, List, [], ◌∷◌, Bool, true, false, cond, All, None, Result, Ok, Err, length, refl, sym, ap, subst, inl, inr, arith}
use Rattle.std.specs.List.{Contains}
use Rattle.std.proofs.lemmas.List.Elements.{All-cons, All-contains_itself, All-head, All-nil, All-tail, All-weaker}
use Rattle.tink_io.specs.declared.error.Kind.{Kind}
use Rattle.tink_io.specs.declared.error.Kind.TheVariants.{InvalidKeyset, NoPrimary}
use Rattle.tink_io.specs.Answering.{made_of}
use Rattle.tink_proto.specs.declared.messages.keys.Key.{Key}
use Rattle.tink_proto.specs.declared.messages.keys.Keyset.{Keyset}
use Rattle.keyset_model.specs.Keys.{enabled}
use Rattle.keyset_model.specs.Validity.{is_validated}
use Rattle.stream_model.specs.Key.{StreamKey}
use Rattle.stream_model.specs.Order.{IsOutputPrefix}
use Rattle.loading_model.proofs.UsableKeys.{out_is_prefix}
use Rattle.tink_primitives.specs.declared.primitive.Primitive.{Primitive}
use Rattle.tink_sets.specs.Converting.{before, converted}
use Rattle.tink_sets.specs.Entries.{entry_of, own_prefix, typed_by, with_primitive}
use Rattle.tink_sets.specs.declared.entry.Entry.{Entry}
use Rattle.tink_sets.specs.declared.entry.TypedEntry.{TypedEntry}
use Rattle.tink_set_builder.specs.Given as given
use Rattle.tink_keysets.specs.Built.{built_data, built_entries, built_entry}
use Rattle.tink_keysets.specs.Typing.{typed_entries}
use Rattle.tink_streaming_aead.specs.DecryptReaders.{largest, largest_segment}
use Rattle.tink_streaming_aead.specs.Wrapped.{HasOutputPrefix}

-- what each of a list gives is as it should be, where each is
module _ {S T : Type 0} (f : S → Result T Kind) (P : S → Type 0) (Q : T → Type 0) (keeps : (x : S) (y : T) → P x → f x ≡ Ok y → Q y) where
  one_kept : (x : S) (r : Result T Kind) (rest : Result (List T) Kind) (ys : List T) → P x → f x ≡ r
      → ((vs : List T) → rest ≡ Ok vs → All Q vs) → before r rest ≡ Ok ys → All Q ys
  one_kept x (Err k) rest ys p is more e = absurd (cc)
  one_kept x (Ok v) (Err k) ys p is more e = absurd (cc)
  one_kept x (Ok v) (Ok vs) ys p is more e =
      let same : v ∷ vs ≡ ys = cc in
      subst (All Q) same (All-cons Q v vs (keeps x v p is) (more vs refl))

  each_kept : (xs : List S) (ys : List T) → All P xs → converted f xs ≡ Ok ys → All Q ys
  each_kept [] ys all e = let none : [] ≡ ys = cc in subst (All Q) none (All-nil Q)
  each_kept (x ∷ xs) ys all e =
      one_kept x (f x) (converted f xs) ys (All-head P x xs all) refl (λ vs is. each_kept xs vs (All-tail P x xs all) is) e

  same_before : (r : Result T Kind) (rest : Result (List T) Kind) → given.before r rest ≡ before r rest
  same_before (Ok v) (Ok vs) = refl
  same_before (Ok v) (Err k) = refl
  same_before (Err k) rest = refl

  given-converted : (xs : List S) → given.given_each f xs ≡ converted f xs
  given-converted [] = refl
  given-converted (x ∷ xs) = ap (given.before (f x)) (given-converted xs) ∙ same_before (f x) (converted f xs)

cond_ok : {T : Type 0} (b : Bool) (r : Result T Kind) (k : Kind) (v : T) → cond b r (Err k) ≡ Ok v → r ≡ Ok v
cond_ok true r k v e = e
cond_ok false r k v e = absurd (cc)

made_ok : {S T : Type 0} (f : S → T) (r : Result S Kind) (v : T) → made_of f r ≡ Ok v → (x : S) × (f x ≡ v)
made_ok f (Ok x) v e = let same : f x ≡ v = cc in (x, same)
made_ok f (Err k) v e = absurd (cc)

module _ {R K A D HD HE M P S St V Q : Type 0} (pick : Primitive K A D HD HE M P S St V → Result Q Kind)
    (url : R → List ℕ) (supports : R → List ℕ → Bool) (builds : R → List ℕ → Result (Primitive K A D HD HE M P S St V) Kind) (managers : List R) where
  abbrev One : Type 0
  One = Entry K A D HD HE M P S St V

  abbrev give : Key → Result One Kind
  give = built_entry url supports builds entry_of managers None

  abbrev OfKey : Key → Type 0
  OfKey k = IsOutputPrefix (own_prefix k)

  abbrev OfEntry : One → Type 0
  OfEntry e = IsOutputPrefix e.prefix

  abbrev OfTyped : TypedEntry Q → Type 0
  OfTyped e = IsOutputPrefix e.prefix

  entry_kept : (k : Key) (e : One) → OfKey k → give k ≡ Ok e → OfEntry e
  entry_kept k e own is =
      let made = made_ok (λ p. entry_of p k) (built_data url supports builds managers None k.key_data) e is in
      subst OfEntry {x = entry_of made.0 k} made.1 own

  typed_kept : (e : One) (t : TypedEntry Q) → OfEntry e → typed_by pick e ≡ Ok t → OfTyped t
  typed_kept e t own is = subst OfTyped (made_ok (with_primitive e) (pick e.primitive) t is).1 own

  of_built : (ks : Keyset) (es : List One) → built_entries url supports builds entry_of managers None ks ≡ Ok es → All OfEntry es
  of_built ks es is =
      let keys : List Key = enabled ks in
      let own : All OfKey keys = All-weaker (Contains keys) OfKey (λ k _. out_is_prefix k.output_prefix_type k.key_id) keys (All-contains_itself keys) in
      let given = cond_ok (is_validated ks) (given.given_each give keys) InvalidKeyset es is in
      each_kept give OfKey OfEntry entry_kept keys es own (sym (given-converted give OfKey OfEntry entry_kept keys) ∙ given)

  of_typed : (id : ℕ) (told : Result (List One) Kind) (ts : List (TypedEntry Q)) → ((es : List One) → told ≡ Ok es → All OfEntry es)
      → typed_entries pick id told ≡ Ok ts → All OfTyped ts
  of_typed id (Err k) ts built is = absurd (cc)
  of_typed id (Ok es) ts built is =
      each_kept (typed_by pick) OfEntry OfTyped typed_kept es ts (built es refl) (cond_ok _ (converted (typed_by pick) es) NoPrimary ts is)

  -- each entry of a sort has an output prefix
  pub have_prefixes : (id : ℕ) (ks : Keyset) (ts : List (TypedEntry Q))
      → typed_entries pick id (built_entries url supports builds entry_of managers None ks) ≡ Ok ts → All OfTyped ts
  have_prefixes id ks ts is = of_typed id (built_entries url supports builds entry_of managers None ks) ts (of_built ks) is

short : (out : List ℕ) → IsOutputPrefix out → length out ≤ 5
short out (inl none) = let empty : length out ≡ 0 = ap length none in omega (arith, empty)
short out (inr five) = omega (arith, five.0)

-- with an output prefix no segment has more than five bytes more than the largest
pub most_more : (keys : List StreamKey) → All HasOutputPrefix keys → largest keys ≤ largest_segment keys + 5
most_more [] all = omega arith
most_more (k ∷ keys) all =
    let rest = most_more keys (All-tail HasOutputPrefix k keys all) in
    let own = short k.out (All-head HasOutputPrefix k keys all) in
    omega (arith, rest, own)
