-- What adding a key answers, from what each of its parts does.
use Rattle.std.proofs.Common.{◌≡◌, ◌⊎◌, ◌∙◌, ◌++◌, ◌∷◌, [], inl, inr, List, ℕ, Bool, cond, Result, Ok, Err, ap, refl, subst, sym}
use Rattle.std.specs.Prelude.{OnErr, IfOk}
use Rattle.tink_io.specs.Answering.{IsShort, Replies}
use Rattle.tink_io.specs.declared.error.Kind.{Kind}
use Rattle.tink_io.specs.declared.error.TinkError.{TinkError}
use Rattle.tink_proto.specs.declared.messages.keys.Key.{Key}
use Rattle.tink_proto.specs.declared.messages.keys.KeyData.{KeyData}
use Rattle.tink_proto.specs.declared.messages.keys.KeyTemplate.{KeyTemplate}
use Rattle.tink_proto.specs.declared.messages.keys.Keyset.{Keyset}
use Rattle.keyset_model.specs.Adding.{Added, added, added_by_data, added_by_id, fresh_id, IsFresh, new_key, reply, with_key}
use Rattle.keyset_model.proofs.FreshIds.{adds_fresh_ids, refused_adding_leaves}
use Rattle.tink_keyset_rules.specs.Managed.{IsAdded}

-- the data is refused
pub refused_data : (ks : Keyset) (kt : KeyTemplate) (as_primary : Bool) (made : Result KeyData Kind × List ℕ) (kind : Kind) (before now : List ℕ)
    → IsShort kind before now ⊎ ((made.0 ≡ Err kind) × (now ≡ made.1))
    → IsShort kind before now ⊎ (((added ks kt as_primary made).answer ≡ Err kind) × (now ≡ (added ks kt as_primary made).left))
refused_data ks kt as_primary made kind before now h = elim h [
  | inl short ↦ inl short
  | inr said ↦
      let so : added ks kt as_primary made ≡ record { answer = Err kind; keyset = ks; left = made.1 } = ap (λ (r : Result KeyData Kind). added_by_data ks kt as_primary r made.1) said.0 in
      inr (ap (λ (a : Added). a.answer) so, said.1 ∙ sym (ap (λ (a : Added). a.left) so))
]

-- an id is found, and the key is put
module _ (ks : Keyset) (kt : KeyTemplate) (as_primary : Bool) (d : KeyData) (found : Result ℕ Kind × List ℕ) (left : List ℕ) (rest : left ≡ found.1) where
  with_answer : (r : Result ℕ Kind) → found.0 ≡ r → added_by_id ks kt as_primary d found.0 found.1 ≡ added_by_id ks kt as_primary d r found.1
  with_answer r is = ap (λ (answer : Result ℕ Kind). added_by_id ks kt as_primary d answer found.1) is

  pub put_with : (id primary : ℕ) (all : List Key) → found.0 ≡ Ok id → primary ≡ cond as_primary id ks.primary_key_id → all ≡ ks.key ++ new_key kt d id ∷ []
      → IsAdded (Ok id) (record { primary_key_id = primary; key = all }) left (added_by_id ks kt as_primary d found.0 found.1)
  put_with id primary all is chosen put =
      let there : record { primary_key_id = primary; key = all } ≡ with_key ks as_primary (new_key kt d id) = rw (chosen, put) refl in
      subst (IsAdded (Ok id) (record { primary_key_id = primary; key = all }) left) (sym (with_answer (Ok id) is)) (record { answer = refl; keyset = there; left = rest })

  -- or none is
  pub put_none : (e : TinkError) → found.0 ≡ Err e.kind → IsAdded (Err e) ks left (added_by_id ks kt as_primary d found.0 found.1)
  put_none e is = subst (IsAdded (Err e) ks left) (sym (with_answer (Err e.kind) is)) (record { answer = refl; keyset = refl; left = rest })

-- the same by what an equal list of keys gives
pub by_keys : (ks : Keyset) (kt : KeyTemplate) (as_primary : Bool) (d : KeyData) (draws : List ℕ) (r : Result ℕ TinkError) (now : Keyset) (left : List ℕ) (seen keys : List Key)
    → seen ≡ keys → IsAdded r now left (added_by_id ks kt as_primary d (fresh_id seen 128 draws).0 (fresh_id seen 128 draws).1)
    → IsAdded r now left (added_by_id ks kt as_primary d (fresh_id keys 128 draws).0 (fresh_id keys 128 draws).1)
by_keys ks kt as_primary d draws r now left seen keys same h =
    subst (λ (k : List Key). IsAdded r now left (added_by_id ks kt as_primary d (fresh_id k 128 draws).0 (fresh_id k 128 draws).1)) same h

-- the data is made before
pub is_added : (ks held : Keyset) (kt : KeyTemplate) (as_primary : Bool) (made : Result KeyData Kind × List ℕ) (d : KeyData) (left : List ℕ) (r : Result ℕ TinkError) (now : Keyset) (after : List ℕ)
    → held ≡ ks → made.0 ≡ Ok d → left ≡ made.1
    → IsAdded r now after (added_by_id held kt as_primary d (fresh_id held.key 128 left).0 (fresh_id held.key 128 left).1) → IsAdded r now after (added ks kt as_primary made)
is_added ks held kt as_primary made d left r now after same has rest h =
    subst (λ (k : Keyset). IsAdded r now after (added k kt as_primary made)) same
    (subst (λ (l : List ℕ). IsAdded r now after (added_by_data held kt as_primary made.0 l)) rest
    (subst (λ (m : Result KeyData Kind). IsAdded r now after (added_by_data held kt as_primary m left)) (sym has) h))

-- what an answer that is told says
pub replies_added : (told : Added) (r : Result ℕ TinkError) (now : Keyset) (before after : List ℕ) → IsAdded r now after told → Replies r (reply told) before after
replies_added told (Ok id) now before after h = (h.answer, h.left)
replies_added told (Err e) now before after h = inr (h.answer, h.left)

module _ (ks : Keyset) (kt : KeyTemplate) (as_primary : Bool) (made : Result KeyData Kind × List ℕ) where
  pub left_added : (r : Result ℕ TinkError) (now : Keyset) (after : List ℕ) → IsAdded r now after (added ks kt as_primary made) → OnErr r (now ≡ ks)
  left_added (Ok id) now after h = tt
  left_added (Err e) now after h = h.keyset ∙ refused_adding_leaves ks kt as_primary made e.kind h.answer

  pub fresh_added : (r : Result ℕ TinkError) (now : Keyset) (after : List ℕ) → IsAdded r now after (added ks kt as_primary made) → IfOk r (λ id. IsFresh ks.key id)
  fresh_added (Ok id) now after h = adds_fresh_ids ks kt as_primary made id h.answer
  fresh_added (Err e) now after h = tt

-- the keyset stays where its keys do
pub same_keys : (primary : ℕ) (before now : List Key) (ks : Keyset) → record { primary_key_id = primary; key = before } ≡ ks → now ≡ before → record { primary_key_id = primary; key = now } ≡ ks
same_keys primary before now ks held same = rw same held
