-- Where draws suffice, the one refusal of an id is that each was 0 or in use.
use Rattle.std.proofs.Common.{◌≡◌, ℕ, zero, suc, ◌*◌, ◌≤◌, List, drop, length, Bool, true, false, Ok, Err, Result, cond, refl, arith, sym, ◌∙◌, length-drop}
use Rattle.std.specs.Prelude.{nat_le}
use Rattle.std.proofs.lemmas.Bool.Decides.{nat_tests}
use Rattle.tink_io.specs.declared.error.Kind.{Kind}
use Rattle.tink_io.specs.declared.error.Kind.TheVariants.{NoFreshId}
use Rattle.tink_proto.specs.declared.messages.keys.Key.{Key}
use Rattle.tink_proto.specs.declared.messages.keys.KeyData.{KeyData}
use Rattle.tink_proto.specs.declared.messages.keys.KeyTemplate.{KeyTemplate}
use Rattle.tink_proto.specs.declared.messages.keys.Keyset.{Keyset}
use Rattle.keyset_model.specs.Adding.{added, added_by_id, drawn_id, fresh_id, is_taken, keyset_or, keyset_reply}

-- an id, or none that is free
abbrev IsFreeOrNone : Result ℕ Kind → Type 0
IsFreeOrNone (Ok id) = Unit {0}
IsFreeOrNone (Err kind) = kind ≡ NoFreshId

one_id : (taken : Bool) (rest : Result ℕ Kind × List ℕ) (id : ℕ) (left : List ℕ) → IsFreeOrNone rest.0 → IsFreeOrNone (cond taken rest (Ok id, left)).0
one_id true rest id left more = more
one_id false rest id left more = tt

ids_suffice : (keys : List Key) (n : ℕ) (d : List ℕ) → 4 * n ≤ length d → IsFreeOrNone (fresh_id keys n d).0
unfolding fresh_id
ids_suffice keys zero d enough = refl
ids_suffice keys (suc n) d enough =
    let long : nat_le 4 (length d) ≡ true = grind (arith, nat_tests) in
    rw long (one_id (is_taken keys (drawn_id d)) (fresh_id keys n (drop 4 d)) (drawn_id d) (drop 4 d) (ids_suffice keys n (drop 4 d) (omega (arith, length-drop {A = ℕ}))))

by_id : (p : Bool) (ks : Keyset) (kt : KeyTemplate) (d : KeyData) (r : Result ℕ Kind) (left : List ℕ) (kind : Kind) → IsFreeOrNone r
    → keyset_or (added_by_id ks kt p d r left).answer (added_by_id ks kt p d r left).keyset ≡ Err kind → kind ≡ NoFreshId
by_id p ks kt d (Ok id) left kind free is = absurd (cc)
by_id p ks kt d (Err by) left kind free is = let same : by ≡ kind = cc in sym same ∙ free

-- adding with data that was made, where the draws that are left suffice for 128 ids
pub refused_by_ids : (p : Bool) (ks : Keyset) (kt : KeyTemplate) (d : KeyData) (left : List ℕ) (kind : Kind) → 512 ≤ length left
    → (keyset_reply (added ks kt p (Ok d, left))).0 ≡ Err kind → kind ≡ NoFreshId
refused_by_ids p ks kt d left kind enough is =
    by_id p ks kt d (fresh_id ks.key 128 left).0 (fresh_id ks.key 128 left).1 kind (ids_suffice ks.key 128 left (omega arith)) is
