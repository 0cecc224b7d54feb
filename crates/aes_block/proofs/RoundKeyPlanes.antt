-- The planes of the round keys, one after the other.
use Rattle.std.proofs.Common.{inl, inr, ℕ, ◌+◌, ◌<◌, ◌≤◌, List, [], length, set, get_or, sym, subst, arith}
use Rattle.std.proofs.lemmas.List.{get_or-set_other, get_or-set_same}
use Rattle.std.proofs.Math.Nat.{eq-or-lt_of_le}
use Rattle.aes_block.specs.BitPlanes.{IsKey, planes_at}
use Rattle.aes_block.specs.declared.planes.KeyPlanes.{KeyPlanes}

abbrev none : KeyPlanes
none = record { planes = [] }

-- those of one round key more
pub one_key_more : (ks : List (List ℕ)) (planes : List KeyPlanes) (key : KeyPlanes) (r : ℕ) → r < length planes
    → ((n : ℕ) → n < r → IsKey (get_or ks n []) (planes_at planes n)) → IsKey (get_or ks r []) key.planes
    → (n : ℕ) → n < r + 1 → IsKey (get_or ks n []) (planes_at (set planes r key) n)
one_key_more ks planes key r low held is n l =
    let le : n ≤ r = omega arith in
    elim (eq-or-lt_of_le le) [
      | inl e ↦ subst (λ m. IsKey (get_or ks m []) (planes_at (set planes r key) m)) (sym e) (subst (λ k. IsKey (get_or ks r []) k.planes) (sym (get_or-set_same planes r key none low)) is)
      | inr below ↦ subst (λ k. IsKey (get_or ks n []) k.planes) (sym (get_or-set_other planes r n key none (omega arith))) (held n below)
    ]
