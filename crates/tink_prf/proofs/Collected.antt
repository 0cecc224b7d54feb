-- The functions of a list of entries, put one by one under their ids.
use Rattle.std.proofs.Common.{◌≡◌, ◌∙◌, ℕ, List, [], ◌∷◌, ◌++◌, Some, None, Ok, Result, cond, ap}
use Rattle.std.specs.Ordering.{nat_cmp, eq_by_cmp}
use Rattle.std.specs.BTreeMap.{BTreeMap, get, is_at, IsEmpty, IsFromIterResult, IsOrdered}
use Rattle.std.specs.Map.{lookup}
use Rattle.std.proofs.lemmas.Map.{update_all_push}
use Rattle.tink_io.specs.declared.error.Kind.{Kind}
use Rattle.tink_io.specs.Answering.{made_of}
use Rattle.tink_sets.specs.Converting.{before}
use Rattle.tink_set_groups.proofs.Converted.{none_before, one_more}

-- `rest` is known of what is left, and the map has those before it
pub record IsCollected {P : Type 0} (all rest : Result (List (ℕ × P)) Kind) (m : BTreeMap ℕ P) : Type 0 where
  pub prfs : List (ℕ × P)
  pub told : all ≡ made_of (λ vs. prfs ++ vs) rest
  pub by_id : IsFromIterResult nat_cmp prfs m

module _ {P : Type 0} where
  pub none_collected : (all : Result (List (ℕ × P)) Kind) (m : BTreeMap ℕ P) → IsEmpty m → IsOrdered nat_cmp m → IsCollected all all m
  none_collected all m empty ordered = record { prfs = []; told = none_before all; by_id = ((λ q. ap (lookup (is_at (nat_cmp q))) empty), ordered) }

  pub one_collected : (all left rest : Result (List (ℕ × P)) Kind) (one : Result (ℕ × P) Kind) (p : ℕ × P) (m n : BTreeMap ℕ P) → left ≡ before one rest → one ≡ Ok p → IsCollected all left m
      → ((q : ℕ) → get nat_cmp n q ≡ cond (eq_by_cmp nat_cmp p.0 q) (Some p.1) (get nat_cmp m q)) → IsOrdered nat_cmp n → IsCollected all rest n
  one_collected all left rest one p m n is given c put ordered =
      record {
        prfs = c.prfs ++ p ∷ [];
        told = c.told ∙ ap (made_of (λ vs. c.prfs ++ vs)) (is ∙ ap (λ r. before r rest) given) ∙ one_more c.prfs p rest;
        by_id = ((λ q. put q ∙ update_all_push (eq_by_cmp nat_cmp) (λ _. None) (get nat_cmp m) c.prfs p q (c.by_id.0 q)), ordered);
      }
