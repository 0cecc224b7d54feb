-- What a read of an object in memory moves.
use Rattle.std.proofs.Common.{◌≡◌, ◌≤◌, ◌<◌, ◌-◌, min, cond, ℕ, zero, suc, Bool, List, length, take, drop, sym, ap, subst, ◌∙◌, arith, le_refl, le_trans}
use Rattle.std.proofs.lemmas.Bool.{ne_eqb}
use Rattle.tink_io.specs.Memory.{at_most_piece}

least : (n m : ℕ) → min n m ≤ n
least n m = omega arith

both_some : (n m : ℕ) → 0 < n → 0 < min n (suc m)
both_some n m some = omega arith

piece_fits : (piece n : ℕ) → at_most_piece piece n ≤ n
piece_fits zero n = le_refl n
piece_fits (suc piece) n = subst (λ (t : Bool). cond t n (min n (suc piece)) ≤ n) (sym (ne_eqb (suc piece) 0 (λ none. omega arith))) (least n (suc piece))

piece_some : (piece n : ℕ) → 0 < n → 0 < at_most_piece piece n
piece_some zero n some = some
piece_some (suc piece) n some = subst (λ (t : Bool). 0 < cond t n (min n (suc piece))) (sym (ne_eqb (suc piece) 0 (λ none. omega arith))) (both_some n piece some)

-- n bytes from a place of an object are now in a buffer
pub record IsMoved (bytes : List ℕ) (piece pos : ℕ) (buf new : List ℕ) (n : ℕ) : Type 0 where
  pub count : n ≡ at_most_piece piece (min (length bytes - pos) (length buf))
  pub room : n ≤ length buf
  pub within : n ≤ length bytes - pos
  pub some : 0 < length buf → pos < length bytes → 0 < n
  pub given : take n new ≡ take n (drop pos bytes)

pub is_moved : (bytes lent : List ℕ) (piece own pos : ℕ) (buf new : List ℕ) (n : ℕ) → lent ≡ bytes → own ≡ piece → n ≡ at_most_piece own (min (length lent - pos) (length buf)) → take n new ≡ take n (drop pos lent)
    → IsMoved bytes piece pos buf new n
is_moved bytes lent piece own pos buf new n is own_is count given =
    let most : ℕ = min (length bytes - pos) (length buf) in
    let whole : n ≡ at_most_piece piece most = count ∙ ap (λ (p : ℕ). at_most_piece p (min (length lent - pos) (length buf))) own_is ∙ ap (λ (xs : List ℕ). at_most_piece piece (min (length xs - pos) (length buf))) is in
    let fits : n ≤ most = subst (λ (m : ℕ). m ≤ most) (sym whole) (piece_fits piece most) in
    record {
      count = whole;
      room = le_trans fits (omega arith);
      within = le_trans fits (omega arith);
      some = λ a b. subst (λ (m : ℕ). 0 < m) (sym whole) (piece_some piece most (omega arith));
      given = subst (λ (xs : List ℕ). take n new ≡ take n (drop pos xs)) is given;
    }
