-- From planes to wires and back.
use Rattle.std.proofs.Common.{◌≡◌, ℕ, suc, ◌<◌, List, [], ◌∷◌, length, get_or, sym, ◌∙◌, arith, refl}
use Rattle.std.specs.Int.{bit_at}
use Rattle.aes_block.specs.TruthTables.{BITS}
use Rattle.aes_block.specs.Wires.{AreBelow, ArePlanes, AreWires, IsWire}
use Rattle.aes_block.proofs.TableBits.{bits_are}
use Rattle.aes_block.proofs.Gates.{length-wires, wire_at}

wires_of : (X : ℕ → ℕ → ℕ) (ts : List ℕ) (vs : List (List ℕ)) → length vs ≡ length ts → ((n : ℕ) → n < length ts → IsWire X (get_or ts n 0) (get_or vs n [])) → AreWires X ts vs
wires_of X [] [] e h = refl
wires_of X [] (v ∷ vs) e h = absurd (omega (arith, e))
wires_of X (t ∷ ts) [] e h = absurd (omega (arith, e))
wires_of X (t ∷ ts) (v ∷ vs) e h = (h 0 (omega arith), wires_of X ts vs (omega (arith, e)) (λ n l. h (suc n) (omega (arith, l))))

pub to_wires : (X : ℕ → ℕ → ℕ) (q : List (List ℕ)) → ArePlanes X q → AreWires X BITS q
to_wires X q h =
    wires_of X BITS q h.count (λ j l. record {
      size = h.size j l;
      bits = λ k i p r. h.bits j k i l p r ∙ sym (bits_are j (X k i) l (h.below k i p r));
    })

-- wires whose tables have the bits of f of each byte are its planes
pub from_wires : (X : ℕ → ℕ → ℕ) (ts : List ℕ) (f : ℕ → ℕ) (q : List (List ℕ)) → length ts ≡ 8 → ((x : ℕ) → x < 256 → f x < 256)
    → ((j x : ℕ) → j < 8 → x < 256 → bit_at (get_or ts j 0) x ≡ bit_at (f x) j) → AreBelow X → AreWires X ts q → ArePlanes (λ k i. f (X k i)) q
from_wires X ts f q e keeps same low h =
    record {
      below = λ k i p r. keeps (X k i) (low k i p r);
      count = length-wires X ts q h ∙ e;
      size = λ j l. (wire_at X ts q h j (omega (arith, e))).size;
      bits = λ j k i l p r. (wire_at X ts q h j (omega (arith, e))).bits k i p r ∙ same j (X k i) l (low k i p r);
    }
