-- Reading field by field, as a loop does.
use Rattle.std.proofs.Common.{◌≡◌, ℕ, zero, suc, ◌+◌, ◌<◌, ◌≤◌, List, [], ◌∷◌, length, Option, Some, None, true, refl, sym, ap, ◌∙◌, arith, length-append}
use Rattle.wire_format.specs.Grammar.{Field, AreFields}
use Rattle.wire_format.specs.Reading.{◌>>=◌, field_at, fields_in, fields_of}
use Rattle.wire_format.specs.GrammarLaws.{Next, field_takes, fields_next, fields_take, fields_give, fields_are, are_fields, bind_some, reads_back}
use Rattle.wire_format.specs.Columns.{Column, folded, read_into}
use Rattle.wire_format.specs.Message.{decoded, encoded}

-- a field takes at least one byte
pub shorter : (bytes : List ℕ) (x : Next) → field_at bytes ≡ Some x → length x.1 < length bytes
shorter bytes x e =
    let t = field_takes bytes x e in
    let size : length bytes ≡ length t.front + length x.1 = ap length t.whole ∙ length-append t.front x.1 in
    omega (arith, size, t.some)

more_fuel : (n : ℕ) (bytes : List ℕ) → length bytes ≤ n → fields_in n bytes ≡ fields_of bytes
more_fuel n bytes le = go (fields_in n bytes) refl (fields_of bytes) refl
  where
    go : (o : Option (List Field)) → fields_in n bytes ≡ o → (u : Option (List Field)) → fields_of bytes ≡ u → o ≡ u
    go None e None d = refl
    go None e (Some fs) d = sym e ∙ fields_give n bytes fs le (fields_are bytes fs d)
    go (Some fs) e u d = sym (are_fields bytes fs (fields_take n bytes fs e)) ∙ d

fields_after : (bytes : List ℕ) (f : Field) (rest : List ℕ) → field_at bytes ≡ Some (f, rest) → fields_of bytes ≡ (fields_of rest >>= λ fs. Some (f ∷ fs))
fields_after bytes f rest e = go (length bytes) refl
  where
    go : (n : ℕ) → length bytes ≡ n → fields_of bytes ≡ (fields_of rest >>= λ fs. Some (f ∷ fs))
    go zero size = absurd (omega (arith, shorter bytes (f, rest) e))
    go (suc n) size =
        let again : fields_in n rest ≡ fields_of rest = more_fuel n rest (omega (arith, shorter bytes (f, rest) e)) in
        sym (more_fuel (suc n) bytes (omega arith)) ∙ fields_next n bytes f rest e ∙ rw again refl

-- where a field stands in front
pub reads_on : {S : Type 0} (step : S → Field → Option S) (s t : S) (bytes : List ℕ) (x : Next) → field_at bytes ≡ Some x → step s x.0 ≡ Some t → read_into step t x.1 ≡ read_into step s bytes
unfolding folded
reads_on {S} step s t bytes x e d = rw (fields_after bytes x.0 x.1 e) (go (fields_of x.1))
  where
    go : (o : Option (List Field)) → (o >>= λ fs. folded step t fs) ≡ ((o >>= λ fs. Some (x.0 ∷ fs)) >>= λ fs. folded step s fs)
    go None = refl
    go (Some fs) = rw d refl

pub refuses : {S : Type 0} (step : S → Field → Option S) (s : S) (bytes : List ℕ) (x : Next) → field_at bytes ≡ Some x → step s x.0 ≡ None → read_into step s bytes ≡ None
unfolding folded
refuses {S} step s bytes x e d = rw (fields_after bytes x.0 x.1 e) (go (fields_of x.1))
  where
    go : (o : Option (List Field)) → ((o >>= λ fs. Some (x.0 ∷ fs)) >>= λ fs. folded step s fs) ≡ None
    go None = refl
    go (Some fs) = rw d refl

-- where none does
pub stops : {S : Type 0} (step : S → Field → Option S) (s : S) (bytes : List ℕ) → 0 < length bytes → field_at bytes ≡ None → read_into step s bytes ≡ None
unfolding fields_of fields_in
stops step s bytes lt e = rw (none_of bytes lt e) refl
  where
    none_of : (bytes : List ℕ) → 0 < length bytes → field_at bytes ≡ None → fields_of bytes ≡ None
    none_of [] lt e = absurd (omega arith)
    none_of (b ∷ bytes) lt e = rw e refl

pub ends : {S : Type 0} (step : S → Field → Option S) (s : S) (bytes : List ℕ) → length bytes ≡ 0 → read_into step s bytes ≡ Some s
unfolding folded fields_of fields_in
ends step s [] e = refl
ends step s (b ∷ bytes) e = absurd (omega arith)

-- reading into the empty message is reading all at once
pub decoded_is : {M : Type 0} (c : Column M) (bytes : List ℕ) → read_into c.step c.start bytes ≡ decoded c.read bytes
decoded_is {M} c bytes = go (fields_of bytes)
  where
    go : (o : Option (List Field)) → (o >>= λ fs. folded c.step c.start fs) ≡ (o >>= c.read)
    go None = refl
    go (Some fs) = c.reads fs

-- what is written is read again
pub written_again : {M : Type 0} (c : Column M) (m : M) → c.fits m ≡ true → decoded c.read (encoded c.write m) ≡ Some m
written_again c m h = rw (reads_back (c.write m) (c.sound m h)) (sym (c.reads (c.write m)) ∙ c.back m h)

-- what is read, in the words of the grammar
pub spelled_by : {M : Type 0} (read : List Field → Option M) (bytes : List ℕ) (m : M) → decoded read bytes ≡ Some m → (fs : List Field) × AreFields bytes fs × (read fs ≡ Some m)
spelled_by read bytes m e =
    let a = bind_some (fields_of bytes) read m e in
    (a.0, fields_are bytes a.0 a.1, a.2)

pub spelled_so : {M : Type 0} (read : List Field → Option M) (bytes : List ℕ) (fs : List Field) → AreFields bytes fs → decoded read bytes ≡ read fs
spelled_so read bytes fs h = rw (are_fields bytes fs h) refl
