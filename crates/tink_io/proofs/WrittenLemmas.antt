-- Several writes in a row.
use Rattle.std.proofs.Common.{◌≡◌, inl, inr, ◌+◌, ◌≤◌, ℕ, List, ◌++◌, length, take, sym, subst, arith, length-append}
use Rattle.std.proofs.Math.Seq.{take-append-add}
use Rattle.std.proofs.lemmas.List.{take-append-le}
use Rattle.std.specs.Prelude.{Result, Ok, Err, IfErr, OnOk, OnErr}
use Rattle.std.specs.declared.option.Option.{Option}
use Rattle.std.specs.Io.KnownBytes.{Appends}
use Rattle.std.proofs.KnownBytes.{Appends-trans}
use Rattle.tink_io.specs.Faults.{Rose}
use Rattle.tink_io.specs.Written.{AppendsPrefix, Writes, WritesOrFaults}
use Rattle.tink_io.specs.declared.error.Kind.TheVariants.{WriteFault}
use Rattle.tink_io.specs.declared.error.TinkError.{TinkError}
use Rattle.tink_io.proofs.FaultLemmas.{Rose-earlier}

-- bytes and then a prefix of more are a prefix of both
pub then_prefix : (a b c : Option (List ℕ)) (xs ys : List ℕ) → Appends a b xs → AppendsPrefix b c ys → AppendsPrefix a c (xs ++ ys)
then_prefix a b c xs ys whole front =
    (length xs + front.0, omega (arith, front.1, length-append xs ys), rw take-append-add (Appends-trans a b c xs (take front.0 ys) whole front.2))

-- a prefix of bytes is a prefix of more
pub prefix_of_more : (a b : Option (List ℕ)) (xs ys : List ℕ) → AppendsPrefix a b xs → AppendsPrefix a b (xs ++ ys)
prefix_of_more a b xs ys front =
    (front.0, omega (arith, front.1, length-append xs ys), subst (Appends a b) (sym (take-append-le front.0 xs ys front.1)) front.2)

-- the answer of a call that writes bytes whole, from its parts
pub Writes-of : (a b : Option (List ℕ)) (i j : ℕ) (answer : Result (Unit {0}) TinkError) (xs : List ℕ)
    → OnOk answer (Appends a b xs) → OnErr answer (AppendsPrefix a b xs) → OnErr answer (Rose i j) → i ≤ j
    → IfErr answer (λ e. e ≡ record { kind = WriteFault }) → Writes a b i j answer xs
Writes-of a b i j (Ok v) xs whole front rose later refused = (whole, later)
Writes-of a b i j (Err e) xs whole front rose later refused = (front, later, rose, refused)

-- bytes that were written whole, and then a call that writes more
pub Writes-then : (a b c : Option (List ℕ)) (i j k : ℕ) (answer : Result (Unit {0}) TinkError) (xs written ys : List ℕ) → written ≡ xs
    → Appends a b written × (i ≤ j) → Writes b c j k answer ys → Writes a c i k answer (xs ++ ys)
Writes-then a b c i j k (Ok v) xs written ys is first second =
    let whole = subst (Appends a b) is first.0 in (Appends-trans a b c xs ys whole second.0, omega (arith, first.1, second.1))
Writes-then a b c i j k (Err e) xs written ys is first second =
    let whole = subst (Appends a b) is first.0 in
    (then_prefix a b c xs ys whole second.0, omega (arith, first.1, second.1), Rose-earlier i j k first.1 second.2, second.3)

-- a call that was refused before more could be written
pub Writes-refused : (a b : Option (List ℕ)) (i j : ℕ) (e : TinkError) (xs ys : List ℕ) → Writes a b i j (Err e) xs → Writes a b i j (Err e) (xs ++ ys)
Writes-refused a b i j e xs ys refused = (prefix_of_more a b xs ys refused.0, refused.1, refused.2, refused.3)

-- the same, as a `?` hands it on
pub Writes-cut : (a b : Option (List ℕ)) (i j : ℕ) (answer : Result (Unit {0}) TinkError) (e : TinkError) (xs written ys : List ℕ) → written ≡ xs
    → (y : TinkError) × (answer ≡ Err y) × (y ≡ e) → Writes a b i j (Err e) written → Writes a b i j answer (xs ++ ys)
Writes-cut a b i j answer e xs written ys is handed refused =
    rw (handed.1, handed.2) (Writes-refused a b i j e xs ys (subst (Writes a b i j (Err e)) is refused))

-- bytes are written, or the sink failed, whatever was answered
pub WritesOrFaults-of : (a b : Option (List ℕ)) (i j : ℕ) (answer : Result (Unit {0}) TinkError) (xs : List ℕ) → Writes a b i j answer xs → WritesOrFaults a b i j xs
WritesOrFaults-of a b i j (Ok v) xs writes = inl writes.0
WritesOrFaults-of a b i j (Err e) xs writes = inr (writes.0, writes.2)

pub Writes-later : (a b : Option (List ℕ)) (i j : ℕ) (answer : Result (Unit {0}) TinkError) (xs : List ℕ) → Writes a b i j answer xs → i ≤ j
Writes-later a b i j (Ok v) xs writes = writes.1
Writes-later a b i j (Err e) xs writes = writes.1
