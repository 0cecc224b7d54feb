-- Content by content is all at once, and what is written of a value is read as that value.
use Rattle.std.specs.Prelude.{◌≡◌, ℕ, zero, suc, ◌-◌, ◌%◌, ◌^◌, List, [], ◌∷◌, ◌++◌, length, map, Option, Some, None, Bool, true, false, nat_eq, nat_lt, refl, ℤ, pos, negsuc}
use Rattle.std.specs.List.{AllByRecursion}
use Rattle.std.specs.Int.{cast_signed, cast_unsigned, w32, w64}
use Rattle.std.specs.Str.{is_utf8}
use Rattle.std.proofs.Common.{sym, ap, ◌∙◌, arith, cond, append_assoc}
use Rattle.std.proofs.lemmas.List.{append-nil}
use Rattle.std.proofs.lemmas.Bool.{ltb-true, lt-ltb, ne_eqb}
use Rattle.std.proofs.lemmas.Int.{to_z_pos}
use Rattle.std.proofs.Math.Facts.{to_z-neg}
use Rattle.wire_format.specs.Grammar.{Content, Field}
use Rattle.wire_format.specs.Grammar.Content.{Varint}
use Rattle.wire_format.specs.Reading.{◌>>=◌}
use Rattle.wire_format.specs.Writing.{spelling, is_small}
use Rattle.wire_format.specs.Message.{each, last_or, as_number, as_enum, as_bytes, as_text, as_fields, scalar, repeated, all_fields, joined, single}
use Rattle.wire_format.specs.GrammarLaws.{reads_back}
use Rattle.wire_format.specs.Columns.{folded, Column}
use Rattle.wire_format.specs.ColumnLaws.{folded-append, and_left, and_right}
use Rattle.wire_format.specs.Values.{replaced, unless_zero, fits_number, fits_enum, unless_empty, fits_bytes, fits_text, as_message, pushed, body, fits_body, fit_bodies, merged, option_body, fits_option}

-- ---- a scalar: the last of its number

pub scalar-folded : {A : Type 0} (read : Content → Option A) (a : A) (cs : List Content) → folded (replaced read) a cs ≡ scalar a read cs
unfolding folded each last_or
scalar-folded read a [] = refl
scalar-folded {A} read a (c ∷ cs) = go (λ x. scalar-folded read x cs) (read c)
  where
    next : (x : A) (o : Option (List A)) → (o >>= λ xs. Some (last_or x xs)) ≡ ((o >>= λ xs. Some (x ∷ xs)) >>= λ xs. Some (last_or a xs))
    next x None = refl
    next x (Some xs) = refl

    go : ((x : A) → folded (replaced read) x cs ≡ (each read cs >>= λ xs. Some (last_or x xs))) → (o : Option A) → (o >>= λ t. folded (replaced read) t cs) ≡ ((o >>= λ x. each read cs >>= λ xs. Some (x ∷ xs)) >>= λ xs. Some (last_or a xs))
    go again None = refl
    go again (Some x) = again x ∙ next x (each read cs)

pub unless_zero_small : (n : ℕ) → nat_lt n (2 ^ 64) ≡ true → AllByRecursion (λ c. is_small c ≡ true) (unless_zero n)
unless_zero_small n h = go (nat_eq n 0)
  where
    go : (t : Bool) → AllByRecursion (λ c. is_small c ≡ true) (cond t [] (Varint n ∷ []))
    go true = tt
    go false = (h, tt)

pub number_back : (n : ℕ) → fits_number n ≡ true → folded (replaced as_number) 0 (unless_zero n) ≡ Some n
unfolding folded
number_back zero h = refl
number_back (suc n) h =
    let low : suc n % 2 ^ 32 ≡ suc n = omega (arith, ltb-true _ _ h) in
    rw (ne_eqb (suc n) 0 (λ e. omega arith), low) refl

pub number_sound : (n : ℕ) → fits_number n ≡ true → AllByRecursion (λ c. is_small c ≡ true) (unless_zero n)
number_sound n h = unless_zero_small n (lt-ltb n (2 ^ 64) (omega (arith, ltb-true _ _ h)))

pub enum_again : (z : ℤ) → fits_enum z ≡ true → cast_signed w32 (cast_unsigned w64 z % 2 ^ 32) ≡ z
enum_again (pos n) h =
    let low : n % 2 ^ 32 ≡ n = omega (arith, ltb-true _ _ h) in
    rw low (to_z_pos w32 n (ltb-true _ _ h))
enum_again (negsuc n) h =
    let low : (2 ^ 64 - suc n) % 2 ^ 32 ≡ 2 ^ 32 - suc n = omega (arith, ltb-true _ _ h) in
    rw low (to_z-neg w32 n (ltb-true _ _ h))

pub enum_back : (z : ℤ) → fits_enum z ≡ true → folded (replaced as_enum) (pos 0) (unless_zero (cast_unsigned w64 z)) ≡ Some z
unfolding folded
enum_back (pos zero) h = refl
enum_back (pos (suc n)) h = rw (ne_eqb (suc n) 0 (λ e. omega arith)) (ap Some (enum_again (pos (suc n)) h))
enum_back (negsuc n) h = rw (ne_eqb (2 ^ 64 - suc n) 0 (λ e. omega (arith, ltb-true _ _ h))) (ap Some (enum_again (negsuc n) h))

pub enum_sound : (z : ℤ) → fits_enum z ≡ true → AllByRecursion (λ c. is_small c ≡ true) (unless_zero (cast_unsigned w64 z))
enum_sound (pos n) h = unless_zero_small n (lt-ltb n (2 ^ 64) (omega (arith, ltb-true _ _ h)))
enum_sound (negsuc n) h = unless_zero_small (2 ^ 64 - suc n) (lt-ltb (2 ^ 64 - suc n) (2 ^ 64) (omega arith))

pub bytes_back : (b : List ℕ) → fits_bytes b ≡ true → folded (replaced as_bytes) [] (unless_empty b) ≡ Some b
unfolding folded
bytes_back [] h = refl
bytes_back (b ∷ bs) h = refl

pub bytes_sound : (b : List ℕ) → fits_bytes b ≡ true → AllByRecursion (λ c. is_small c ≡ true) (unless_empty b)
bytes_sound [] h = tt
bytes_sound (b ∷ bs) h = (h, tt)

pub text_back : (b : List ℕ) → fits_text b ≡ true → folded (replaced as_text) [] (unless_empty b) ≡ Some b
unfolding folded
text_back [] h = refl
text_back (b ∷ bs) h = rw (and_left (is_utf8 (b ∷ bs)) (fits_bytes (b ∷ bs)) h) refl

-- ---- a repeated message

pub pushed-folded : {M : Type 0} (read : List Field → Option M) (ms : List M) (cs : List Content) → folded (pushed read) ms cs ≡ (each (as_message read) cs >>= λ ns. Some (ms ++ ns))
unfolding folded each
pushed-folded read ms [] = ap Some (sym (append-nil ms))
pushed-folded {M} read ms (c ∷ cs) = go (λ ns. pushed-folded read ns cs) (as_message read c)
  where
    next : (m : M) (o : Option (List M)) → (o >>= λ ns. Some ((ms ++ m ∷ []) ++ ns)) ≡ ((o >>= λ ns. Some (m ∷ ns)) >>= λ ns. Some (ms ++ ns))
    next m None = refl
    next m (Some ns) = ap Some (append_assoc ms (m ∷ []) ns)

    go : ((ns : List M) → folded (pushed read) ns cs ≡ (each (as_message read) cs >>= λ ms. Some (ns ++ ms))) → (o : Option M)
        → ((o >>= λ m. Some (ms ++ m ∷ [])) >>= λ t. folded (pushed read) t cs) ≡ ((o >>= λ m. each (as_message read) cs >>= λ ns. Some (m ∷ ns)) >>= λ ns. Some (ms ++ ns))
    go again None = refl
    go again (Some m) = again (ms ++ m ∷ []) ∙ next m (each (as_message read) cs)

pub repeated_reads : {M : Type 0} (read : List Field → Option M) (cs : List Content) → folded (pushed read) [] cs ≡ repeated read cs
repeated_reads {M} read cs = pushed-folded read [] cs ∙ go (each (as_message read) cs)
  where
    go : (o : Option (List M)) → (o >>= λ ns. Some ([] ++ ns)) ≡ o
    go None = refl
    go (Some ns) = refl

-- the fields of a body are those that were written
pub body_fields : {M : Type 0} (c : Column M) (m : M) → c.fits m ≡ true → as_fields (body c m) ≡ Some (c.write m)
body_fields c m h = reads_back (c.write m) (c.sound m h)

pub repeated_back : {M : Type 0} (c : Column M) (done ms : List M) → fit_bodies c ms ≡ true → folded (pushed c.read) done (map (body c) ms) ≡ Some (done ++ ms)
unfolding folded
repeated_back c done [] h = ap Some (sym (append-nil done))
repeated_back c done (m ∷ ms) h =
    let one = and_left (fits_body c m) (fit_bodies c ms) h in
    let fits = and_left (c.fits m) (nat_lt (length (spelling (c.write m))) (2 ^ 64)) one in
    let again : c.read (c.write m) ≡ Some m = sym (c.reads (c.write m)) ∙ c.back m fits in
    let first : as_message c.read (body c m) ≡ Some m = rw (body_fields c m fits) again in
    rw (first) (repeated_back c (done ++ m ∷ []) ms (and_right (fits_body c m) (fit_bodies c ms) h) ∙ ap Some (append_assoc done (m ∷ []) ms))

pub repeated_sound : {M : Type 0} (c : Column M) (ms : List M) → fit_bodies c ms ≡ true → AllByRecursion (λ c. is_small c ≡ true) (map (body c) ms)
repeated_sound c [] h = tt
repeated_sound c (m ∷ ms) h = (and_right (c.fits m) (nat_lt (length (spelling (c.write m))) (2 ^ 64)) (and_left (fits_body c m) (fit_bodies c ms) h), repeated_sound c ms (and_right (fits_body c m) (fit_bodies c ms) h))

-- ---- a single message

pub merged-folded : {M : Type 0} (step : M → Field → Option M) (start : M) (m : M) (cs : List Content) → folded (merged step start) (Some m) cs ≡ (each as_fields cs >>= λ bs. folded step m (all_fields bs) >>= λ n. Some (Some n))
unfolding folded each all_fields
merged-folded step start m [] = refl
merged-folded {M} step start m (c ∷ cs) = go (λ n. merged-folded step start n cs) (as_fields c)
  where
    later : (fs : List Field) (n : M) → folded step m fs ≡ Some n → (o : Option (List (List Field))) → (o >>= λ bs. folded step n (all_fields bs) >>= λ n. Some (Some n)) ≡ ((o >>= λ bs. Some (fs ∷ bs)) >>= λ bs. folded step m (all_fields bs) >>= λ n. Some (Some n))
    later fs n e None = refl
    later fs n e (Some bs) = rw (folded-append step m fs (all_fields bs), e) refl

    never : (fs : List Field) → folded step m fs ≡ None → (o : Option (List (List Field))) → None ≡ ((o >>= λ bs. Some (fs ∷ bs)) >>= λ bs. folded step m (all_fields bs) >>= λ n. Some (Some n))
    never fs e None = refl
    never fs e (Some bs) = rw (folded-append step m fs (all_fields bs), e) refl

    one : ((n : M) → folded (merged step start) (Some n) cs ≡ (each as_fields cs >>= λ bs. folded step n (all_fields bs) >>= λ n. Some (Some n))) → (fs : List Field) (r : Option M) → folded step m fs ≡ r
        → ((r >>= λ n. Some (Some n)) >>= λ t. folded (merged step start) t cs) ≡ ((each as_fields cs >>= λ bs. Some (fs ∷ bs)) >>= λ bs. folded step m (all_fields bs) >>= λ n. Some (Some n))
    one again fs None e = never fs e (each as_fields cs)
    one again fs (Some n) e = again n ∙ later fs n e (each as_fields cs)

    go : ((n : M) → folded (merged step start) (Some n) cs ≡ (each as_fields cs >>= λ bs. folded step n (all_fields bs) >>= λ n. Some (Some n))) → (o : Option (List Field))
        → ((o >>= λ fs. folded step m fs >>= λ n. Some (Some n)) >>= λ t. folded (merged step start) t cs) ≡ ((o >>= λ fs. each as_fields cs >>= λ bs. Some (fs ∷ bs)) >>= λ bs. folded step m (all_fields bs) >>= λ n. Some (Some n))
    go again None = refl
    go again (Some fs) = one again fs (folded step m fs) refl

pub single_reads : {M : Type 0} (c : Column M) (cs : List Content) → folded (merged c.step c.start) None cs ≡ single c.read cs
unfolding folded each all_fields
single_reads c [] = refl
single_reads {M} c (d ∷ cs) = merged-folded c.step c.start c.start (d ∷ cs) ∙ go (as_fields d) (each as_fields cs)
  where
    go : (o : Option (List Field)) (u : Option (List (List Field))) → ((o >>= λ fs. u >>= λ bs. Some (fs ∷ bs)) >>= λ bs. folded c.step c.start (all_fields bs) >>= λ n. Some (Some n)) ≡ ((o >>= λ fs. u >>= λ bs. Some (fs ∷ bs)) >>= joined c.read)
    go None u = refl
    go (Some fs) None = refl
    go (Some fs) (Some bs) = rw (c.reads (fs ++ all_fields bs)) refl

pub single_back : {M : Type 0} (c : Column M) (o : Option M) → fits_option c o ≡ true → folded (merged c.step c.start) None (option_body c o) ≡ Some o
unfolding folded
single_back c None h = refl
single_back c (Some m) h =
    let fits = and_left (c.fits m) (nat_lt (length (spelling (c.write m))) (2 ^ 64)) h in
    rw (body_fields c m fits, c.back m fits) refl

pub single_sound : {M : Type 0} (c : Column M) (o : Option M) → fits_option c o ≡ true → AllByRecursion (λ c. is_small c ≡ true) (option_body c o)
single_sound c None h = tt
single_sound c (Some m) h = (and_right (c.fits m) (nat_lt (length (spelling (c.write m))) (2 ^ 64)) h, tt)
