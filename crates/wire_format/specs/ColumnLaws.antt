-- The laws of one column, of two, and of a message's.
use Rattle.std.specs.Prelude.{◌≡◌, ℕ, ◌<◌, ◌≤◌, ◌^◌, List, [], ◌∷◌, ◌++◌, map, Option, Some, None, Bool, true, false, nat_eq, nat_lt, ◌&&◌, refl, IsTrue}
use Rattle.std.specs.List.{AllByRecursion}
use Rattle.std.proofs.Common.{sym, ap, ◌∙◌, arith, cond, eq-eqb}
use Rattle.std.proofs.lemmas.Bool.{ne_eqb, ltb-true}
use Rattle.wire_format.specs.Grammar.{Content, Field}
use Rattle.wire_format.specs.Reading.{◌>>=◌}
use Rattle.wire_format.specs.Writing.{is_small, IsWritable}
use Rattle.wire_format.specs.Message.{contents}
use Rattle.wire_format.specs.Columns.{folded, IsWithin, IsRising, Column, kept, at, both, seen, is_number}

pub folded-append : {S X : Type 0} (step : S → X → Option S) (s : S) (xs ys : List X) → folded step s (xs ++ ys) ≡ (folded step s xs >>= λ t. folded step t ys)
unfolding folded
folded-append {S} {X} step s [] ys = refl
folded-append {S} {X} step s (x ∷ xs) ys = go (λ t. folded-append step t xs ys) (step s x)
  where
    go : ((t : S) → folded step t (xs ++ ys) ≡ (folded step t xs >>= λ u. folded step u ys)) → (o : Option S) → (o >>= λ t. folded step t (xs ++ ys)) ≡ ((o >>= λ t. folded step t xs) >>= λ t. folded step t ys)
    go again None = refl
    go again (Some t) = again t

abbrev pub nothing : {B : Type 0} → Option B
nothing = None

pub none_after : {A B : Type 0} (o : Option A) → (o >>= λ x. nothing {B = B}) ≡ nothing
none_after None = refl
none_after (Some x) = refl

pub and_right : (a b : Bool) → (a && b) ≡ true → b ≡ true
and_right true b e = e
and_right false b e = absurd cc

pub and_left : (a b : Bool) → (a && b) ≡ true → a ≡ true
and_left true b e = refl
and_left false b e = e

-- ---- one number

pub kept_other : {A : Type 0} (n : ℕ) (add : A → Content → Option A) (a : A) (f : Field) → (f.number ≡ n → ⊥) → kept n add a f ≡ Some a
kept_other n add a f ne = rw (ne_eqb f.number n ne) refl

pub kept-folded : {A : Type 0} (n : ℕ) (add : A → Content → Option A) (a : A) (fs : List Field) → folded (kept n add) a fs ≡ folded add a (contents n fs)
unfolding folded contents
kept-folded {A} n add a [] = refl
kept-folded {A} n add a (f ∷ fs) = go (λ t. kept-folded n add t fs) (nat_eq f.number n)
  where
    next : ((t : A) → folded (kept n add) t fs ≡ folded add t (contents n fs)) → (o : Option A) → (o >>= λ t. folded (kept n add) t fs) ≡ (o >>= λ t. folded add t (contents n fs))
    next again None = refl
    next again (Some t) = again t

    go : ((t : A) → folded (kept n add) t fs ≡ folded add t (contents n fs)) → (b : Bool) → (cond b (add a f.content) (Some a) >>= λ t. folded (kept n add) t fs) ≡ folded add a (cond b (f.content ∷ contents n fs) (contents n fs))
    go again true = next again (add a f.content)
    go again false = again a

pub contents-at : (n : ℕ) (cs : List Content) → contents n (map (at n) cs) ≡ cs
unfolding contents
contents-at n [] = refl
contents-at n (c ∷ cs) = rw (eq-eqb n n refl) (ap (λ (x : List Content). c ∷ x) (contents-at n cs))

pub within_at : (n : ℕ) (cs : List Content) → AllByRecursion (IsWithin n n) (map (at n) cs)
within_at n [] = tt
within_at n (c ∷ cs) = (record { low_most = omega arith; high_most = omega arith }, within_at n cs)

pub sound_at : (n : ℕ) → 0 < n → n < 2 ^ 29 → (cs : List Content) → AllByRecursion (λ c. is_small c ≡ true) cs → AllByRecursion IsWritable (map (at n) cs)
sound_at n p q [] h = tt
sound_at n p q (c ∷ cs) h = (record { numbered = p; small = q; content = h.0 }, sound_at n p q cs h.1)

pub rising_at : (n : ℕ) (cs : List Content) → IsRising n (map (at n) cs)
rising_at n [] = tt
rising_at n (c ∷ cs) = (omega arith, rising_at n cs)

pub le_self : (n : ℕ) → n ≤ n
le_self n = omega arith

pub below_ne : (m n : ℕ) → m < n → m ≡ n → ⊥
below_ne m n lt e = omega arith

pub above_ne : (m n : ℕ) → n < m → m ≡ n → ⊥
above_ne m n lt e = omega arith

pub above_zero : (n : ℕ) → IsTrue (is_number n) → 0 < n
above_zero n h = ltb-true 0 n (and_left (nat_lt 0 n) (nat_lt n (2 ^ 29)) h)

pub below_most : (n : ℕ) → IsTrue (is_number n) → n < 2 ^ 29
below_most n h = ltb-true n (2 ^ 29) (and_right (nat_lt 0 n) (nat_lt n (2 ^ 29)) h)

-- ---- two columns, the second of higher numbers

pub both-folded : {A B : Type 0} (s : A → Field → Option A) (t : B → Field → Option B) (p : A × B) (fs : List Field) → folded (both s t) p fs ≡ (folded s p.0 fs >>= λ x. folded t p.1 fs >>= λ y. Some (x, y))
unfolding folded
both-folded {A} {B} s t p [] = refl
both-folded {A} {B} s t p (f ∷ fs) = go (λ q. both-folded s t q fs) (s p.0 f) (t p.1 f)
  where
    go : ((q : A × B) → folded (both s t) q fs ≡ (folded s q.0 fs >>= λ x. folded t q.1 fs >>= λ y. Some (x, y))) → (o : Option A) (u : Option B) → ((o >>= λ x. u >>= λ y. Some (x, y)) >>= λ q. folded (both s t) q fs) ≡ ((o >>= λ x. folded s x fs) >>= λ x. (u >>= λ y. folded t y fs) >>= λ y. Some (x, y))
    go again None u = refl
    go again (Some x) None = sym (none_after (folded s x fs))
    go again (Some x) (Some y) = again (x, y)

-- fields of other numbers change nothing
pub still : {A : Type 0} (s : A → Field → Option A) (a : A) (fs : List Field) → AllByRecursion (λ f. s a f ≡ Some a) fs → folded s a fs ≡ Some a
unfolding folded
still s a [] h = refl
still s a (f ∷ fs) h = rw h.0 (still s a fs h.1)

pub all_from : {X : Type 0} (P Q : X → Type 0) → ((x : X) → P x → Q x) → (xs : List X) → AllByRecursion P xs → AllByRecursion Q xs
all_from P Q g [] h = tt
all_from P Q g (x ∷ xs) h = (g x h.0, all_from P Q g xs h.1)

pub all_append : {X : Type 0} (P : X → Type 0) (xs ys : List X) → AllByRecursion P xs → AllByRecursion P ys → AllByRecursion P (xs ++ ys)
all_append P [] ys h k = k
all_append P (x ∷ xs) ys h k = (h.0, all_append P xs ys h.1 k)

pub pair_reads : {A B : Type 0} (c : Column A) (d : Column B) (fs : List Field) → folded (both c.step d.step) (c.start, d.start) fs ≡ (c.read fs >>= λ x. d.read fs >>= λ y. Some (x, y))
pair_reads {A} {B} c d fs = both-folded c.step d.step (c.start, d.start) fs ∙ ap (λ (o : Option A). o >>= λ x. folded d.step d.start fs >>= λ y. Some (x, y)) (c.reads fs) ∙ ap (λ (u : Option B). c.read fs >>= λ x. u >>= λ y. Some (x, y)) (d.reads fs)

pub pair_back : {A B : Type 0} (c : Column A) (d : Column B) → c.high < d.low → (a : A) (b : B) → (c.fits a && d.fits b) ≡ true → folded (both c.step d.step) (c.start, d.start) (c.write a ++ d.write b) ≡ Some (a, b)
pair_back c d apart a b h =
    let one : folded c.step c.start (c.write a) ≡ Some a = c.back a (and_left (c.fits a) (d.fits b) h) in
    let two : folded d.step d.start (d.write b) ≡ Some b = d.back b (and_right (c.fits a) (d.fits b) h) in
    let quiet : folded d.step d.start (c.write a) ≡ Some d.start = still d.step d.start (c.write a) (all_from (IsWithin c.low c.high) (λ f. d.step d.start f ≡ Some d.start) (λ f w. d.below d.start f (omega (arith, w.high_most))) (c.write a) (c.within a)) in
    let kept : folded c.step a (d.write b) ≡ Some a = still c.step a (d.write b) (all_from (IsWithin d.low d.high) (λ f. c.step a f ≡ Some a) (λ f w. c.above a f (omega (arith, w.low_most))) (d.write b) (d.within b)) in
    rw (folded-append (both c.step d.step) (c.start, d.start) (c.write a) (d.write b), both-folded c.step d.step (c.start, d.start) (c.write a), one, quiet, both-folded c.step d.step (a, d.start) (d.write b), kept, two) refl

pub wider : (l h m n : ℕ) (f : Field) → m ≤ l → h ≤ n → IsWithin l h f → IsWithin m n f
wider l h m n f p q w = record { low_most = omega (arith, w.low_most); high_most = omega (arith, w.high_most) }

pub pair_within : {A B : Type 0} (c : Column A) (d : Column B) → c.high < d.low → (a : A) (b : B) → AllByRecursion (IsWithin c.low d.high) (c.write a ++ d.write b)
pair_within c d apart a b = all_append (IsWithin c.low d.high) (c.write a) (d.write b)
    (all_from (IsWithin c.low c.high) (IsWithin c.low d.high) (λ f w. wider c.low c.high c.low d.high f (omega arith) (omega (arith, d.ordered)) w) (c.write a) (c.within a))
    (all_from (IsWithin d.low d.high) (IsWithin c.low d.high) (λ f w. wider d.low d.high c.low d.high f (omega (arith, c.ordered)) (omega arith) w) (d.write b) (d.within b))

pub rising_from : (m n : ℕ) (fs : List Field) → m ≤ n → IsRising n fs → IsRising m fs
rising_from m n [] le h = tt
rising_from m n (f ∷ fs) le h = (omega (arith, h.0), h.1)

pub within_from : (low m high : ℕ) (fs : List Field) → AllByRecursion (IsWithin low high) fs → IsRising m fs → AllByRecursion (IsWithin m high) fs
within_from low m high [] w h = tt
within_from low m high (f ∷ fs) w h = (record { low_most = h.0; high_most = w.0.high_most }, within_from low m high fs w.1 (rising_from m f.number fs h.0 h.1))

pub rising_append : (low high next : ℕ) (xs ys : List Field) → high < next → low ≤ high → AllByRecursion (IsWithin low high) xs → IsRising low xs → IsRising next ys → IsRising low (xs ++ ys)
rising_append low high next [] ys lt le w h k = rising_from low next ys (omega arith) k
rising_append low high next (f ∷ fs) ys lt le w h k = (h.0, rising_append f.number high next fs ys lt w.0.high_most (within_from low f.number high fs w.1 h.1) h.1 k)

pub pair_below : {A B : Type 0} (c : Column A) (d : Column B) → c.high < d.low → (p : A × B) (f : Field) → f.number < c.low → both c.step d.step p f ≡ Some p
pair_below c d apart p f lt = rw (c.below p.0 f lt, d.below p.1 f (omega (arith, c.ordered))) refl

pub pair_above : {A B : Type 0} (c : Column A) (d : Column B) → c.high < d.low → (p : A × B) (f : Field) → d.high < f.number → both c.step d.step p f ≡ Some p
pair_above c d apart p f lt = rw (c.above p.0 f (omega (arith, d.ordered)), d.above p.1 f lt) refl

pub pair_ordered : {A B : Type 0} (c : Column A) (d : Column B) → c.high < d.low → c.low ≤ d.high
pair_ordered c d apart = omega (arith, c.ordered, d.ordered)

pub apart_from : (m n : ℕ) → IsTrue (nat_lt m n) → m < n
apart_from m n h = ltb-true m n h

-- ---- a message: its columns under the names of its fields

pub seen-folded : {T M : Type 0} (step : T → Field → Option T) (of : T → M) (to : M → T) → ((t : T) → to (of t) ≡ t) → ((m : M) → of (to m) ≡ m) → (m : M) (fs : List Field) → folded (seen step of to) m fs ≡ (folded step (to m) fs >>= λ t. Some (of t))
unfolding folded
seen-folded {T} {M} step of to there again m [] = ap Some (sym (again m))
seen-folded {T} {M} step of to there again m (f ∷ fs) = go (λ n. seen-folded step of to there again n fs) (step (to m) f)
  where
    go : ((n : M) → folded (seen step of to) n fs ≡ (folded step (to n) fs >>= λ t. Some (of t))) → (o : Option T) → ((o >>= λ t. Some (of t)) >>= λ n. folded (seen step of to) n fs) ≡ ((o >>= λ t. folded step t fs) >>= λ t. Some (of t))
    go once None = refl
    go once (Some t) = once (of t) ∙ ap (λ (u : T). folded step u fs >>= λ v. Some (of v)) (there t)

pub message_reads : {T M : Type 0} (c : Column T) (of : T → M) (to : M → T) → ((t : T) → to (of t) ≡ t) → ((m : M) → of (to m) ≡ m) → (fs : List Field) → folded (seen c.step of to) (of c.start) fs ≡ (c.read fs >>= λ t. Some (of t))
message_reads {T} {M} c of to there again fs = seen-folded c.step of to there again (of c.start) fs ∙ ap (λ (t : T). folded c.step t fs >>= λ v. Some (of v)) (there c.start) ∙ ap (λ (o : Option T). o >>= λ v. Some (of v)) (c.reads fs)

pub message_still : {T M : Type 0} (c : Column T) (of : T → M) (to : M → T) → ((m : M) → of (to m) ≡ m) → (m : M) (f : Field) → c.step (to m) f ≡ Some (to m) → seen c.step of to m f ≡ Some m
message_still c of to again m f e = rw e (ap Some (again m))

pub message_back : {T M : Type 0} (c : Column T) (of : T → M) (to : M → T) → ((t : T) → to (of t) ≡ t) → ((m : M) → of (to m) ≡ m) → (m : M) → c.fits (to m) ≡ true → folded (seen c.step of to) (of c.start) (c.write (to m)) ≡ Some m
message_back {T} {M} c of to there again m h = seen-folded c.step of to there again (of c.start) (c.write (to m)) ∙ ap (λ (t : T). folded c.step t (c.write (to m)) >>= λ v. Some (of v)) (there c.start) ∙ ap (λ (o : Option T). o >>= λ v. Some (of v)) (c.back (to m) h) ∙ ap Some (again m)
