-- What is written, part by part.
use Rattle.std.proofs.Common.{◌≡◌, ℕ, zero, suc, ◌+◌, ◌-◌, ◌*◌, ◌/◌, ◌%◌, ◌<◌, ◌≤◌, arith, List, [], ◌∷◌, ◌++◌, map, take, length, true, refl, sym, ap, ◌∙◌, append_assoc}
use Rattle.std.proofs.lemmas.List.{append-nil, map-append}
use Rattle.std.proofs.lemmas.Bool.{le-ltb}
use Rattle.std.proofs.lemmas.List.Concat.{flat_map-append}
use Rattle.wire_format.specs.Grammar.{Field, Content, type_of}
use Rattle.wire_format.specs.Grammar.Content.{Body}
use Rattle.wire_format.specs.Writing.{varint_within, varint, content, field, spelling}
use Rattle.wire_format.specs.Columns.{at, Column}
use Rattle.wire_format.specs.ColumnLaws.{and_left, and_right}
use Rattle.wire_format.specs.Values.{body, fits_bytes, fits_body, fit_bodies}

pub spelling_none : spelling [] ≡ []
unfolding spelling
spelling_none = refl

pub spelling_append : (xs ys : List Field) → spelling (xs ++ ys) ≡ spelling xs ++ spelling ys
unfolding spelling
spelling_append xs ys = flat_map-append field xs ys

pub spelling_one : (n : ℕ) (c : Content) → spelling (at n c ∷ []) ≡ varint (n * 8 + type_of c) ++ content c
unfolding spelling field
spelling_one n c = append-nil (varint (n * 8 + type_of c) ++ content c)

pub spelling_more : (n : ℕ) (c : Content) (cs : List Content) → spelling (map (at n) (c ∷ cs)) ≡ spelling (at n c ∷ []) ++ spelling (map (at n) cs)
spelling_more n c cs = spelling_append (at n c ∷ []) (map (at n) cs)

pub nothing_after : (out : List ℕ) → out ≡ out ++ spelling []
nothing_after out = rw spelling_none (sym (append-nil out))

-- a key and a content behind what stood there
pub one_after : (out first second : List ℕ) (n : ℕ) (c : Content) → first ≡ out ++ varint (n * 8 + type_of c) → second ≡ first ++ content c → second ≡ out ++ spelling (at n c ∷ [])
one_after out first second n c p q = q ∙ ap (λ (x : List ℕ). x ++ content c) p ∙ append_assoc out (varint (n * 8 + type_of c)) (content c) ∙ ap (λ (x : List ℕ). out ++ x) (sym (spelling_one n c))

-- a key, a length and a body
pub body_after : (out first second third : List ℕ) (n : ℕ) (b : List ℕ) → first ≡ out ++ varint (n * 8 + 2) → second ≡ first ++ varint (length b) → third ≡ second ++ b → third ≡ out ++ spelling (at n (Body b) ∷ [])
body_after out first second third n b p q r = one_after out first third n (Body b) p (r ∙ ap (λ (x : List ℕ). x ++ b) q ∙ append_assoc first (varint (length b)) b)

-- the fields of two columns
pub both_after : (out first second : List ℕ) (xs ys : List Field) → first ≡ out ++ spelling xs → second ≡ first ++ spelling ys → second ≡ out ++ spelling (xs ++ ys)
both_after out first second xs ys p q = q ∙ ap (λ (x : List ℕ). x ++ spelling ys) p ∙ append_assoc out (spelling xs) (spelling ys) ∙ ap (λ (x : List ℕ). out ++ x) (sym (spelling_append xs ys))

-- the low seven bits, and the rest of the number
pub more_after : (out first second : List ℕ) (k v : ℕ) → 0 < k → 128 ≤ v → first ≡ out ++ ((v % 128 + 128) ∷ []) → second ≡ first ++ varint_within (k - 1) (v / 128) → second ≡ out ++ varint_within k v
unfolding varint_within
more_after out first second zero v lt le p q = absurd (omega arith)
more_after out first second (suc k) v lt le p q =
    let k-is : suc k - 1 ≡ k = omega arith in
    rw (le-ltb v 128 le) (q ∙ rw (k-is, p) (append_assoc out ((v % 128 + 128) ∷ []) (varint_within k (v / 128))))

-- one more message of a list
pub list_after : {M : Type 0} (c : Column M) (out first second : List ℕ) (n i : ℕ) (ms : List M) (m : M) → first ≡ out ++ spelling (map (at n) (map (body c) (take i ms))) → second ≡ first ++ spelling (at n (body c m) ∷ []) → take (i + 1) ms ≡ take i ms ++ m ∷ [] → second ≡ out ++ spelling (map (at n) (map (body c) (take (i + 1) ms)))
list_after {M} c out first second n i ms m p q e =
    let fields = λ (xs : List M). map (at n) (map (body c) xs) in
    let joined : fields (take (i + 1) ms) ≡ fields (take i ms) ++ at n (body c m) ∷ [] = ap fields e ∙ ap (map (at n)) (map-append (body c) (take i ms) (m ∷ [])) ∙ map-append (at n) (map (body c) (take i ms)) (body c m ∷ []) in
    rw joined (both_after out first second (fields (take i ms)) (at n (body c m) ∷ []) p q)

-- ---- what was written fits

pub fit_body : {M : Type 0} (c : Column M) (m : M) (bytes : List ℕ) → c.fits m ≡ true → bytes ≡ spelling (c.write m) → fits_bytes bytes ≡ true → fits_body c m ≡ true
fit_body c m bytes f e h = rw (f, ← e) h

pub fit_more : {M : Type 0} (c : Column M) (ms : List M) (m : M) → fit_bodies c ms ≡ true → fits_body c m ≡ true → fit_bodies c (ms ++ m ∷ []) ≡ true
fit_more c [] m h f = rw f refl
fit_more c (n ∷ ms) m h f = rw (and_left (fits_body c n) (fit_bodies c ms) h) (fit_more c ms m (and_right (fits_body c n) (fit_bodies c ms) h) f)
