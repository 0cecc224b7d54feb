-- Words ask for one thing at most.
use Rattle.std.proofs.Common.{◌≡◌, inl, inr, ◌<◌, ◌^◌, ◌-◌, ℕ, List, ◌∷◌, length, false, sym, ◌∙◌, ap, subst, refl, arith}
use Rattle.std.specs.Prelude.{codes}
use Rattle.std.specs.Str.{bytes_eq}
use Rattle.std.specs.Str.Parse.{digits_value}
use Rattle.std.proofs.lemmas.Bool.{false≢true}
use Rattle.std.proofs.lemmas.Fmt.{decimal_is_IsNumeral}
use Rattle.std.proofs.lemmas.Slice.Eq.{bytes_eq-Decides}
use Rattle.hex.proofs.HexLemmas.{decode_of-same}
use Rattle.tink_rewrap.specs.Rewrapping.{Sides}
use Rattle.tink_program_core.specs.Words.{Asked, IsBytesWord, IsNumberWord, IsSeedWord, KeygenWords, LargeWords, OpenWords, RangeWords, RewrapWords, RotateWords, SealWords, SignWords, SpellNothing, Spells, VerifyWords}
use Rattle.tink_program_core.specs.Words.Asked.{Making, Measuring, Opening, Ranging, Rewrapping, Rotating, Sealing, Signing, Verifying}

-- words that begin otherwise
apart : (words us vs : List (List ℕ)) (u v : List ℕ) → words ≡ u ∷ us → words ≡ v ∷ vs → bytes_eq u v ≡ false → ⊥
apart words us vs u v p q other =
    let both = sym p ∙ q in
    let same : u ≡ v = cc both in
    elim (false≢true (sym other ∙ (bytes_eq-Decides u v).1 same)) [ ]

-- ---- a word spells one value

bytes-same : (word xs ys : List ℕ) → IsBytesWord word xs → IsBytesWord word ys → xs ≡ ys
bytes-same word xs ys (inl p) (inl q) = p.1 ∙ sym q.1
bytes-same word xs ys (inl p) (inr q) = absurd (omega (arith, ap length p.0, q.0))
bytes-same word xs ys (inr p) (inl q) = absurd (omega (arith, ap length q.0, p.0))
bytes-same word xs ys (inr p) (inr q) = decode_of-same word xs ys p.1 q.1

-- the same of two words that are one
keysets-same : (v w xs ys : List ℕ) → v ≡ w → IsBytesWord v xs → IsBytesWord w ys → xs ≡ ys
keysets-same v w xs ys same p q = bytes-same v xs ys p (subst (λ x. IsBytesWord x ys) (sym same) q)

seeds-same : (v w s t : List ℕ) → v ≡ w → IsSeedWord v s → IsSeedWord w t → s ≡ t
seeds-same v w s t same p q = decode_of-same v s t p.1 (subst (λ x. IsSeedWord x t) (sym same) q).1

numbers-same : (most : ℕ) (v w : List ℕ) (n m : ℕ) → most < 2 ^ 64 → v ≡ w → IsNumberWord most v n → IsNumberWord most w m → n ≡ m
numbers-same most v w n m fits same p q =
    let digits = sym p.digits ∙ same ∙ q.digits in
    sym (decimal_is_IsNumeral n (omega (arith, fits, p.small))).1 ∙ ap (digits_value 10) digits ∙ (decimal_is_IsNumeral m (omega (arith, fits, q.small))).1

-- ---- the words of a command spell one thing

seal-same : (words : List (List ℕ)) (k a s l b t : List ℕ) → SealWords words k a s → SealWords words l b t → Sealing k a s ≡ Sealing l b t
seal-same words k a s l b t p q =
    let same = sym p.spelled ∙ q.spelled in
    let second : p.keyset_word ≡ q.keyset_word = cc same in
    let third : p.aad_word ≡ q.aad_word = cc same in
    let fourth : p.seed_word ≡ q.seed_word = cc same in
    rw (keysets-same p.keyset_word q.keyset_word k l second p.keyset_is q.keyset_is, keysets-same p.aad_word q.aad_word a b third p.aad_is q.aad_is, seeds-same p.seed_word q.seed_word s t fourth p.seed_is q.seed_is) refl

open-same : (words : List (List ℕ)) (k a l b : List ℕ) → OpenWords words k a → OpenWords words l b → Opening k a ≡ Opening l b
open-same words k a l b p q =
    let same = sym p.spelled ∙ q.spelled in
    let second : p.keyset_word ≡ q.keyset_word = cc same in
    let third : p.aad_word ≡ q.aad_word = cc same in
    rw (keysets-same p.keyset_word q.keyset_word k l second p.keyset_is q.keyset_is, keysets-same p.aad_word q.aad_word a b third p.aad_is q.aad_is) refl

keygen-same : (words : List (List ℕ)) (t s u v : List ℕ) → KeygenWords words t s → KeygenWords words u v → Making t s ≡ Making u v
keygen-same words t s u v p q =
    let same = sym p.spelled ∙ q.spelled in
    let second : t ≡ u = cc same in
    let third : p.seed_word ≡ q.seed_word = cc same in
    rw (second, seeds-same p.seed_word q.seed_word s v third p.seed_is q.seed_is) refl

rotate-same : (words : List (List ℕ)) (k t s l u v : List ℕ) → RotateWords words k t s → RotateWords words l u v → Rotating k t s ≡ Rotating l u v
rotate-same words k t s l u v p q =
    let same = sym p.spelled ∙ q.spelled in
    let second : p.keyset_word ≡ q.keyset_word = cc same in
    let third : t ≡ u = cc same in
    let fourth : p.seed_word ≡ q.seed_word = cc same in
    rw (keysets-same p.keyset_word q.keyset_word k l second p.keyset_is q.keyset_is, third, seeds-same p.seed_word q.seed_word s v fourth p.seed_is q.seed_is) refl

large-same : (words : List (List ℕ)) (n m : ℕ) → LargeWords words n → LargeWords words m → Measuring n ≡ Measuring m
large-same words n m p q =
    let same = sym p.spelled ∙ q.spelled in
    let second : p.number_word ≡ q.number_word = cc same in
    ap (λ x. Measuring x) (numbers-same 999999 p.number_word q.number_word n m (omega arith) second p.number_is q.number_is)

range-same : (words : List (List ℕ)) (k a l b : List ℕ) (i n j m : ℕ) → RangeWords words k a i n → RangeWords words l b j m → Ranging k a i n ≡ Ranging l b j m
range-same words k a l b i n j m p q =
    let same = sym p.spelled ∙ q.spelled in
    let second : p.keyset_word ≡ q.keyset_word = cc same in
    let third : p.aad_word ≡ q.aad_word = cc same in
    let fourth : p.start_word ≡ q.start_word = cc same in
    let fifth : p.len_word ≡ q.len_word = cc same in
    let start_is = numbers-same (2 ^ 64 - 1) p.start_word q.start_word i j (omega arith) fourth p.start_is q.start_is in
    let len_is = numbers-same (2 ^ 64 - 1) p.len_word q.len_word n m (omega arith) fifth p.len_is q.len_is in
    rw (keysets-same p.keyset_word q.keyset_word k l second p.keyset_is q.keyset_is, keysets-same p.aad_word q.aad_word a b third p.aad_is q.aad_is, start_is, len_is) refl

sign-same : (words : List (List ℕ)) (k l : List ℕ) → SignWords words k → SignWords words l → Signing k ≡ Signing l
sign-same words k l p q =
    let same = sym p.spelled ∙ q.spelled in
    let second : p.keyset_word ≡ q.keyset_word = cc same in
    ap (λ x. Signing x) (keysets-same p.keyset_word q.keyset_word k l second p.keyset_is q.keyset_is)

verify-same : (words : List (List ℕ)) (k l : List ℕ) → VerifyWords words k → VerifyWords words l → Verifying k ≡ Verifying l
verify-same words k l p q =
    let same = sym p.spelled ∙ q.spelled in
    let second : p.keyset_word ≡ q.keyset_word = cc same in
    ap (λ x. Verifying x) (keysets-same p.keyset_word q.keyset_word k l second p.keyset_is q.keyset_is)

pub sides-same : (a b c d e f g h : List ℕ) → a ≡ e → b ≡ f → c ≡ g → d ≡ h
    → ◌≡◌ {A = Sides} (record { from = a; from_aad = b; to = c; to_aad = d }) (record { from = e; from_aad = f; to = g; to_aad = h })
sides-same a b c d e f g h p q r s = rw (p, q, r, s) refl

rewrap-same : (words : List (List ℕ)) (s u : Sides) (t v : List ℕ) → RewrapWords words s t → RewrapWords words u v → Rewrapping s t ≡ Rewrapping u v
rewrap-same words s u t v p q =
    let same = sym p.spelled ∙ q.spelled in
    let second : p.from_word ≡ q.from_word = cc same in
    let third : p.from_aad_word ≡ q.from_aad_word = cc same in
    let fourth : p.to_word ≡ q.to_word = cc same in
    let fifth : p.to_aad_word ≡ q.to_aad_word = cc same in
    let sixth : p.seed_word ≡ q.seed_word = cc same in
    let sides : s ≡ u = sides-same s.from s.from_aad s.to s.to_aad u.from u.from_aad u.to u.to_aad
    (keysets-same p.from_word q.from_word s.from u.from second p.from_is q.from_is)
    (keysets-same p.from_aad_word q.from_aad_word s.from_aad u.from_aad third p.from_aad_is q.from_aad_is)
    (keysets-same p.to_word q.to_word s.to u.to fourth p.to_is q.to_is)
    (keysets-same p.to_aad_word q.to_aad_word s.to_aad u.to_aad fifth p.to_aad_is q.to_aad_is) in
    ap (λ x. Rewrapping x t) sides ∙ ap (λ x. Rewrapping u x) (seeds-same p.seed_word q.seed_word t v sixth p.seed_is q.seed_is)

-- ---- and those of two commands differ

pub one_asked : (words : List (List ℕ)) (a b : Asked) → Spells words a → Spells words b → a ≡ b
one_asked words (Sealing k a s) (Sealing l b t) p q = seal-same words k a s l b t p q
one_asked words (Opening k a) (Opening l b) p q = open-same words k a l b p q
one_asked words (Making t s) (Making u v) p q = keygen-same words t s u v p q
one_asked words (Rotating k t s) (Rotating l u v) p q = rotate-same words k t s l u v p q
one_asked words (Measuring n) (Measuring m) p q = large-same words n m p q
one_asked words (Ranging k a i n) (Ranging l b j m) p q = range-same words k a l b i n j m p q
one_asked words (Signing k) (Signing l) p q = sign-same words k l p q
one_asked words (Verifying k) (Verifying l) p q = verify-same words k l p q
one_asked words (Rewrapping s t) (Rewrapping u v) p q = rewrap-same words s u t v p q
one_asked words _ _ p q = absurd (apart words _ _ _ _ p.spelled q.spelled refl)

-- what holds of what the words ask for
pub along : (P : Asked → Type 0) (words : List (List ℕ)) (a b : Asked) → Spells words a → Spells words b → P a → P b
along P words a b p q holds = subst P (one_asked words a b p q) holds

-- ---- behind the name of a command stands no other

pub only_seal : (xs : List (List ℕ)) → ((k a s : List ℕ) → SealWords (codes "seal" ∷ xs) k a s → ⊥) → SpellNothing (codes "seal" ∷ xs)
only_seal xs none = λ asked. by_asked asked
  where
    by_asked : (asked : Asked) → Spells (codes "seal" ∷ xs) asked → ⊥
    by_asked (Sealing k a s) p = none k a s p
    by_asked _ p = apart _ _ _ _ _ refl p.spelled refl

pub only_open : (xs : List (List ℕ)) → ((k a : List ℕ) → OpenWords (codes "open" ∷ xs) k a → ⊥) → SpellNothing (codes "open" ∷ xs)
only_open xs none = λ asked. by_asked asked
  where
    by_asked : (asked : Asked) → Spells (codes "open" ∷ xs) asked → ⊥
    by_asked (Opening k a) p = none k a p
    by_asked _ p = apart _ _ _ _ _ refl p.spelled refl

pub only_keygen : (xs : List (List ℕ)) → ((t s : List ℕ) → KeygenWords (codes "keygen" ∷ xs) t s → ⊥) → SpellNothing (codes "keygen" ∷ xs)
only_keygen xs none = λ asked. by_asked asked
  where
    by_asked : (asked : Asked) → Spells (codes "keygen" ∷ xs) asked → ⊥
    by_asked (Making t s) p = none t s p
    by_asked _ p = apart _ _ _ _ _ refl p.spelled refl

pub only_rotate : (xs : List (List ℕ)) → ((k t s : List ℕ) → RotateWords (codes "rotate" ∷ xs) k t s → ⊥) → SpellNothing (codes "rotate" ∷ xs)
only_rotate xs none = λ asked. by_asked asked
  where
    by_asked : (asked : Asked) → Spells (codes "rotate" ∷ xs) asked → ⊥
    by_asked (Rotating k t s) p = none k t s p
    by_asked _ p = apart _ _ _ _ _ refl p.spelled refl

pub only_large : (xs : List (List ℕ)) → ((n : ℕ) → LargeWords (codes "large" ∷ xs) n → ⊥) → SpellNothing (codes "large" ∷ xs)
only_large xs none = λ asked. by_asked asked
  where
    by_asked : (asked : Asked) → Spells (codes "large" ∷ xs) asked → ⊥
    by_asked (Measuring n) p = none n p
    by_asked _ p = apart _ _ _ _ _ refl p.spelled refl

pub only_range : (xs : List (List ℕ)) → ((k a : List ℕ) (i n : ℕ) → RangeWords (codes "range" ∷ xs) k a i n → ⊥) → SpellNothing (codes "range" ∷ xs)
only_range xs none = λ asked. by_asked asked
  where
    by_asked : (asked : Asked) → Spells (codes "range" ∷ xs) asked → ⊥
    by_asked (Ranging k a i n) p = none k a i n p
    by_asked _ p = apart _ _ _ _ _ refl p.spelled refl

pub only_sign : (xs : List (List ℕ)) → ((k : List ℕ) → SignWords (codes "sign" ∷ xs) k → ⊥) → SpellNothing (codes "sign" ∷ xs)
only_sign xs none = λ asked. by_asked asked
  where
    by_asked : (asked : Asked) → Spells (codes "sign" ∷ xs) asked → ⊥
    by_asked (Signing k) p = none k p
    by_asked _ p = apart _ _ _ _ _ refl p.spelled refl

pub only_verify : (xs : List (List ℕ)) → ((k : List ℕ) → VerifyWords (codes "verify" ∷ xs) k → ⊥) → SpellNothing (codes "verify" ∷ xs)
only_verify xs none = λ asked. by_asked asked
  where
    by_asked : (asked : Asked) → Spells (codes "verify" ∷ xs) asked → ⊥
    by_asked (Verifying k) p = none k p
    by_asked _ p = apart _ _ _ _ _ refl p.spelled refl

pub only_rewrap : (xs : List (List ℕ)) → ((s : Sides) (t : List ℕ) → RewrapWords (codes "rewrap" ∷ xs) s t → ⊥) → SpellNothing (codes "rewrap" ∷ xs)
only_rewrap xs none = λ asked. by_asked asked
  where
    by_asked : (asked : Asked) → Spells (codes "rewrap" ∷ xs) asked → ⊥
    by_asked (Rewrapping s t) p = none s t p
    by_asked _ p = apart _ _ _ _ _ refl p.spelled refl
