-- Words, and what they spell.
use Rattle.std.proofs.Common.{◌≡◌, ◌+◌, ◌<◌, ◌≤◌, ◌^◌, ◌-◌, ℕ, zero, suc, List, [], ◌∷◌, length, map, drop, take, take_all, get_or, refl, sym, ◌∙◌, ap, subst, arith, Global}
use Rattle.std.specs.Prelude.{String, string_bytes, codes, Result, Ok, Err, IfOk, IfErr, IfSome, IfNone}
use Rattle.tink_io.specs.declared.error.Kind.TheVariants.{OutOfMemory}
use Rattle.hex.specs.Hex.{decode_sized}
use Rattle.hex.specs.declared.error.FromHexError.{FromHexError}
use Rattle.hex.proofs.HexLemmas.{decode_sized-ok, decode_sized-twice}
use Rattle.tink_program_core.specs.declared.words.Parsed.{Parsed}
use Rattle.tink_program_core.specs.declared.words.Unread.{Unread}
use Rattle.tink_program_core.specs.declared.words.Unread.TheVariants.{NoMemory, Nothing}
use Rattle.tink_program_core.specs.Words.{Asked, IsBytesWord, IsNumberWord, WordsAreRead, IsReadAs, IsSeedWord, WhyUnread, KeygenWords, OpenWords, RangeWords, RewrapWords, RotateWords, SealWords, SignWords, SpellNothing, Spells, VerifyWords, told}
use Rattle.tink_program_core.specs.Words.Asked.{Making, Measuring, Opening, Ranging, Rewrapping, Rotating, Sealing, Signing, Verifying}
use Rattle.tink_program_core.proofs.Spelling.{only_keygen, only_large, only_open, only_range, only_rewrap, only_rotate, only_seal, only_sign, only_verify}
use Rattle.tink_rewrap.specs.Rewrapping.{Sides}

abbrev pub texts : List (String Global) → List (List ℕ)
texts ws = map (λ w. string_bytes w) ws

-- the text of the word at a place, with so many behind it
pub text_at : (ws : List (String Global)) (n more : ℕ) (w : String Global) (text : List ℕ) → n + more + 1 ≤ length ws → w ≡ get_or ws n w → text ≡ string_bytes w → get_or (texts ws) n [] ≡ text
text_at [] n more w text long is value = absurd (omega arith)
text_at (v ∷ vs) zero more w text long is value = ap string_bytes (sym is) ∙ sym value
text_at (v ∷ vs) (suc n) more w text long is value = text_at vs n more w text (omega (arith, long)) is value

exactly : (ws : List (String Global)) (n : ℕ) → n ≤ length ws → length ws < n + 1 → length (texts ws) ≡ n
exactly [] n long short = omega (arith, long)
exactly (w ∷ ws) zero long short = absurd (omega (arith, short))
exactly (w ∷ ws) (suc n) long short = ap suc (exactly ws n (omega (arith, long)) (omega (arith, short)))

one_word : (xs : List (List ℕ)) (a : List ℕ) → length xs ≡ 1 → get_or xs 0 [] ≡ a → xs ≡ a ∷ []
one_word [] a l p = absurd (omega (arith, l))
one_word (x ∷ []) a l p = ap (λ w. w ∷ []) p
one_word (x ∷ y ∷ xs) a l p = absurd (omega (arith, l))

two_words : (xs : List (List ℕ)) (a b : List ℕ) → length xs ≡ 2 → get_or xs 0 [] ≡ a → get_or xs 1 [] ≡ b → xs ≡ a ∷ b ∷ []
two_words [] a b l p q = absurd (omega (arith, l))
two_words (x ∷ xs) a b l p q = ap (λ w. w ∷ xs) p ∙ ap (λ ys. a ∷ ys) (one_word xs b (omega (arith, l)) q)

three_words : (xs : List (List ℕ)) (a b c : List ℕ) → length xs ≡ 3 → get_or xs 0 [] ≡ a → get_or xs 1 [] ≡ b → get_or xs 2 [] ≡ c → xs ≡ a ∷ b ∷ c ∷ []
three_words [] a b c l p q r = absurd (omega (arith, l))
three_words (x ∷ xs) a b c l p q r = ap (λ w. w ∷ xs) p ∙ ap (λ ys. a ∷ ys) (two_words xs b c (omega (arith, l)) q r)

four_words : (xs : List (List ℕ)) (a b c d : List ℕ) → length xs ≡ 4 → get_or xs 0 [] ≡ a → get_or xs 1 [] ≡ b → get_or xs 2 [] ≡ c → get_or xs 3 [] ≡ d → xs ≡ a ∷ b ∷ c ∷ d ∷ []
four_words [] a b c d l p q r s = absurd (omega (arith, l))
four_words (x ∷ xs) a b c d l p q r s = ap (λ w. w ∷ xs) p ∙ ap (λ ys. a ∷ ys) (three_words xs b c d (omega (arith, l)) q r s)

five_words : (xs : List (List ℕ)) (a b c d e : List ℕ) → length xs ≡ 5 → get_or xs 0 [] ≡ a → get_or xs 1 [] ≡ b → get_or xs 2 [] ≡ c → get_or xs 3 [] ≡ d → get_or xs 4 [] ≡ e → xs ≡ a ∷ b ∷ c ∷ d ∷ e ∷ []
five_words [] a b c d e l p q r s u = absurd (omega (arith, l))
five_words (x ∷ xs) a b c d e l p q r s u = ap (λ w. w ∷ xs) p ∙ ap (λ ys. a ∷ ys) (four_words xs b c d e (omega (arith, l)) q r s u)

-- sixty-four digits are those of 32 bytes
pub seed_word : (word seed : List ℕ) → decode_sized word 32 ≡ Ok seed → IsSeedWord word seed
seed_word word seed is = let long = decode_sized-ok word 32 seed is in (long, sym (decode_sized-twice word 32 long) ∙ is)

pub seed_decodes : (word seed : List ℕ) → IsSeedWord word seed → decode_sized word 32 ≡ Ok seed
seed_decodes word seed spelled = decode_sized-twice word 32 spelled.0 ∙ spelled.1

-- the word at a place behind the name
behind : (name : List ℕ) (xs spelling : List (List ℕ)) (n : ℕ) (text : List ℕ) → get_or xs n [] ≡ text → name ∷ xs ≡ spelling → get_or spelling (suc n) [] ≡ text
behind name xs spelling n text is spelled = ap (λ ys. get_or ys (suc n) []) (sym spelled) ∙ is

bytes_behind : (name : List ℕ) (xs spelling : List (List ℕ)) (n : ℕ) (text bytes : List ℕ) → get_or xs n [] ≡ text → name ∷ xs ≡ spelling → IsBytesWord (get_or spelling (suc n) []) bytes → IsBytesWord text bytes
bytes_behind name xs spelling n text bytes is spelled word = subst (λ w. IsBytesWord w bytes) (behind name xs spelling n text is spelled) word

seedless_behind : (name : List ℕ) (xs spelling : List (List ℕ)) (n : ℕ) (text seed : List ℕ) (e : FromHexError) → get_or xs n [] ≡ text → decode_sized text 32 ≡ Err e → name ∷ xs ≡ spelling
    → IsSeedWord (get_or spelling (suc n) []) seed → ⊥
seedless_behind name xs spelling n text seed e is refused spelled word =
    let both = sym refused ∙ seed_decodes text seed (subst (λ w. IsSeedWord w seed) (behind name xs spelling n text is spelled) word) in cc both

-- ---- what stands behind each name

pub seal_found : (ws : List (String Global)) (t u v keyset aad seed : List ℕ) → 3 ≤ length ws → length ws < 4 → get_or (texts ws) 0 [] ≡ t → get_or (texts ws) 1 [] ≡ u → get_or (texts ws) 2 [] ≡ v
    → decode_sized v 32 ≡ Ok seed → IsBytesWord t keyset × IsBytesWord u aad → SealWords (codes "seal" ∷ texts ws) keyset aad seed
seal_found ws t u v keyset aad seed long short p q r decodes is = record {
  keyset_word = t;
  aad_word = u;
  seed_word = v;
  spelled = ap (λ xs. codes "seal" ∷ xs) (three_words (texts ws) t u v (exactly ws 3 long short) p q r);
  keyset_is = is.0;
  aad_is = is.1;
  seed_is = seed_word v seed decodes;
}

pub seal_none : (ws : List (String Global)) (t u : List ℕ) → get_or (texts ws) 0 [] ≡ t → get_or (texts ws) 1 [] ≡ u
    → ((v w : List ℕ) → IsBytesWord t v → IsBytesWord u w → ⊥) → SpellNothing (codes "seal" ∷ texts ws)
seal_none ws t u p q none = only_seal (texts ws) (λ k a s h.
    none k a (bytes_behind _ _ _ 0 t k p h.spelled h.keyset_is) (bytes_behind _ _ _ 1 u a q h.spelled h.aad_is))

pub seal_no_seed : (ws : List (String Global)) (t : List ℕ) (e : FromHexError) → get_or (texts ws) 2 [] ≡ t → decode_sized t 32 ≡ Err e → SpellNothing (codes "seal" ∷ texts ws)
seal_no_seed ws t e p refused = only_seal (texts ws) (λ k a s h. seedless_behind _ _ _ 2 t s e p refused h.spelled h.seed_is)

pub open_found : (ws : List (String Global)) (t u keyset aad : List ℕ) → 2 ≤ length ws → length ws < 3 → get_or (texts ws) 0 [] ≡ t → get_or (texts ws) 1 [] ≡ u
    → IsBytesWord t keyset × IsBytesWord u aad → OpenWords (codes "open" ∷ texts ws) keyset aad
open_found ws t u keyset aad long short p q is = record {
  keyset_word = t;
  aad_word = u;
  spelled = ap (λ xs. codes "open" ∷ xs) (two_words (texts ws) t u (exactly ws 2 long short) p q);
  keyset_is = is.0;
  aad_is = is.1;
}

pub open_none : (ws : List (String Global)) (t u : List ℕ) → get_or (texts ws) 0 [] ≡ t → get_or (texts ws) 1 [] ≡ u
    → ((v w : List ℕ) → IsBytesWord t v → IsBytesWord u w → ⊥) → SpellNothing (codes "open" ∷ texts ws)
open_none ws t u p q none = only_open (texts ws) (λ k a h.
    none k a (bytes_behind _ _ _ 0 t k p h.spelled h.keyset_is) (bytes_behind _ _ _ 1 u a q h.spelled h.aad_is))

pub keygen_found : (ws : List (String Global)) (t u template seed : List ℕ) → 2 ≤ length ws → length ws < 3 → get_or (texts ws) 0 [] ≡ t → get_or (texts ws) 1 [] ≡ u
    → decode_sized u 32 ≡ Ok seed → template ≡ t → KeygenWords (codes "keygen" ∷ texts ws) template seed
keygen_found ws t u template seed long short p q decodes same = record {
  seed_word = u;
  spelled = ap (λ xs. codes "keygen" ∷ xs) (two_words (texts ws) template u (exactly ws 2 long short) (p ∙ sym same) q);
  seed_is = seed_word u seed decodes;
}

pub keygen_no_seed : (ws : List (String Global)) (t : List ℕ) (e : FromHexError) → get_or (texts ws) 1 [] ≡ t → decode_sized t 32 ≡ Err e → SpellNothing (codes "keygen" ∷ texts ws)
keygen_no_seed ws t e p refused = only_keygen (texts ws) (λ u s h. seedless_behind _ _ _ 1 t s e p refused h.spelled h.seed_is)

pub rotate_found : (ws : List (String Global)) (t u v keyset template seed : List ℕ) → 3 ≤ length ws → length ws < 4 → get_or (texts ws) 0 [] ≡ t → get_or (texts ws) 1 [] ≡ u → get_or (texts ws) 2 [] ≡ v
    → decode_sized v 32 ≡ Ok seed → template ≡ u → IsBytesWord t keyset → RotateWords (codes "rotate" ∷ texts ws) keyset template seed
rotate_found ws t u v keyset template seed long short p q r decodes same is = record {
  keyset_word = t;
  seed_word = v;
  spelled = ap (λ xs. codes "rotate" ∷ xs) (three_words (texts ws) t template v (exactly ws 3 long short) p (q ∙ sym same) r);
  keyset_is = is;
  seed_is = seed_word v seed decodes;
}

pub rotate_none : (ws : List (String Global)) (t : List ℕ) → get_or (texts ws) 0 [] ≡ t → ((v : List ℕ) → IsBytesWord t v → ⊥) → SpellNothing (codes "rotate" ∷ texts ws)
rotate_none ws t p none = only_rotate (texts ws) (λ k u s h. none k (bytes_behind _ _ _ 0 t k p h.spelled h.keyset_is))

pub rotate_no_seed : (ws : List (String Global)) (t : List ℕ) (e : FromHexError) → get_or (texts ws) 2 [] ≡ t → decode_sized t 32 ≡ Err e → SpellNothing (codes "rotate" ∷ texts ws)
rotate_no_seed ws t e p refused = only_rotate (texts ws) (λ k u s h. seedless_behind _ _ _ 2 t s e p refused h.spelled h.seed_is)

pub large_none : (ws : List (String Global)) (t : List ℕ) → get_or (texts ws) 0 [] ≡ t → ((n : ℕ) → IsNumberWord 999999 t n → ⊥) → SpellNothing (codes "large" ∷ texts ws)
large_none ws t p none = only_large (texts ws) (λ n h. none n (subst (λ w. IsNumberWord 999999 w n) (behind _ _ _ 0 t p h.spelled) h.number_is))

pub range_found : (ws : List (String Global)) (t u v w keyset aad : List ℕ) (start len : ℕ) → 4 ≤ length ws → length ws < 5 → get_or (texts ws) 0 [] ≡ t → get_or (texts ws) 1 [] ≡ u → get_or (texts ws) 2 [] ≡ v → get_or (texts ws) 3 [] ≡ w
    → IsNumberWord (2 ^ 64 - 1) v start → IsNumberWord (2 ^ 64 - 1) w len → IsBytesWord t keyset × IsBytesWord u aad → RangeWords (codes "range" ∷ texts ws) keyset aad start len
range_found ws t u v w keyset aad start len long short p q r s start_is len_is is = record {
  keyset_word = t;
  aad_word = u;
  start_word = v;
  len_word = w;
  spelled = ap (λ xs. codes "range" ∷ xs) (four_words (texts ws) t u v w (exactly ws 4 long short) p q r s);
  keyset_is = is.0;
  aad_is = is.1;
  start_is = start_is;
  len_is = len_is;
}

pub range_none : (ws : List (String Global)) (t u : List ℕ) → get_or (texts ws) 0 [] ≡ t → get_or (texts ws) 1 [] ≡ u
    → ((v w : List ℕ) → IsBytesWord t v → IsBytesWord u w → ⊥) → SpellNothing (codes "range" ∷ texts ws)
range_none ws t u p q none = only_range (texts ws) (λ k a i n h.
    none k a (bytes_behind _ _ _ 0 t k p h.spelled h.keyset_is) (bytes_behind _ _ _ 1 u a q h.spelled h.aad_is))

-- neither of the two numbers of a range: that at place n
pub range_no_start : (ws : List (String Global)) (t : List ℕ) → get_or (texts ws) 2 [] ≡ t → ((n : ℕ) → IsNumberWord (2 ^ 64 - 1) t n → ⊥) → SpellNothing (codes "range" ∷ texts ws)
range_no_start ws t p none = only_range (texts ws) (λ k a i n h. none i (subst (λ w. IsNumberWord (2 ^ 64 - 1) w i) (behind _ _ _ 2 t p h.spelled) h.start_is))

pub range_no_len : (ws : List (String Global)) (t : List ℕ) → get_or (texts ws) 3 [] ≡ t → ((n : ℕ) → IsNumberWord (2 ^ 64 - 1) t n → ⊥) → SpellNothing (codes "range" ∷ texts ws)
range_no_len ws t p none = only_range (texts ws) (λ k a i n h. none n (subst (λ w. IsNumberWord (2 ^ 64 - 1) w n) (behind _ _ _ 3 t p h.spelled) h.len_is))

pub sign_found : (ws : List (String Global)) (t keyset : List ℕ) → 1 ≤ length ws → length ws < 2 → get_or (texts ws) 0 [] ≡ t → IsBytesWord t keyset → SignWords (codes "sign" ∷ texts ws) keyset
sign_found ws t keyset long short p is = record {
  keyset_word = t;
  spelled = ap (λ xs. codes "sign" ∷ xs) (one_word (texts ws) t (exactly ws 1 long short) p);
  keyset_is = is;
}

pub sign_none : (ws : List (String Global)) (t : List ℕ) → get_or (texts ws) 0 [] ≡ t → ((v : List ℕ) → IsBytesWord t v → ⊥) → SpellNothing (codes "sign" ∷ texts ws)
sign_none ws t p none = only_sign (texts ws) (λ k h. none k (bytes_behind _ _ _ 0 t k p h.spelled h.keyset_is))

pub verify_found : (ws : List (String Global)) (t keyset : List ℕ) → 1 ≤ length ws → length ws < 2 → get_or (texts ws) 0 [] ≡ t → IsBytesWord t keyset → VerifyWords (codes "verify" ∷ texts ws) keyset
verify_found ws t keyset long short p is = record {
  keyset_word = t;
  spelled = ap (λ xs. codes "verify" ∷ xs) (one_word (texts ws) t (exactly ws 1 long short) p);
  keyset_is = is;
}

pub verify_none : (ws : List (String Global)) (t : List ℕ) → get_or (texts ws) 0 [] ≡ t → ((v : List ℕ) → IsBytesWord t v → ⊥) → SpellNothing (codes "verify" ∷ texts ws)
verify_none ws t p none = only_verify (texts ws) (λ k h. none k (bytes_behind _ _ _ 0 t k p h.spelled h.keyset_is))

pub rewrap_found : (ws : List (String Global)) (t u v w x : List ℕ) (sides : Sides) (seed : List ℕ) → 5 ≤ length ws → length ws < 6
    → get_or (texts ws) 0 [] ≡ t → get_or (texts ws) 1 [] ≡ u → get_or (texts ws) 2 [] ≡ v → get_or (texts ws) 3 [] ≡ w → get_or (texts ws) 4 [] ≡ x
    → decode_sized x 32 ≡ Ok seed → IsBytesWord t sides.from × IsBytesWord u sides.from_aad → IsBytesWord v sides.to × IsBytesWord w sides.to_aad → RewrapWords (codes "rewrap" ∷ texts ws) sides seed
rewrap_found ws t u v w x sides seed long short p q r s y decodes from to = record {
  from_word = t;
  from_aad_word = u;
  to_word = v;
  to_aad_word = w;
  seed_word = x;
  spelled = ap (λ xs. codes "rewrap" ∷ xs) (five_words (texts ws) t u v w x (exactly ws 5 long short) p q r s y);
  from_is = from.0;
  from_aad_is = from.1;
  to_is = to.0;
  to_aad_is = to.1;
  seed_is = seed_word x seed decodes;
}

pub rewrap_no_seed : (ws : List (String Global)) (t : List ℕ) (e : FromHexError) → get_or (texts ws) 4 [] ≡ t → decode_sized t 32 ≡ Err e → SpellNothing (codes "rewrap" ∷ texts ws)
rewrap_no_seed ws t e p refused = only_rewrap (texts ws) (λ sides s h. seedless_behind _ _ _ 4 t s e p refused h.spelled h.seed_is)

pub rewrap_no_from : (ws : List (String Global)) (t u : List ℕ) → get_or (texts ws) 0 [] ≡ t → get_or (texts ws) 1 [] ≡ u
    → ((v w : List ℕ) → IsBytesWord t v → IsBytesWord u w → ⊥) → SpellNothing (codes "rewrap" ∷ texts ws)
rewrap_no_from ws t u p q none = only_rewrap (texts ws) (λ sides s h.
    none sides.from sides.from_aad (bytes_behind _ _ _ 0 t _ p h.spelled h.from_is) (bytes_behind _ _ _ 1 u _ q h.spelled h.from_aad_is))

pub rewrap_no_to : (ws : List (String Global)) (t u : List ℕ) → get_or (texts ws) 2 [] ≡ t → get_or (texts ws) 3 [] ≡ u
    → ((v w : List ℕ) → IsBytesWord t v → IsBytesWord u w → ⊥) → SpellNothing (codes "rewrap" ∷ texts ws)
rewrap_no_to ws t u p q none = only_rewrap (texts ws) (λ sides s h.
    none sides.to sides.to_aad (bytes_behind _ _ _ 2 t _ p h.spelled h.to_is) (bytes_behind _ _ _ 3 u _ q h.spelled h.to_aad_is))

-- ---- what is read

-- why one thing was not read is why another was not
pub unread_by : {A B : Type 0} (e : Unread) → WhyUnread A e → (A → B) → WhyUnread B e
unread_by Nothing absent leads = leads absent
unread_by NoMemory absent leads = tt

-- what stands behind a name is read with it
pub read_by : (ws : List (String Global)) (w : String Global) (text name : List ℕ) (answer : Result (Parsed × List ℕ) Unread) → 1 ≤ length ws → w ≡ get_or ws 0 w → text ≡ string_bytes w → text ≡ name
    → WordsAreRead (name ∷ texts (take (length ws - 1) (drop 1 ws))) answer → WordsAreRead (texts ws) answer
read_by [] w text name answer long is value same read = absurd (omega (arith, long))
read_by (v ∷ vs) w text name answer long is value same read =
    let whole : take (length (v ∷ vs) - 1) vs ≡ vs = take_all (length (v ∷ vs) - 1) vs (omega arith) in
    subst (λ n. WordsAreRead (n ∷ texts vs) answer) (sym same ∙ value ∙ ap string_bytes is) (subst (λ us. WordsAreRead (name ∷ texts us) answer) whole read)

-- words with another name spell nothing
pub unnamed : (ws : List (String Global)) (w : String Global) (text : List ℕ) → 1 ≤ length ws → w ≡ get_or ws 0 w → text ≡ string_bytes w
    → (text ≡ codes "seal" → ⊥) → (text ≡ codes "open" → ⊥) → (text ≡ codes "keygen" → ⊥) → (text ≡ codes "rotate" → ⊥) → (text ≡ codes "large" → ⊥) → (text ≡ codes "range" → ⊥)
    → (text ≡ codes "sign" → ⊥) → (text ≡ codes "verify" → ⊥) → (text ≡ codes "rewrap" → ⊥) → SpellNothing (texts ws)
unnamed ws w text long is value no_seal no_open no_keygen no_rotate no_large no_range no_sign no_verify no_rewrap = λ asked. by_asked asked
  where
    named : (name : List ℕ) (rest : List (List ℕ)) → texts ws ≡ name ∷ rest → text ≡ name
    named name rest spelled = sym (text_at ws 0 0 w text long is value) ∙ ap (λ xs. get_or xs 0 []) spelled

    by_asked : (asked : Asked) → Spells (texts ws) asked → ⊥
    by_asked (Sealing k a s) p = no_seal (named _ _ p.spelled)
    by_asked (Opening k a) p = no_open (named _ _ p.spelled)
    by_asked (Making t s) p = no_keygen (named _ _ p.spelled)
    by_asked (Rotating k t s) p = no_rotate (named _ _ p.spelled)
    by_asked (Measuring n) p = no_large (named _ _ p.spelled)
    by_asked (Ranging k a i n) p = no_range (named _ _ p.spelled)
    by_asked (Signing k) p = no_sign (named _ _ p.spelled)
    by_asked (Verifying k) p = no_verify (named _ _ p.spelled)
    by_asked (Rewrapping s t) p = no_rewrap (named _ _ p.spelled)

pub told_found : {T : Type 0} (Is : T → Type 0) (Absent : Type 0) (r : Result T Unread) → IsReadAs Is Absent r → IfOk (told r) (λ o. IfSome o Is)
told_found Is Absent (Ok value) read = read
told_found Is Absent (Err Nothing) read = tt
told_found Is Absent (Err NoMemory) read = tt

pub told_none : {T : Type 0} (Is : T → Type 0) (Absent : Type 0) (r : Result T Unread) → IsReadAs Is Absent r → IfOk (told r) (λ o. IfNone o Absent)
told_none Is Absent (Ok value) read = tt
told_none Is Absent (Err Nothing) read = read
told_none Is Absent (Err NoMemory) read = tt

pub told_refused : {T : Type 0} (r : Result T Unread) → IfErr (told r) (λ e. e ≡ record { kind = OutOfMemory })
told_refused (Ok value) = tt
told_refused (Err Nothing) = tt
told_refused (Err NoMemory) = refl
