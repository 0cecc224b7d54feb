-- Reading gives exactly the fields that the bytes spell, and what is written spells its fields.
use Rattle.std.specs.Prelude.{◌≡◌, ℕ, zero, suc, ◌+◌, ◌-◌, ◌*◌, ◌/◌, ◌%◌, ◌<◌, ◌≤◌, ◌^◌, ◌⊎◌, List, [], ◌∷◌, ◌++◌, length, take, drop, Option, Some, None, Bool, true, false, nat_lt, nat_eq, refl}
use Rattle.std.specs.List.{AllByRecursion, flat_map}
use Rattle.std.proofs.Common.{sym, ap, ◌∙◌, subst, inl, inr, arith, append_assoc, cond, length-append, pow-suc}
use Rattle.std.proofs.lemmas.Bool.{eqb-true, le-ltb, lt-ltb, ltb-true, ltb-false}
use Rattle.std.proofs.lemmas.List.{take_at, drop_at, take-append-drop, length-take}
use Rattle.std.proofs.lemmas.List.Concat.{flat_map-cons}
use Rattle.wire_format.specs.Grammar.{Content, Field, type_of, StandsFor, IsVarint, IsContent, IsField, AreFields}
use Rattle.wire_format.specs.Grammar.Content.{Varint, Eight, Body, Four}
use Rattle.wire_format.specs.Reading.{◌>>=◌, with_low, varint_in, bytes_at, content_at, field_at, fields_in, fields_of}
use Rattle.wire_format.specs.Writing.{varint_within, varint, content, field, spelling, is_small, IsWritable}

pub some_is : {A : Type 0} (x y : A) → Some x ≡ Some y → x ≡ y
some_is x y e = cc

-- the value of a step that did not fail
pub bind_some : {A B : Type 0} (o : Option A) (f : A → Option B) (y : B) → (o >>= f) ≡ Some y → (x : A) × (o ≡ Some x) × (f x ≡ Some y)
bind_some None f y e = absurd cc
bind_some (Some x) f y e = (x, refl, e)

-- a test that did not fail
pub guard_some : {A : Type 0} (b : Bool) (o : Option A) (y : A) → cond b None o ≡ Some y → (b ≡ false) × (o ≡ Some y)
guard_some true o y e = absurd cc
guard_some false o y e = (refl, e)

pub guard_true : {A : Type 0} (b : Bool) (o : Option A) (y : A) → cond b o None ≡ Some y → (b ≡ true) × (o ≡ Some y)
guard_true true o y e = (refl, e)
guard_true false o y e = absurd cc

abbrev pub Part : Type 0
Part = ℕ × List ℕ

-- ---- varints

pub record Took (k : ℕ) (bytes : List ℕ) (x : Part) : Type 0 where
  pub front : List ℕ
  pub whole : bytes ≡ front ++ x.1
  pub stands : StandsFor front x.0
  pub short : length front ≤ k
  pub small : x.0 < 2 ^ 64
  pub some : 0 < length front

stands_more : (b high : ℕ) (front : List ℕ) → 128 ≤ b → StandsFor front high → StandsFor (b ∷ front) (b - 128 + 128 * high)
stands_more b high [] le h = absurd h
stands_more b high (c ∷ bytes) le h = (high, le, omega arith, h)

took_one : (k b : ℕ) (bytes : List ℕ) → b < 128 → Took (suc k) (b ∷ bytes) (b, bytes)
took_one k b bytes lt = record { front = b ∷ []; whole = refl; stands = (lt, refl); short = omega arith; small = omega arith; some = omega arith }

took_more : (k b : ℕ) (bytes : List ℕ) (x : Part) → 128 ≤ b → b - 128 + 128 * x.0 < 2 ^ 64 → Took k bytes x → Took (suc k) (b ∷ bytes) (b - 128 + 128 * x.0, x.1)
took_more k b bytes x le lt t = record {
  front = b ∷ t.front;
  whole = ap (λ (r : List ℕ). b ∷ r) t.whole;
  stands = stands_more b x.0 t.front le t.stands;
  short = omega (arith, t.short);
  small = lt;
  some = omega arith;
}

pub varint_takes : (k : ℕ) (bytes : List ℕ) (x : Part) → varint_in k bytes ≡ Some x → Took k bytes x
unfolding varint_in
varint_takes zero bytes x e = absurd cc
varint_takes (suc k) [] x e = absurd cc
varint_takes (suc k) (b ∷ bytes) x e = go (λ y h. varint_takes k bytes y h) (nat_lt b 128) refl e
  where
    more : (o : Option Part) → ((y : Part) → o ≡ Some y → Took k bytes y) → 128 ≤ b → with_low b o ≡ Some x → Took (suc k) (b ∷ bytes) x
    more None again le e = absurd cc
    more (Some y) again le e =
        let g = guard_true (nat_lt (b - 128 + 128 * y.0) (2 ^ 64)) (Some (b - 128 + 128 * y.0, y.1)) x e in
        subst (Took (suc k) (b ∷ bytes)) (some_is (b - 128 + 128 * y.0, y.1) x g.1) (took_more k b bytes y le (ltb-true _ _ g.0) (again y refl))

    go : ((y : Part) → varint_in k bytes ≡ Some y → Took k bytes y) → (t : Bool) → nat_lt b 128 ≡ t → cond t (Some (b, bytes)) (with_low b (varint_in k bytes)) ≡ Some x → Took (suc k) (b ∷ bytes) x
    go again true t e = subst (Took (suc k) (b ∷ bytes)) (some_is (b, bytes) x e) (took_one k b bytes (ltb-true _ _ t))
    go again false t e = more (varint_in k bytes) again (ltb-false _ _ t) e

pub varint_gives : (k : ℕ) (front : List ℕ) (n : ℕ) (rest : List ℕ) → StandsFor front n → length front ≤ k → n < 2 ^ 64 → varint_in k (front ++ rest) ≡ Some (n, rest)
unfolding varint_in
varint_gives k [] n rest h short small = absurd h
varint_gives zero (b ∷ bytes) n rest h short small = absurd (omega arith)
varint_gives (suc k) (b ∷ []) n rest h short small = rw (lt-ltb b 128 h.0, h.1) refl
varint_gives (suc k) (b ∷ c ∷ bytes) n rest h short small =
    let again : varint_in k ((c ∷ bytes) ++ rest) ≡ Some (h.0, rest) = varint_gives k (c ∷ bytes) h.0 rest h.3 (omega arith) (omega (arith, h.2)) in
    let value : b - 128 + 128 * h.0 ≡ n = omega (arith, h.1, h.2) in
    rw (le-ltb b 128 h.1, again, value, lt-ltb n (2 ^ 64) small) refl

-- what is written stands for its number
pub varint_stands : (k v : ℕ) → v < 128 ^ k → 0 < k → StandsFor (varint_within k v) v × (length (varint_within k v) ≤ k)
unfolding varint_within
varint_stands zero v h p = absurd (omega arith)
varint_stands (suc k) v h p = go (λ q l. varint_stands k (v / 128) l q) (nat_lt v 128) refl
  where
    go : (0 < k → v / 128 < 128 ^ k → StandsFor (varint_within k (v / 128)) (v / 128) × (length (varint_within k (v / 128)) ≤ k)) → (t : Bool) → nat_lt v 128 ≡ t
        → StandsFor (cond t (v ∷ []) ((v % 128 + 128) ∷ varint_within k (v / 128))) v × (length (cond t (v ∷ []) ((v % 128 + 128) ∷ varint_within k (v / 128))) ≤ suc k)
    go again true t = ((ltb-true _ _ t, refl), omega arith)
    go again false t =
        let le : 128 ≤ v = ltb-false _ _ t in
        let below : v / 128 < 128 ^ k = omega (arith, h, pow-suc 128 k) in
        let a = again (positive k below le) below in
        let value : v % 128 + 128 - 128 + 128 * (v / 128) ≡ v = omega arith in
        (subst (StandsFor ((v % 128 + 128) ∷ varint_within k (v / 128))) value (stands_more (v % 128 + 128) (v / 128) (varint_within k (v / 128)) (omega arith) a.0), omega (arith, a.1))
      where
        positive : (k : ℕ) → v / 128 < 128 ^ k → 128 ≤ v → 0 < k
        positive zero l le = absurd (omega arith)
        positive (suc k) l le = omega arith

pub varint_is : (v : ℕ) → v < 2 ^ 64 → IsVarint (varint v) v
unfolding varint
varint_is v h =
    let s = varint_stands 10 v (omega arith) (omega arith) in
    record { short = s.1; small = h; value = s.0 }

-- ---- bytes

pub bytes_take : (n : ℕ) (bytes : List ℕ) (x : List ℕ × List ℕ) → bytes_at n bytes ≡ Some x → (bytes ≡ x.0 ++ x.1) × (length x.0 ≡ n)
unfolding bytes_at
bytes_take n bytes x e =
    let g = guard_some (nat_lt (length bytes) n) (Some (take n bytes, drop n bytes)) x e in
    let long : n ≤ length bytes = ltb-false _ _ g.0 in
    subst (λ (y : List ℕ × List ℕ). (bytes ≡ y.0 ++ y.1) × (length y.0 ≡ n)) (some_is (take n bytes, drop n bytes) x g.1)
    (sym (take-append-drop n bytes), omega (arith, length-take n bytes))

pub bytes_give : (front rest : List ℕ) → bytes_at (length front) (front ++ rest) ≡ Some (front, rest)
unfolding bytes_at
bytes_give front rest =
    let long : nat_lt (length (front ++ rest)) (length front) ≡ false = le-ltb _ _ (omega (arith, length-append front rest)) in
    rw (long, take_at front rest (length front) refl, drop_at front rest (length front) refl) refl

-- ---- a content

abbrev pub Read : Type 0
Read = Content × List ℕ

pub record TookContent (type : ℕ) (bytes : List ℕ) (x : Read) : Type 0 where
  pub front : List ℕ
  pub whole : bytes ≡ front ++ x.1
  pub type_is : type ≡ type_of x.0
  pub content : IsContent front x.0

took_varint : (bytes : List ℕ) (x : Part) → varint_in 10 bytes ≡ Some x → (front : List ℕ) × (bytes ≡ front ++ x.1) × IsVarint front x.0
took_varint bytes x e =
    let t = varint_takes 10 bytes x e in
    (t.front, t.whole, record { short = t.short; small = t.small; value = t.stands })

content_varint : (type : ℕ) (bytes : List ℕ) (x : Read) → type ≡ 0 → (varint_in 10 bytes >>= λ y. Some (Varint y.0, y.1)) ≡ Some x → TookContent type bytes x
content_varint type bytes x t e =
    let a = bind_some (varint_in 10 bytes) (λ y. Some (Varint y.0, y.1)) x e in
    let w = took_varint bytes a.0 a.1 in
    subst (TookContent type bytes) (some_is (Varint a.0.0, a.0.1) x a.2) (record { front = w.0; whole = w.1; type_is = t; content = w.2 })

content_body : (type : ℕ) (bytes : List ℕ) (x : Read) → type ≡ 2 → (varint_in 10 bytes >>= λ n. bytes_at n.0 n.1 >>= λ y. Some (Body y.0, y.1)) ≡ Some x → TookContent type bytes x
content_body type bytes x t e =
    let a = bind_some (varint_in 10 bytes) (λ n. bytes_at n.0 n.1 >>= λ y. Some (Body y.0, y.1)) x e in
    let b = bind_some (bytes_at a.0.0 a.0.1) (λ y. Some (Body y.0, y.1)) x a.2 in
    let w = took_varint bytes a.0 a.1 in
    let v = bytes_take a.0.0 a.0.1 b.0 b.1 in
    let whole : bytes ≡ (w.0 ++ b.0.0) ++ b.0.1 = w.1 ∙ ap (λ (r : List ℕ). w.0 ++ r) v.0 ∙ sym (append_assoc w.0 b.0.0 b.0.1) in
    subst (TookContent type bytes) (some_is (Body b.0.0, b.0.1) x b.2) (record { front = w.0 ++ b.0.0; whole = whole; type_is = t; content = (w.0, refl, subst (IsVarint w.0) (sym v.1) w.2) })

content_eight : (type : ℕ) (bytes : List ℕ) (x : Read) → type ≡ 1 → (bytes_at 8 bytes >>= λ y. Some (Eight y.0, y.1)) ≡ Some x → TookContent type bytes x
content_eight type bytes x t e =
    let a = bind_some (bytes_at 8 bytes) (λ y. Some (Eight y.0, y.1)) x e in
    let v = bytes_take 8 bytes a.0 a.1 in
    subst (TookContent type bytes) (some_is (Eight a.0.0, a.0.1) x a.2) (record { front = a.0.0; whole = v.0; type_is = t; content = (refl, v.1) })

content_four : (type : ℕ) (bytes : List ℕ) (x : Read) → type ≡ 5 → (bytes_at 4 bytes >>= λ y. Some (Four y.0, y.1)) ≡ Some x → TookContent type bytes x
content_four type bytes x t e =
    let a = bind_some (bytes_at 4 bytes) (λ y. Some (Four y.0, y.1)) x e in
    let v = bytes_take 4 bytes a.0 a.1 in
    subst (TookContent type bytes) (some_is (Four a.0.0, a.0.1) x a.2) (record { front = a.0.0; whole = v.0; type_is = t; content = (refl, v.1) })

-- of an if, which way the test went
pub chosen : {A : Type 0} (b : Bool) (x y : Option A) (z : A) → cond b x y ≡ Some z → ((b ≡ true) × (x ≡ Some z)) ⊎ ((b ≡ false) × (y ≡ Some z))
chosen true x y z e = inl (refl, e)
chosen false x y z e = inr (refl, e)

pub content_takes : (type : ℕ) (bytes : List ℕ) (x : Read) → content_at type bytes ≡ Some x → TookContent type bytes x
unfolding content_at
content_takes type bytes x e =
    let four = λ (e : cond (nat_eq type 5) (bytes_at 4 bytes >>= λ x. Some (Four x.0, x.1)) None ≡ Some x).
    let g = guard_true (nat_eq type 5) (bytes_at 4 bytes >>= λ x. Some (Four x.0, x.1)) x e in
    content_four type bytes x (eqb-true _ _ g.0) g.1
    in
    elim (chosen (nat_eq type 0) _ _ x e) [
      | inl a ↦ content_varint type bytes x (eqb-true _ _ a.0) a.1
      | inr b ↦
          elim (chosen (nat_eq type 1) _ _ x b.1) [
            | inl a ↦ content_eight type bytes x (eqb-true _ _ a.0) a.1
            | inr b ↦
                elim (chosen (nat_eq type 2) _ _ x b.1) [
                  | inl a ↦ content_body type bytes x (eqb-true _ _ a.0) a.1
                  | inr b ↦ four b.1
                ]
          ]
    ]

pub content_gives : (c : Content) (front rest : List ℕ) → IsContent front c → content_at (type_of c) (front ++ rest) ≡ Some (c, rest)
unfolding content_at
content_gives (Varint n) front rest h = rw (varint_gives 10 front n rest h.value h.short h.small) refl
content_gives (Eight b) front rest h = rw (h.0, ← h.1, bytes_give b rest) refl
content_gives (Body b) front rest h =
    let regrouped : front ++ rest ≡ h.0 ++ (b ++ rest) = ap (λ (r : List ℕ). r ++ rest) h.1 ∙ append_assoc h.0 b rest in
    rw (regrouped, varint_gives 10 h.0 (length b) (b ++ rest) h.2.value h.2.short h.2.small, bytes_give b rest) refl
content_gives (Four b) front rest h = rw (h.0, ← h.1, bytes_give b rest) refl

-- ---- a field

abbrev pub Next : Type 0
Next = Field × List ℕ

pub record TookField (bytes : List ℕ) (x : Next) : Type 0 where
  pub front : List ℕ
  pub whole : bytes ≡ front ++ x.1
  pub field : IsField front x.0
  pub some : 0 < length front

-- bytes before others, which are some before the rest, and so are both before the rest
whole_of_parts : (bytes front others middle rest : List ℕ) → bytes ≡ front ++ others → others ≡ middle ++ rest → bytes ≡ (front ++ middle) ++ rest
whole_of_parts bytes front others middle rest first second = first ∙ ap (λ (r : List ℕ). front ++ r) second ∙ sym (append_assoc front middle rest)

pub field_takes : (bytes : List ℕ) (x : Next) → field_at bytes ≡ Some x → TookField bytes x
unfolding field_at
field_takes bytes x e =
    let a = bind_some (varint_in 10 bytes) (λ key. cond (nat_lt key.0 8) None (cond (nat_lt key.0 (2 ^ 32)) (content_at (key.0 % 8) key.1 >>= λ y. Some (record { number = key.0 / 8; content = y.0 }, y.1)) None)) x e in
    let g = guard_some (nat_lt a.0.0 8) (cond (nat_lt a.0.0 (2 ^ 32)) (content_at (a.0.0 % 8) a.0.1 >>= λ y. Some (record { number = a.0.0 / 8; content = y.0 }, y.1)) None) x a.2 in
    let h = guard_true (nat_lt a.0.0 (2 ^ 32)) (content_at (a.0.0 % 8) a.0.1 >>= λ y. Some (record { number = a.0.0 / 8; content = y.0 }, y.1)) x g.1 in
    let b = bind_some (content_at (a.0.0 % 8) a.0.1) (λ y. Some (record { number = a.0.0 / 8; content = y.0 }, y.1)) x h.1 in
    let low : 8 ≤ a.0.0 = ltb-false _ _ g.0 in
    let high : a.0.0 < 2 ^ 32 = ltb-true _ _ h.0 in
    let k = varint_takes 10 bytes a.0 a.1 in
    let c = content_takes (a.0.0 % 8) a.0.1 b.0 b.1 in
    let key : a.0.0 ≡ a.0.0 / 8 * 8 + type_of b.0.0 = omega (arith, c.type_is) in
    let whole : bytes ≡ (k.front ++ c.front) ++ b.0.1 = whole_of_parts bytes k.front a.0.1 c.front b.0.1 k.whole c.whole in
    let varint : IsVarint k.front (a.0.0 / 8 * 8 + type_of b.0.0) = subst (IsVarint k.front) {y = a.0.0 / 8 * 8 + type_of b.0.0} key (record { short = k.short; small = k.small; value = k.stands }) in
    let made : Next = (record { number = a.0.0 / 8; content = b.0.0 }, b.0.1) in
    subst (TookField bytes) {x = made} (some_is made x b.2) (record {
      front = k.front ++ c.front;
      whole = whole;
      field = record { front = k.front; rest = c.front; whole = refl {a = k.front ++ c.front}; key = varint; small = omega (arith, key, high); numbered = omega (arith, low); content = c.content };
      some = omega (arith, k.some, length-append k.front c.front);
    })

pub field_gives : (front rest : List ℕ) (f : Field) → IsField front f → field_at (front ++ rest) ≡ Some (f, rest)
unfolding field_at
field_gives front rest f h =
    let key = f.number * 8 + type_of f.content in
    let regrouped : front ++ rest ≡ h.front ++ (h.rest ++ rest) = ap (λ (r : List ℕ). r ++ rest) h.whole ∙ append_assoc h.front h.rest rest in
    let low : nat_lt (f.number * 8 + type_of f.content) 8 ≡ false = le-ltb _ _ (omega (arith, h.numbered)) in
    let high : nat_lt (f.number * 8 + type_of f.content) (2 ^ 32) ≡ true = lt-ltb _ _ h.small in
    let small : type_of f.content < 8 = type_small f.content in
    let number : (f.number * 8 + type_of f.content) / 8 ≡ f.number = omega arith in
    let type : (f.number * 8 + type_of f.content) % 8 ≡ type_of f.content = omega arith in
    rw (regrouped, varint_gives 10 h.front (f.number * 8 + type_of f.content) (h.rest ++ rest) h.key.value h.key.short h.key.small, low, high, type, number, content_gives f.content h.rest rest h.content) refl
  where
    type_small : (c : Content) → type_of c < 8
    type_small (Varint n) = omega arith
    type_small (Eight b) = omega arith
    type_small (Body b) = omega arith
    type_small (Four b) = omega arith

-- ---- all fields

pub fields_next : (n : ℕ) (bytes : List ℕ) (f : Field) (rest : List ℕ) → field_at bytes ≡ Some (f, rest) → fields_in (suc n) bytes ≡ (fields_in n rest >>= λ fs. Some (f ∷ fs))
unfolding fields_in
fields_next n [] f rest e = absurd (no_field f rest e)
  where
    no_field : (f : Field) (rest : List ℕ) → field_at [] ≡ Some (f, rest) → ⊥
    no_field f rest e =
        let t = field_takes [] (f, rest) e in
        let none : length (t.front ++ rest) ≡ 0 = ap length (sym t.whole) in
        omega (arith, t.some, none, length-append t.front rest)
fields_next n (b ∷ bytes) f rest e = rw e refl

pub fields_take : (n : ℕ) (bytes : List ℕ) (fs : List Field) → fields_in n bytes ≡ Some fs → AreFields bytes fs
unfolding fields_in
fields_take n [] fs e = subst (AreFields []) (some_is [] fs e) refl
fields_take zero (b ∷ bytes) fs e = absurd cc
fields_take (suc n) (b ∷ bytes) fs e =
    let a = bind_some (field_at (b ∷ bytes)) (λ x. fields_in n x.1 >>= λ gs. Some (x.0 ∷ gs)) fs e in
    let c = bind_some (fields_in n a.0.1) (λ gs. Some (a.0.0 ∷ gs)) fs a.2 in
    let t = field_takes (b ∷ bytes) a.0 a.1 in
    subst (AreFields (b ∷ bytes)) (some_is (a.0.0 ∷ c.0) fs c.2) (t.front, a.0.1, t.whole, t.field, fields_take n a.0.1 c.0 c.1)

pub fields_give : (n : ℕ) (bytes : List ℕ) (fs : List Field) → length bytes ≤ n → AreFields bytes fs → fields_in n bytes ≡ Some fs
unfolding fields_in
fields_give n bytes [] le h = rw h (empty n)
  where
    empty : (n : ℕ) → fields_in n [] ≡ Some []
    empty n = refl
fields_give zero bytes (f ∷ fs) le h = absurd (no_room h)
  where
    no_room : AreFields bytes (f ∷ fs) → ⊥
    no_room h =
        let t = field_takes (h.0 ++ h.1) (f, h.1) (field_gives h.0 h.1 f h.3) in
        let size : length bytes ≡ length (t.front ++ h.1) = ap length (h.2 ∙ t.whole) in
        omega (arith, size, t.some, length-append t.front h.1, le)
fields_give (suc n) bytes (f ∷ fs) le h =
    let first : field_at bytes ≡ Some (f, h.1) = ap field_at h.2 ∙ field_gives h.0 h.1 f h.3 in
    let t = field_takes bytes (f, h.1) first in
    let size : length bytes ≡ length t.front + length h.1 = ap length t.whole ∙ length-append t.front h.1 in
    let again : fields_in n h.1 ≡ Some fs = fields_give n h.1 fs (omega (arith, size, t.some)) h.4 in
    fields_next n bytes f h.1 first ∙ rw again refl

-- what the bytes spell is what is read, and nothing else
pub fields_are : (bytes : List ℕ) (fs : List Field) → fields_of bytes ≡ Some fs → AreFields bytes fs
unfolding fields_of
fields_are bytes fs e = fields_take (length bytes) bytes fs e

pub are_fields : (bytes : List ℕ) (fs : List Field) → AreFields bytes fs → fields_of bytes ≡ Some fs
unfolding fields_of
are_fields bytes fs h = fields_give (length bytes) bytes fs (omega arith) h

-- ---- what is written

content_is : (c : Content) → is_small c ≡ true → IsContent (content c) c
content_is (Varint n) h = varint_is n (ltb-true _ _ h)
content_is (Eight b) h = (refl, eqb-true _ _ h)
content_is (Body b) h = (varint (length b), refl, varint_is (length b) (ltb-true _ _ h))
content_is (Four b) h = (refl, eqb-true _ _ h)

field_is : (f : Field) → IsWritable f → IsField (field f) f
unfolding field
field_is f h =
    let small : type_of f.content < 8 = type_small f.content in
    record {
      front = varint (f.number * 8 + type_of f.content);
      rest = content f.content;
      whole = refl;
      key = varint_is (f.number * 8 + type_of f.content) (omega (arith, h.small));
      small = omega (arith, h.small);
      numbered = h.numbered;
      content = content_is f.content h.content;
    }
  where
    type_small : (c : Content) → type_of c < 8
    type_small (Varint n) = omega arith
    type_small (Eight b) = omega arith
    type_small (Body b) = omega arith
    type_small (Four b) = omega arith

pub spelled : (fs : List Field) → AllByRecursion IsWritable fs → AreFields (spelling fs) fs
unfolding spelling
spelled [] h = refl
spelled (f ∷ fs) h = (field f, flat_map field fs, flat_map-cons field f fs, field_is f h.0, spelled fs h.1)

pub reads_back : (fs : List Field) → AllByRecursion IsWritable fs → fields_of (spelling fs) ≡ Some fs
reads_back fs h = are_fields (spelling fs) fs (spelled fs h)
