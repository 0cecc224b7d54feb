-- Maps with lists of bytes as keys: what a change at the bytes `bs` leaves at any bytes.
use Rattle.std.proofs.Common.{◌≡◌, ℕ, List, [], ◌∷◌, ◌++◌, Bool, true, false, cond, Some, None, Option, sym, ap, subst, ◌∙◌, ⊎_elim}
use Rattle.std.specs.Prelude.{Vec}
use Rattle.std.specs.Ordering.{is_eq, nat_cmp}
use Rattle.std.specs.Cmp.{eq_by_cmp_equiv}
use Rattle.std.specs.Cmp.Lexicographic.{slice_cmp, bytes_decides, nat_list_cmp_total, nat_list_eq_equiv}
use Rattle.std.specs.Str.{bytes_eq}
use Rattle.std.specs.BTreeMap.{BTreeMap, get_by, UpdatesBy}
use Rattle.std.specs.Map.{lookup, IsKeyTest, AreApart, KeepsOthers}
use Rattle.std.proofs.lemmas.Map.Text.{is_eq-slice_cmp}
use Rattle.std.proofs.lemmas.Bool.{cases_Bool, cond-true, cond-false}
use Rattle.tink_set_groups.specs.Groups.{group_at, Adds, HaveSameGroups}

apart : (bs cs ks : List ℕ) → bytes_eq bs cs ≡ false → bytes_eq bs ks ≡ true → bytes_eq cs ks ≡ false
apart bs cs ks n y = nat_list_eq_equiv.symm cs ks ∙ sym (nat_list_eq_equiv.congr bs ks cs y) ∙ n

apart_in_order : (bs cs ks : List ℕ) → bytes_eq bs cs ≡ false → is_eq (slice_cmp nat_cmp bs ks) ≡ true → is_eq (slice_cmp nat_cmp cs ks) ≡ false
apart_in_order bs cs ks n y = is_eq-slice_cmp cs ks ∙ apart bs cs ks n (sym (is_eq-slice_cmp bs ks) ∙ y)

other_entries : {K : Type 0} (eq : K → K → Bool) (test : K → Bool) {X : Type 0} (old new : List (K × X)) → KeepsOthers eq test old new → (other : K → Bool) → IsKeyTest eq other → AreApart test other → lookup other new ≡ lookup other old
unfolding KeepsOthers
other_entries eq test old new h = h

by_bytes : {W : Type 0} (f g : List ℕ → W) (bs : List ℕ) (w : W) → g bs ≡ w → ((cs : List ℕ) → bytes_eq bs cs ≡ false → g cs ≡ f cs) → (cs : List ℕ) → g cs ≡ cond (bytes_eq bs cs) w (f cs)
by_bytes f g bs w here other cs =
    ⊎_elim
    (λ y. subst (λ l. g l ≡ w) ((bytes_decides bs cs).0 y) here ∙ sym (cond-true (bytes_eq bs cs) w (f cs) y))
    (λ n. other cs n ∙ sym (cond-false (bytes_eq bs cs) w (f cs) n))
    (cases_Bool (bytes_eq bs cs))

pub updates_vec : {X A : Type 0} (bs : List ℕ) (m n : BTreeMap (Vec ℕ A) X) (w : Option X) → UpdatesBy (λ x y. slice_cmp nat_cmp x.items y.items) (λ k. slice_cmp nat_cmp bs k.items) m n w
    → (cs : List ℕ) → get_by (λ k. slice_cmp nat_cmp cs k.items) n ≡ cond (bytes_eq bs cs) w (get_by (λ k. slice_cmp nat_cmp cs k.items) m)
updates_vec bs m n w h =
    by_bytes (λ ds. get_by (λ k. slice_cmp nat_cmp ds k.items) m) (λ ds. get_by (λ k. slice_cmp nat_cmp ds k.items) n) bs w h.1
    (λ cs e. other_entries _ _ _ _ h.3 _ (λ x y. (eq_by_cmp_equiv nat_list_cmp_total).congr cs x.items y.items) (λ k. apart_in_order bs cs k.items e))

-- the lists after one was written
pub groups_after : {E A : Type 0} (bs : List ℕ) (m n : BTreeMap (Vec ℕ A) (List E)) (g : List E) → UpdatesBy (λ x y. slice_cmp nat_cmp x.items y.items) (λ k. slice_cmp nat_cmp bs k.items) m n (Some g)
    → (cs : List ℕ) → group_at n cs ≡ cond (bytes_eq bs cs) (Some g) (group_at m cs)
groups_after bs m n g h = updates_vec bs m n (Some g) h

-- the lists after an entry was put behind one
pub groups_pushed : {E A : Type 0} (bs : List ℕ) (m n : BTreeMap (Vec ℕ A) (List E)) (g x : List E) (e : E) → group_at m bs ≡ Some g → x ≡ g ++ e ∷ [] → UpdatesBy (λ x y. slice_cmp nat_cmp x.items y.items) (λ k. slice_cmp nat_cmp bs k.items) m n (Some x) → Adds bs e m n
groups_pushed bs m n g x e old more h cs = rw old (groups_after bs m n x h cs ∙ ap (λ y. cond (bytes_eq bs cs) (Some y) (group_at m cs)) more)

begun_at : {E A : Type 0} (bs : List ℕ) (m n : BTreeMap (Vec ℕ A) (List E)) (e : E) (x : List E) → group_at m bs ≡ None → x ≡ e ∷ [] → UpdatesBy (λ x y. slice_cmp nat_cmp x.items y.items) (λ k. slice_cmp nat_cmp bs k.items) m n (Some x) → Adds bs e m n
begun_at bs m n e x old more h cs = rw old (groups_after bs m n x h cs ∙ ap (λ y. cond (bytes_eq bs cs) (Some y) (group_at m cs)) more)

-- the lists after an entry began one
pub groups_begun : {E A : Type 0} (bs key : List ℕ) (m n : BTreeMap (Vec ℕ A) (List E)) (e : E) (x : List E) → key ≡ bs → group_at m bs ≡ None → x ≡ e ∷ [] → UpdatesBy (λ x y. slice_cmp nat_cmp x.items y.items) (λ k. slice_cmp nat_cmp key k.items) m n (Some x) → Adds bs e m n
groups_begun bs key m n e x is old more h = begun_at bs m n e x old more (subst (λ l. UpdatesBy (λ x y. slice_cmp nat_cmp x.items y.items) (λ k. slice_cmp nat_cmp l k.items) m n (Some x)) is h)

-- the lists after one was written back as it was
pub groups_same : {E A : Type 0} (bs : List ℕ) (m n : BTreeMap (Vec ℕ A) (List E)) (g x : List E) → group_at m bs ≡ Some g → x ≡ g → UpdatesBy (λ x y. slice_cmp nat_cmp x.items y.items) (λ k. slice_cmp nat_cmp bs k.items) m n (Some x) → HaveSameGroups m n
groups_same bs m n g x old same h cs =
    ⊎_elim
    (λ y. let one : bs ≡ cs = (bytes_decides bs cs).0 y in subst (λ l. group_at n l ≡ group_at m l) one (h.1 ∙ ap Some same ∙ sym old))
    (λ q. updates_vec bs m n (Some x) h cs ∙ cond-false (bytes_eq bs cs) (Some x) _ q)
    (cases_Bool (bytes_eq bs cs))

-- the lists after one was written under a key
pub groups_written : {E A : Type 0} (bs key : List ℕ) (m n : BTreeMap (Vec ℕ A) (List E)) (g : List E) → key ≡ bs → UpdatesBy (λ x y. slice_cmp nat_cmp x.items y.items) (λ k. slice_cmp nat_cmp key k.items) m n (Some g)
    → (cs : List ℕ) → group_at n cs ≡ cond (bytes_eq bs cs) (Some g) (group_at m cs)
groups_written bs key m n g is h cs = subst (λ l. group_at n cs ≡ cond (bytes_eq l cs) (Some g) (group_at m cs)) is (groups_after key m n g h cs)
