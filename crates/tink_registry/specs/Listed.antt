-- Lists of managers by their URLs, and of templates by their names.
use Rattle.std.specs.Prelude.{◌≡◌, ⊤, ◌&&◌, ◌++◌, ℕ, List, [], ◌∷◌, Bool, true, not, cond, Option, Some, None, Result, Err, find, fold, map, if◌then◌else◌, nat_eq, length}
use Rattle.std.specs.Str.{bytes_eq}
use Rattle.std.specs.Ordering.{nat_cmp}
use Rattle.std.specs.Cmp.Lexicographic.{slice_cmp}
use Rattle.std.specs.declared.cmp.Ordering.{Ordering}
use Rattle.std.specs.declared.cmp.Ordering.TheVariants.{Less, Equal, Greater}
use Rattle.std.specs.Option.{is_some, option_map}
use Rattle.tink_io.specs.declared.error.Kind.{Kind}
use Rattle.tink_io.specs.declared.error.Kind.TheVariants.{InvalidKey, UnsupportedKeyType}
use Rattle.tink_proto.specs.declared.messages.keys.KeyTemplate.{KeyTemplate}

-- the first manager of a URL
abbrev pub manager_of : {M : Type 0} → (M → List ℕ) → List ℕ → List M → Option M
manager_of url wanted ms = find (λ m. bytes_eq (url m) wanted) ms

-- a manager is found by its URL, and by each other URL what was found before
abbrev pub AddsManager : {M : Type 0} → (M → List ℕ) → M → List M → List M → Type 0
AddsManager url m old new =
    (wanted : List ℕ) → manager_of url wanted new ≡ cond (bytes_eq (url m) wanted) (Some m) (manager_of url wanted old)

-- whether none of the new managers has the URL of an old one or of a new one before it
abbrev pub are_all_fresh : {M : Type 0} → (M → List ℕ) → List M → List M → Bool
are_all_fresh url ms [] = true
are_all_fresh url ms (k ∷ ks) = not (is_some (manager_of url (url k) ms)) && are_all_fresh url (ms ++ k ∷ []) ks

-- a template under its name
abbrev pub Named : Type 0
Named = List ℕ × KeyTemplate

abbrev pub names_of : List Named → List (List ℕ)
names_of ts = map (λ t. t.0) ts

-- a name comes before the first one of a list
abbrev pub IsBefore : List ℕ → List (List ℕ) → Type 0
IsBefore name [] = ⊤
IsBefore name (n ∷ _) = slice_cmp nat_cmp name n ≡ Less

-- names in rising order of their bytes, each once
abbrev pub AreRising : List (List ℕ) → Type 0
AreRising [] = ⊤
AreRising (n ∷ ns) = IsBefore n ns × AreRising ns

-- a template under its name, in place of the one of that name, in the order of names
abbrev pub with_template_by : (List ℕ → List ℕ → Ordering) → List ℕ → KeyTemplate → List Named → List Named
with_template_by R name kt [] = (name, kt) ∷ []
with_template_by R name kt (t ∷ ts) =
    elim (R name t.0) [ Less ↦ (name, kt) ∷ t ∷ ts | Equal ↦ (name, kt) ∷ ts | Greater ↦ t ∷ with_template_by R name kt ts ]

abbrev pub with_template : List Named → Named → List Named
with_template ts t = with_template_by (slice_cmp nat_cmp) t.0 t.1 ts

-- the template of a name
abbrev pub template_of : List ℕ → List Named → Option KeyTemplate
template_of name ts = option_map (λ t. t.1) (find (λ t. bytes_eq t.0 name) ts)

-- a template is found by its name, and by each other name what was found before
abbrev pub PutsTemplate : List ℕ → KeyTemplate → List Named → List Named → Type 0
PutsTemplate name kt old new =
    (wanted : List ℕ) → template_of wanted new ≡ cond (bytes_eq name wanted) (Some kt) (template_of wanted old)

-- what a registry holds
pub record Registered (M : Type 0) : Type 0 where
  pub managers : List M
  pub templates : List Named

-- a registry after all of both lists
abbrev pub with_all : {M : Type 0} → Registered M → List M → List Named → Registered M
with_all r kms kts = record { managers = r.managers ++ kms; templates = fold with_template r.templates kts }

-- what a manager builds, or that there is none
abbrev pub builds_by : {M P : Type 0} → (M → List ℕ → Result P Kind) → List ℕ → Option M → Result P Kind
builds_by builds key None = Err UnsupportedKeyType
builds_by builds key (Some m) = builds m key

-- what a registry builds of a key's bytes: an empty value is refused before the URL is looked at
abbrev pub registry_builds : {M P : Type 0} → (M → List ℕ) → (M → List ℕ → Result P Kind) → List M → List ℕ → List ℕ → Result P Kind
registry_builds url builds ms wanted key = if nat_eq (length key) 0 then Err InvalidKey else builds_by builds key (manager_of url wanted ms)

-- what a manager makes, and the draws then left, or that there is none
abbrev pub makes_by : {M A : Type 0} → (M → List ℕ → List ℕ → Result A Kind × List ℕ) → List ℕ → List ℕ → Option M → Result A Kind × List ℕ
makes_by makes format draws None = (Err UnsupportedKeyType, draws)
makes_by makes format draws (Some m) = makes m format draws

-- what a registry makes by a template, and the draws then left
abbrev pub registry_makes : {M A : Type 0} → (M → List ℕ) → (M → List ℕ → List ℕ → Result A Kind × List ℕ) → List M → KeyTemplate → List ℕ → Result A Kind × List ℕ
registry_makes url makes ms kt draws = makes_by makes kt.value draws (manager_of url kt.type_url ms)
