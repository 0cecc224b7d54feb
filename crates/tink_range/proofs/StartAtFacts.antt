-- From the keys of a list to those of a keyset.
use Rattle.std.proofs.Common.{◌≡◌, ◌≤◌, ◌+◌, ℕ, List, [], ◌∷◌, length, map, refl, sym, ap, subst, ◌∙◌}
use Rattle.std.proofs.lemmas.List.{length-map}
use Rattle.std.specs.Prelude.{Result, Ok, Err, IfErr}
use Rattle.std.specs.declared.option.Option.{Option}
use Rattle.tink_io.specs.declared.error.Kind.{Kind}
use Rattle.tink_io.specs.declared.error.Kind.TheVariants.{NoMatchingKey, OutOfMemory, ReadFault}
use Rattle.tink_io.specs.declared.error.TinkError.{TinkError}
use Rattle.stream_model.specs.Opening.{OpeningKey}
use Rattle.tink_streaming_io.specs.Choosing.{StartRefused}
use Rattle.tink_range.specs.ChoosingAt.{NewRefused}

pub fused : {B C D : Type 0} (f : C → D) (h : B → C) (xs : List B) → map (λ k. f (h k)) xs ≡ map f (map h xs)
fused f h [] = refl
fused f h (x ∷ xs) = ap (λ ys. f (h x) ∷ ys) (fused f h xs)

-- the refusal of a start is one of a new reader
by_kind : {A : Type 0} (bytes : A → Option (List ℕ)) (faults : A → ℕ) (ks : List OpeningKey) (old new : A) (kind : Kind) → StartRefused ks (bytes old) (faults old) (faults new) kind → NewRefused bytes faults ks old new kind
by_kind bytes faults ks old new ReadFault h = h
by_kind bytes faults ks old new NoMatchingKey h = h
by_kind bytes faults ks old new _ h = absurd h

pub new_refused : {A T : Type 0} (bytes : A → Option (List ℕ)) (faults : A → ℕ) (ks : List OpeningKey) (old new : A) (r : Result T TinkError)
    → IfErr r (λ e. StartRefused ks (bytes old) (faults old) (faults new) e.kind) → IfErr r (λ e. NewRefused bytes faults ks old new e.kind)
new_refused bytes faults ks old new (Ok v) h = tt
new_refused bytes faults ks old new (Err e) h = by_kind bytes faults ks old new e.kind h

-- a step for each of some things at most is one for each of the keys that they are
pub ticks_of : {B C : Type 0} (h : B → C) (xs : List B) (ks : List C) (before now : ℕ) → map h xs ≡ ks → (before ≤ now) × (now ≤ before + length xs) → (before ≤ now) × (now ≤ before + length ks)
ticks_of h xs ks before now are t = (t.0, subst (λ (n : ℕ). now ≤ before + n) (sym (length-map xs h) ∙ ap length are) t.1)

-- a refusal by this kind
pub start_refusal : (ks : List OpeningKey) (told : Option (List ℕ)) (before now : ℕ) (error : TinkError) (kind : Kind) → error ≡ record { kind = kind } → StartRefused ks told before now kind → StartRefused ks told before now error.kind
start_refusal ks told before now error kind is r = subst (λ (x : TinkError). StartRefused ks told before now x.kind) (sym is) r

-- a failed read says nothing of how many keys were tried
pub fault_untried : {P : Type 0} (error : TinkError) → error ≡ record { kind = ReadFault } → error.kind ≡ NoMatchingKey → P
fault_untried error is none = absurd (let e = sym (ap (λ x. x.kind) is) ∙ none in cc)

-- nor does one for memory
pub memory_untried : {P : Type 0} (error : TinkError) → error ≡ record { kind = OutOfMemory } → error.kind ≡ NoMatchingKey → P
memory_untried error is none = absurd (let e = sym (ap (λ x. x.kind) is) ∙ none in cc)

-- the object is as before where there is no memory
pub memory_refused : {A : Type 0} (bytes : A → Option (List ℕ)) (faults : A → ℕ) (ks : List OpeningKey) (object : A) (error : TinkError) → error ≡ record { kind = OutOfMemory } → NewRefused bytes faults ks object object error.kind
memory_refused bytes faults ks object error is = subst (λ (x : TinkError). NewRefused bytes faults ks object object x.kind) (sym is) refl
