-- What a backend of a map leaves behind the closures of this crate.
use Rattle.std.proofs.Common.{◌≡◌, ℕ, List, [], ◌∷◌, map, get_or, ap, subst, sym, ◌∙◌, refl}
use Rattle.cipher.specs.Buffers.{pick}
use Rattle.cipher.specs.Transcript.{Pairs, Block, Led, IsOf, inputs, outputs}
use Rattle.cipher.specs.Contexts.{OneBlock, EachBlock}
use Rattle.cipher.specs.declared.blocks.contexts.BlockCtx.{BlockCtx}
use Rattle.cipher.specs.declared.blocks.contexts.BlocksCtx.{BlocksCtx}

-- the transcript that a map gives on these inputs
abbrev pub transcript : {X : Type 0} → (X → Block) → List X → Pairs X
transcript f [] = []
transcript f (x ∷ xs) = (x, f x) ∷ transcript f xs

IsOf-transcript : {X : Type 0} (f : X → Block) (xs : List X) → IsOf f (transcript f xs)
IsOf-transcript f [] = tt
IsOf-transcript f (x ∷ xs) = (refl, IsOf-transcript f xs)

inputs-transcript : {X : Type 0} (f : X → Block) (xs : List X) → inputs (transcript f xs) ≡ xs
inputs-transcript f [] = refl
inputs-transcript f (x ∷ xs) = ap (λ ys. x ∷ ys) (inputs-transcript f xs)

outputs-transcript : {X : Type 0} (f : X → Block) (xs : List X) → outputs (transcript f xs) ≡ map f xs
outputs-transcript f [] = refl
outputs-transcript f (x ∷ xs) = ap (λ ys. f x ∷ ys) (outputs-transcript f xs)

outputs-of_map : {X : Type 0} (f : X → Block) (ts : Pairs X) → IsOf f ts → outputs ts ≡ map f (inputs ts)
outputs-of_map f [] h = refl
outputs-of_map f (t ∷ ts) h = ap (λ x. x ∷ outputs ts) h.0 ∙ ap (λ xs. f t.0 ∷ xs) (outputs-of_map f ts h.1)

-- a backend of the map f leaves f of what the closure reads
pub OneBlock-led : {B : ℕ} {f : Block → Block} {old new : BlockCtx B} → Led f OneBlock old new → new.output.now ≡ f (get_or old.input.now 0 old.output.now)
OneBlock-led {B} {f} {old} {new} l = (subst (λ ts. IsOf f ts) l.goes l.of_map).0

-- .. and f of each block that it reads
pub EachBlock-led : {B : ℕ} {f : Block → Block} {old new : BlocksCtx B} → Led f EachBlock old new → new.output.now ≡ map f (pick old.input.now old.output.now)
EachBlock-led {B} {f} {old} {new} l = sym l.goes.1 ∙ (outputs-of_map f l.pairs l.of_map ∙ ap (map f) l.goes.0)

-- and so it leads them
pub Led-from_one : {B : ℕ} {f : Block → Block} {old new : BlockCtx B} → new.output.now ≡ f (get_or old.input.now 0 old.output.now) → Led f OneBlock old new
Led-from_one {B} {f} {old} {new} e = record { pairs = (get_or old.input.now 0 old.output.now, new.output.now) ∷ []; of_map = (e, tt); goes = refl }

pub Led-from_each : {B : ℕ} {f : Block → Block} {old new : BlocksCtx B} → new.output.now ≡ map f (pick old.input.now old.output.now) → Led f EachBlock old new
Led-from_each {B} {f} {old} {new} e =
    let xs : List Block = pick old.input.now old.output.now in
    record { pairs = transcript f xs; of_map = IsOf-transcript f xs; goes = (inputs-transcript f xs, outputs-transcript f xs ∙ sym e) }
