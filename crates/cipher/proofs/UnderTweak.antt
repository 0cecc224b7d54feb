-- A transcript under one tweak is a transcript of the map under it.
use Rattle.std.proofs.Common.{[], ◌∷◌, subst, refl}
use Rattle.cipher.specs.Transcript.{Block, Transcript, Led, IsOf, tweaked}
use Rattle.cipher.specs.TweakContexts.{under, UnderTweak}

IsOf-under : (f : Block → Block → Block) (t : Block) (us : Transcript) → IsOf (f t) us → IsOf (tweaked f) (under t us)
IsOf-under f t [] h = tt
IsOf-under f t (u ∷ us) h = (h.0, IsOf-under f t us h.1)

IsOf-without : (f : Block → Block → Block) (t : Block) (us : Transcript) → IsOf (tweaked f) (under t us) → IsOf (f t) us
IsOf-without f t [] h = tt
IsOf-without f t (u ∷ us) h = (h.0, IsOf-without f t us h.1)

-- a closure that is led by the map under a tweak, seen through what wraps it
pub Led-under : {S W : Type 0} (f : Block → Block → Block) (t : Block) (leads : Transcript → S → S → Type 0) (inner : W → S) (a b : W)
    → Led (f t) leads (inner a) (inner b) → Led (tweaked f) (λ ts x y. UnderTweak t leads ts (inner x) (inner y)) a b
Led-under f t leads inner a b l = record { pairs = under t l.pairs; of_map = IsOf-under f t l.pairs l.of_map; goes = (l.pairs, refl, l.goes) }

-- .. and back
pub Led-without : {S W : Type 0} (f : Block → Block → Block) (t : Block) (leads : Transcript → S → S → Type 0) (inner : W → S) (a b : W)
    → Led (tweaked f) (λ ts x y. UnderTweak t leads ts (inner x) (inner y)) a b → Led (f t) leads (inner a) (inner b)
Led-without f t leads inner a b l =
    record { pairs = l.goes.0; of_map = IsOf-without f t l.goes.0 (subst (λ ts. IsOf (tweaked f) ts) l.goes.1 l.of_map); goes = l.goes.2 }
