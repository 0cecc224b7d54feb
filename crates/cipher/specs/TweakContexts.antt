-- The meaning of the closures on tweakable ciphers.
use Rattle.std.specs.Prelude.{◌≡◌, ℕ, [], ◌∷◌, slice_index_or}
use Rattle.cipher.specs.Transcript.{Block, Transcript, TweakTranscript}
use Rattle.cipher.specs.declared.tweaks.contexts.TweakBlockCtx.{TweakBlockCtx}

-- one pair: the tweak and what the closure reads, and what its output is afterwards
abbrev pub OneTweakedBlock : {B T : ℕ} → TweakTranscript → TweakBlockCtx B T → TweakBlockCtx B T → Type 0
OneTweakedBlock ts old new = ts ≡ ((old.tweak.now, slice_index_or old.input.now 0 old.output.now), new.output.now) ∷ []

-- the pairs of a transcript, each under this tweak
abbrev pub under : Block → Transcript → TweakTranscript
under tweak [] = []
under tweak (p ∷ ts) = ((tweak, p.0), p.1) ∷ under tweak ts

-- a transcript whose pairs all have this tweak, and that leads without it
abbrev pub UnderTweak : {S : Type 0} → Block → (Transcript → S → S → Type 0) → TweakTranscript → S → S → Type 0
UnderTweak tweak leads ts old new = (us : Transcript) × (ts ≡ under tweak us) × leads us old new
