-- The keys so far were written.
use Rattle.std.proofs.Common.{flat_map, take}
use Rattle.std.specs.Fmt.{HasWritten, IsPlainFormatter}
use Rattle.keyset_model.specs.Secrets as secrets
use Rattle.tink_keyset_rules.specs.ShownTexts.{further_text}
use Rattle.tink_keyset_rules.proofs.shown.write_further.Given as goal

abbrev pub invariant-loop-key : goal.invariant-loop-key
invariant-loop-key g l =
    IsPlainFormatter l.initial.f → HasWritten g.W.Write.write_str_gives l.initial.f (flat_map (λ k. further_text (secrets.key_info k)) (take l.key-index l.keys)) l.f
