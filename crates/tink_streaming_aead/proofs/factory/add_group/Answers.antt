use Rattle.std.proofs.Common.{◌≡◌, ◌<◌, ◌+◌, ℕ, List, [], ◌∷◌, ◌++◌, length, map, take, get_or, sym, ap, append_assoc, arith, ◌∙◌}
use Rattle.std.proofs.lemmas.List.{map-append, take_more}
use Rattle.tink_streaming_aead.proofs.factory.add_group.Goals as goal

-- one entry more is lent
more_lent : {A B : Type 0} (now : B → A) (before more : List B) (b : B) (start group : List A) (i : ℕ) → i < length group → now b ≡ get_or group i (now b) → more ≡ before ++ b ∷ [] → map now before ≡ start ++ take i group
    → map now more ≡ start ++ take (i + 1) group
more_lent now before more b start group i h at is so =
    ap (map now) is ∙ map-append now before (b ∷ []) ∙ ap (λ l. l ++ now b ∷ []) so ∙ append_assoc start (take i group) (now b ∷ [])
    ∙ ap (λ l. start ++ l) (ap (λ y. take i group ++ y ∷ []) at ∙ sym (take_more group i (now b) h))

pub loop-entry-preserved : goal.loop-entry-preserved
loop-entry-preserved c =
    more_lent (λ e. e.now) c.loop-entry.entries.items c.push.new.self.items _ (map (λ e. e.now) c.args.entries.now.items) c.args.group.now c.loop-entry.entry-index (omega arith) c.entry-item.is c.in_ok-push.ensures.items c.loop-entry.invariant
