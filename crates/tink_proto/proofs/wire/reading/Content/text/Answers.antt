use Rattle.std.proofs.Common.{◌≡◌, ℕ, Bool, true, false, List, Some, refl, ap, sym}
use Rattle.std.specs.Str.{is_utf8, IsUtf8}
use Rattle.std.proofs.lemmas.Str.{IsUtf8-from_is_utf8, is_utf8-from_IsUtf8}
use Rattle.tink_proto.proofs.wire.reading.Content.text.Goals as goal

not_utf8 : (b : List ℕ) → (IsUtf8 b → ⊥) → is_utf8 b ≡ false
not_utf8 b h = go (is_utf8 b) refl
  where
    go : (t : Bool) → is_utf8 b ≡ t → t ≡ false
    go true e = absurd (h (IsUtf8-from_is_utf8 b e))
    go false e = refl

pub returns-in-Ok : goal.returns-in-Ok
returns-in-Ok c = rw (c.in_ok-body.ensures, is_utf8-from_IsUtf8 _ c.in-Ok.ensures.cases.1) (ap Some (sym c.in-Ok.ensures.cases.0))

pub returns-in-Err : goal.returns-in-Err
returns-in-Err c = rw (c.in_ok-body.ensures, not_utf8 _ c.in-Err.ensures.cases.0) refl
