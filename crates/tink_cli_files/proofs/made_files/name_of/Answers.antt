use Rattle.std.proofs.Common.{◌≡◌, ℕ, List, Bool, true, false, Err, Ok, ap, refl, sym}
use Rattle.std.specs.Str.{is_utf8, IsUtf8}
use Rattle.std.proofs.lemmas.Str.{IsUtf8-from_is_utf8, is_utf8-from_IsUtf8}
use Rattle.tink_io.specs.declared.error.Kind.{Kind}
use Rattle.tink_io.specs.declared.error.Kind.TheVariants.{UnknownTemplate}
use Rattle.tink_io.specs.declared.error.TinkError.{TinkError}
use Rattle.tink_cli_files.specs.Saved.{name_of}
use Rattle.tink_cli_files.proofs.made_files.name_of.Goals as goal

named : (template name : List ℕ) → name ≡ template → IsUtf8 template → name_of template ≡ Ok name
named template name same utf8 = rw (is_utf8-from_IsUtf8 template utf8) (ap (λ (n : List ℕ). Ok n) (sym same))

not_utf8 : (b : List ℕ) → (IsUtf8 b → ⊥) → is_utf8 b ≡ false
not_utf8 b h = go (is_utf8 b) refl
  where
    go : (t : Bool) → is_utf8 b ≡ t → t ≡ false
    go true e = absurd (h (IsUtf8-from_is_utf8 b e))
    go false e = refl

unnamed : (template : List ℕ) (kind : Kind) → (IsUtf8 template → ⊥) → kind ≡ UnknownTemplate → name_of template ≡ Err kind
unnamed template kind other is = rw (not_utf8 template other) (ap (λ (k : Kind). Err k) (sym is))

pub returns-in-Ok : goal.returns-in-Ok
returns-in-Ok c = named c.args.template.now _ c.in-Ok.ensures.cases.0 c.in-Ok.ensures.cases.1

pub returns-in-Err : goal.returns-in-Err
returns-in-Err c = unnamed c.args.template.now _ c.in-Err.ensures.cases.0 (ap (λ (e : TinkError). e.kind) c.new.ensures)
