-- The text of a value, read and written.
use Rattle.std.proofs.Common.{◌≡◌, ◌&&◌, ℕ, List, Bool, true, false, cond, Some, None, refl, ap, ◌∙◌, subst}
use Rattle.std.specs.List.{list_all}
use Rattle.std.specs.Str.{is_utf8, IsUtf8}
use Rattle.std.proofs.lemmas.Str.{IsUtf8-from_is_utf8, is_utf8-from_IsUtf8}
use Rattle.json.specs.Layout.{pretty}
use Rattle.json.specs.Lex.{tokens}
use Rattle.serde_json.specs.Data.{Data}
use Rattle.serde_json.specs.Read.{read}
use Rattle.serde_json.specs.Written.{IsInOrder, has_float}
use Rattle.serde_json.proofs.Texts.{tokens_from_order}
use Rattle.serde_json.specs.Errors.{IsMemory}
use Rattle.serde_json.specs.declared.error.Error.{Error}
use Rattle.tink_json.specs.Messages.{value_of}
use Rattle.tink_json.specs.Refusal.{IsRefusal}
use Rattle.tink_proto.specs.Outcome.{Fails}
use Rattle.tink_proto.specs.declared.error.ProtoError.{ProtoError}
use Rattle.tink_proto.specs.declared.error.ProtoError.TheVariants.{BadMessage, BadJson, OutOfMemory}
use Rattle.tink_json.specs.Whole.{are_whole, is_whole_token}
use Rattle.tink_json.specs.Written.{pretty_text}

pub value_of-found : (text : List ℕ) (d : Data) → IsUtf8 text → read text ≡ Some d → value_of text ≡ Some d
value_of-found text d utf8 found = rw (is_utf8-from_IsUtf8 text utf8) found

pub value_of-none : (text : List ℕ) → (IsUtf8 text → read text ≡ None) → value_of text ≡ None
value_of-none text none = go (is_utf8 text) refl
  where
    go : (b : Bool) → is_utf8 text ≡ b → cond b (read text) None ≡ None
    go true e = none (IsUtf8-from_is_utf8 text e)
    go false e = refl

pub are_whole-utf8 : (text : List ℕ) → IsUtf8 text → list_all is_whole_token (tokens text) ≡ are_whole text
unfolding are_whole
are_whole-utf8 text utf8 = rw (is_utf8-from_IsUtf8 text utf8) refl

pub are_whole-other : (text : List ℕ) → ¬ (IsUtf8 text) → are_whole text ≡ false
unfolding are_whole
are_whole-other text other = go (is_utf8 text) refl
  where
    go : (b : Bool) → is_utf8 text ≡ b → (b && list_all is_whole_token (tokens text)) ≡ false
    go true e = absurd (other (IsUtf8-from_is_utf8 text e))
    go false e = refl

-- the text that has a value in order, in the pretty layout
pub pretty_text-of : (text : List ℕ) (d e : Data) → d ≡ e → has_float e ≡ false → text ≡ pretty (tokens text) → IsInOrder text d → text ≡ pretty_text e
pretty_text-of text d e same plain layout order =
    layout ∙ ap pretty (tokens_from_order text e (subst (IsInOrder text) same order) plain)

-- why a text is no value
pub fails-of : (e : Error) (refusal : ProtoError) (text : List ℕ) → IsRefusal e refusal → (¬ IsMemory e → IsUtf8 text → read text ≡ None) → Fails BadJson refusal (value_of text)
fails-of e BadMessage text is none = absurd is
fails-of e BadJson text is none = value_of-none text (none is)
fails-of e OutOfMemory text is none = tt
