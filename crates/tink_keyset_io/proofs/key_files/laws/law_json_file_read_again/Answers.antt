use Rattle.std.proofs.Common.{◌≡◌, ℕ, List, Ok, Err, Result, ap, refl, subst, ◌∙◌}
use Rattle.tink_io.specs.Answering.{and_then, made_of, or_refused}
use Rattle.tink_io.specs.declared.error.Kind.{Kind}
use Rattle.tink_io.specs.declared.error.Kind.TheVariants.{BadJson}
use Rattle.tink_json.proofs.MessageLemmas.{keyset-again, keyset-begins}
use Rattle.tink_json.specs.ReadAgain.{IsKeyset}
use Rattle.tink_json.specs.Written.{keyset_value, pretty_text}
use Rattle.tink_keyset_io.specs.Files.{format_of, room_of, wire_by, wire_of}
use Rattle.tink_keyset_io.specs.declared.key_files.formats.Format.TheVariants.{Json}
use Rattle.tink_keyset_io.proofs.key_files.laws.law_json_file_read_again.Goals as goal
use Rattle.tink_proto.specs.Messages.{keyset}
use Rattle.tink_proto.specs.declared.messages.keys.Keyset.{Keyset}
use Rattle.wire_format.specs.Message.{encoded}

-- the text begins with a brace
is_json : (ks : Keyset) → format_of (pretty_text (keyset_value ks)) ≡ Json
is_json ks = ap format_of (keyset-begins ks).1

-- a file that fits is this one, and has room
fits : (text file : List ℕ) (room : Result (Unit {0}) Kind) → made_of (λ (u : Unit {0}). text) room ≡ Ok file → (text ≡ file) × (room ≡ Ok tt)
fits text file (Ok u) is = let same : text ≡ file = cc in (same, refl)
fits text file (Err kind) is = absurd (cc)

again : (ks : Keyset) → IsKeyset ks → room_of (pretty_text (keyset_value ks)) ≡ Ok tt → wire_of (pretty_text (keyset_value ks)) ≡ Ok (encoded keyset.write ks)
again ks h has_room =
    ap (λ r. and_then r (λ (room : Unit {0}). wire_by (format_of (pretty_text (keyset_value ks))) (pretty_text (keyset_value ks)))) has_room
    ∙ ap (λ f. wire_by f (pretty_text (keyset_value ks))) (is_json ks)
    ∙ ap (λ o. made_of (encoded keyset.write) (or_refused BadJson o)) (keyset-again ks h)

pub returns : goal.returns
returns c = λ ks file h made.
    let parts = fits (pretty_text (keyset_value ks)) file (room_of (pretty_text (keyset_value ks))) made in
    subst (λ text. wire_of text ≡ Ok (encoded keyset.write ks)) parts.0 (again ks h parts.1)
