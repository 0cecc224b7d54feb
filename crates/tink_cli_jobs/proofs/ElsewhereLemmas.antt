-- The same keyset by other words.
use Rattle.std.proofs.Common.{◌≡◌, ℕ, List, Result, Ok, Err, refl, sym, ◌∙◌, subst, ap}
use Rattle.std.specs.Prelude.{Option, Some, None, option_map}
use Rattle.wire_format.specs.Message.{encoded}
use Rattle.tink_io.specs.declared.error.Kind.{Kind}
use Rattle.tink_io.specs.Answering.{made_of}
use Rattle.tink_proto.specs.Messages.{keyset}
use Rattle.tink_proto.specs.declared.messages.keys.Keyset.{Keyset}
use Rattle.tink_keysets.specs.Encrypted.{chained}
use Rattle.tink_keyset_io.specs.Files.{file_text, filed, room_of, wire_of}
use Rattle.tink_keyset_io.specs.declared.key_files.formats.Format.{Format}
use Rattle.tink_keyset_io.specs.declared.key_files.formats.Format.TheVariants.{Binary, Json}
use Rattle.tink_cli_files.specs.Masters.{MasterKeys}
use Rattle.tink_cli_files.specs.Wrapping.{unwrapped_file, unwrapped_keys}
use Rattle.tink_system.specs.States.{SystemState}
use Rattle.tink_cli_jobs.specs.Elsewhere.{HoldTheSame, IsUnwrappedInto}
use Rattle.tink_cli_jobs.specs.Loading.{fitting, keyset_by, keyset_of, named, unwrapped_keyset, whole_of}
use Rattle.tink_cli_jobs.specs.declared.keys.KeyWords.{KeyWords}

-- the same bytes give the same keyset
pub same_keys : (s : SystemState) (one other : KeyWords) → HoldTheSame s one other → keyset_of s one ≡ keyset_of s other
same_keys s one other h =
    ap (keyset_by s one) h.plain_one ∙ ap (λ (bytes : Option (List ℕ)). chained wire_of (fitting bytes)) h.bytes ∙ sym (ap (keyset_by s other) h.plain_other)

-- a file that has room is this text
text_of_room : (text v : List ℕ) (room : Result (Unit {0}) Kind) → made_of (λ (u : Unit {0}). text) room ≡ Ok v → text ≡ v
text_of_room text v (Ok u) is = cc
text_of_room text v (Err kind) is = absurd (cc)

-- the file of a keyset that a master decrypts
file_of : (m : MasterKeys) (file aad : List ℕ) (format : Format) (ks : Keyset) → unwrapped_keys m file aad ≡ Ok ks → unwrapped_file m file aad format ≡ filed format ks
file_of m file aad format ks is = ap (chained (filed format)) is

-- that of a wrapped file is the keyset in the wire format
wrapped_gives : (s : SystemState) (wrapped plain : KeyWords) (bytes : List ℕ) (h : IsUnwrappedInto s wrapped plain)
    → keyset_of s wrapped ≡ Ok bytes → encoded keyset.write h.keyset ≡ bytes
wrapped_gives s wrapped plain bytes h given =
    let under : keyset_of s wrapped ≡ keyset_by s wrapped (Some h.master) = ap (keyset_by s wrapped) h.under in
    let master = ap (chained (unwrapped_keyset s wrapped)) h.loaded in
    let read = ap (chained (λ (file : List ℕ). unwrapped_file h.keys file wrapped.master_aad.now Binary)) h.read in
    let made = file_of h.keys h.file wrapped.master_aad.now Binary h.keyset h.decrypted in
    text_of_room (file_text Binary h.keyset) bytes (room_of (file_text Binary h.keyset)) (sym (under ∙ master ∙ read ∙ made) ∙ given)

-- that of the file that holds what is unwrapped
plain_gives : (s : SystemState) (wrapped plain : KeyWords) (h : IsUnwrappedInto s wrapped plain) → keyset_of s plain ≡ wire_of h.unwrapped
plain_gives s wrapped plain h = ap (keyset_by s plain) h.alone ∙ ap (chained wire_of) h.holds

-- so both are the same, where a file in JSON is read as the keyset of which it was made
pub unwrapped_gives : (s : SystemState) (wrapped plain : KeyWords) (bytes : List ℕ) (h : IsUnwrappedInto s wrapped plain)
    → (filed Json h.keyset ≡ Ok h.unwrapped → wire_of h.unwrapped ≡ Ok (encoded keyset.write h.keyset))
    → keyset_of s wrapped ≡ Ok bytes → keyset_of s plain ≡ Ok bytes
unwrapped_gives s wrapped plain bytes h again given =
    let made : filed Json h.keyset ≡ Ok h.unwrapped = sym (file_of h.keys h.file wrapped.master_aad.now Json h.keyset h.decrypted) ∙ h.made in
    plain_gives s wrapped plain h ∙ again made ∙ ap (λ (b : List ℕ). Ok b) (wrapped_gives s wrapped plain bytes h given)
