-- Tokens of a file of keys, from the calls to the answers.
use Rattle.std.proofs.Common.{◌≡◌, ◌⊎◌, inl, inr, ℕ, List, Result, Ok, Err, sym, subst, ◌∙◌}
use Rattle.tink_io.specs.declared.error.Kind.{Kind}
use Rattle.tink_io.specs.declared.error.Kind.TheVariants.{MacMismatch, OutOfMemory}
use Rattle.tink_io.specs.declared.error.TinkError.{TinkError}
use Rattle.tink_sets.specs.Groups.{group_of}
use Rattle.tink_keysets.specs.Accepting.{entries_of}
use Rattle.tink_mac.specs.MacKinds.{kind_computes, kind_verifies}
use Rattle.tink_mac.specs.Tokens.{IsAnswered, IsSigned, IsSigning, IsVerifying, spelled}
use Rattle.tink_mac.specs.declared.factory.WrappedMac.{WrappedMac}
use Rattle.tink_mac.specs.declared.mac_kind.MacKind.{MacKind}
use Rattle.tink_tokens.specs.TokenSteps.{AreLoadedMacs}
use Rattle.tink_tokens.specs.Tokens.{Macs}
use Rattle.tink_c_bytes.specs.Delivered.{MadeBy}
use Rattle.tink_c_primitives.specs.Primitives.{macs_of_file}
use Rattle.tink_c_primitives.specs.Tokens.{PayloadGives, PayloadRefuses, TokenGives, TokenRefuses}

pub unsigned : (file payload : List ℕ) (e : TinkError) → (e.kind ≡ OutOfMemory) ⊎ (macs_of_file file ≡ Err e.kind) → MadeBy (TokenGives file payload) (TokenRefuses file payload) (Err e)
unsigned file payload e (inl want) = inl want
unsigned file payload e (inr is) = inr (inl is)

pub signed : (file payload : List ℕ) (m : Macs) (w : WrappedMac MacKind) (result : Result (List ℕ) TinkError) → macs_of_file file ≡ Ok m → AreLoadedMacs m w
    → IsSigning kind_computes w.ps.primary payload result → MadeBy (TokenGives file payload) (TokenRefuses file payload) result
signed file payload m w (Ok token) loads macs is =
    record { macs = m; loads = loads; holds = subst (λ p. IsSigned kind_computes p payload token) macs.has.by_id is }
signed file payload m w (Err e) loads macs (inl want) = inl want
signed file payload m w (Err e) loads macs (inr refused) =
    inr (inr (record { macs = m; loads = loads; holds = sym (macs.computed (spelled payload)) ∙ refused }))

pub unverified : (file token : List ℕ) (e : TinkError) → (e.kind ≡ OutOfMemory) ⊎ (macs_of_file file ≡ Err e.kind) → MadeBy (PayloadGives file token) (PayloadRefuses file token) (Err e)
unverified file token e (inl want) = inl want
unverified file token e (inr is) = inr (inl is)

entries_answer : (m : Macs) (w : WrappedMac MacKind) (token payload : List ℕ) (answer : Result (Unit {0}) Kind) → AreLoadedMacs m w
    → IsAnswered kind_verifies (group_of w.ps.entries) token answer payload → IsAnswered kind_verifies (entries_of m.entries) token answer payload
entries_answer m w token payload answer macs a =
    record { mac = a.mac; is = a.is; answered = sym (macs.verified a.mac (spelled payload)) ∙ a.answered }

pub verified : (file token : List ℕ) (m : Macs) (w : WrappedMac MacKind) (result : Result (List ℕ) TinkError) → macs_of_file file ≡ Ok m → AreLoadedMacs m w
    → IsVerifying kind_verifies (group_of w.ps.entries) token result → MadeBy (PayloadGives file token) (PayloadRefuses file token) result
verified file token m w (Ok payload) loads macs is =
    let one = entries_answer m w token payload (Ok tt) macs is in
    record { macs = m; loads = loads; holds = record { mac = one.mac; is = one.is.is; accepted = one.answered } }
verified file token m w (Err e) loads macs (inl want) = inl want
verified file token m w (Err e) loads macs (inr (inl bad)) = inr (inr (record { macs = m; loads = loads; holds = rw bad.0 bad.1 }))
verified file token m w (Err e) loads macs (inr (inr other)) =
    inr (inr (record { macs = m; loads = loads; holds = rw other.0 (other.1.0, entries_answer m w token other.1.0 (Err MacMismatch) macs other.1.1) }))
