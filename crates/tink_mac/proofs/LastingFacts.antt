-- Tokens that were signed are verified.
use Rattle.std.proofs.Common.{◌∙◌, ℕ, List, [], Bool, Result, Err, sym}
use Rattle.std.proofs.lemmas.List.Elements.{All-nil}
use Rattle.tink_io.specs.declared.error.Kind.{Kind}
use Rattle.tink_io.specs.declared.error.Kind.TheVariants.{OutOfMemory}
use Rattle.tink_primitives.specs.declared.primitive.Primitive.{Primitive}
use Rattle.keyset_model.specs.Spared.{Spares}
use Rattle.tink_mac.specs.Wrapped.{Computes, Verifies}
use Rattle.tink_mac.proofs.RotationFacts.{macs_outlive, old_macs_verify}
use Rattle.tink_mac.specs.Lasting.{OldTokensVerify, SignedVerify, TokensOutlive}
use Rattle.tink_mac.specs.Tokens.{spelled}

module _ {M K A D HD HE P F S St V : Type 0} (url : M → List ℕ) (supports : M → List ℕ → Bool)
    (builds : M → List ℕ → Result (Primitive K A D HD HE P F S St V) Kind) (computes : Computes P)
    (verifies : Verifies P) where
  pub old_tokens_verify : OldTokensVerify url supports builds computes verifies
  old_tokens_verify managers ks k e primary groups payload token entry there macs signed = record {
    mac = signed.mac;
    is = signed.is;
    accepted =
        macs.2.verified signed.mac (spelled payload)
        ∙ old_macs_verify url supports builds computes verifies managers ks k e macs.0 (spelled payload) signed.mac entry there macs.1 signed.by;
  }

  pub tokens_outlive : TokensOutlive url supports builds computes verifies
  tokens_outlive sound managers makes m commands primary later groups edited payload token spared macs after signed = record {
    mac = signed.mac;
    is = signed.is;
    accepted =
        after.2.verified signed.mac (spelled payload)
        ∙ macs_outlive url supports builds computes verifies sound managers makes m commands macs.0 after.0 (spelled payload) signed.mac spared macs.1 after.1
        (sym (macs.2.computed (spelled payload)) ∙ signed.made);
  }

  -- no command is a list of commands
  pub signed_verify : SignedVerify url supports builds computes verifies
  signed_verify sound managers ks primary groups payload token macs signed =
      tokens_outlive sound managers (λ _ draws. (Err OutOfMemory, draws)) (record { keyset = ks; draws = [] }) [] primary primary groups groups payload token
      (All-nil (Spares ks.primary_key_id)) macs macs signed
