use Rattle.std.proofs.Common.{◌≡◌, ℕ, suc, ◌-◌, ◌*◌, ◌^◌, ◌≤◌, ◌∙◌, ap, arith, cond, inl, inr, refl, subst, Option, Some, None}
use Rattle.std.proofs.lemmas.Bool.Decides.{leb_tells}
use Rattle.std.specs.Prelude.{min}
use Rattle.cipher_stream.specs.ByteStream.{HasRoom}
use Rattle.cipher_stream.specs.Keystream.{as_usize}
use Rattle.cipher_stream.proofs.wrapper.BufferedCoreArrayU8StreamCipher.check_remaining.Goals as goal

-- a number that is a `usize` is that one
usize_is : (r : Option ℕ) (m : ℕ) → Some m ≡ as_usize r → Some m ≡ r
usize_is None m e = e
usize_is (Some n) m e =
    elim (leb_tells (suc n) (2 ^ 64)) [
      | inl h ↦ e ∙ ap (λ t. cond t (Some n) None) h.0
      | inr h ↦ let none : Some m ≡ None = e ∙ ap (λ t. cond t (Some n) None) h.0 in cc
    ]

-- what is past the rest is no more than the blocks that remain have
has_room : {T : Type 0} (size used n past sat m : ℕ) (remaining : T → Option ℕ) (core : T) (v : T × ℕ) → (core, size - used) ≡ v → Some m ≡ as_usize (remaining core)
    → (size - used ≤ n) × (past ≡ n - (size - used)) → sat ≡ min (m * size) (2 ^ 64 - 1) → past ≤ sat → HasRoom size (remaining v.0) v.1 n
has_room size used n past sat m remaining core v view left cut most le =
    let room : HasRoom size (Some m) (size - used) n = omega (arith, cut) in
    subst (λ v. HasRoom size (remaining v.0) v.1 n) view (subst (λ r. HasRoom size r (size - used) n) (usize_is (remaining core) m left) room)

pub returns : goal.returns
returns g c =
    let room = has_room g.row.B c.self.inside.used c.args.data_len c.in-Some-checked_sub.past c.saturating_mul.result c.in-Some.remaining g.T.StreamCipherCore.remaining c.self.inside.core c.args.self.now c.self.view_is c.in-Some.ensures.value c.in-Some-checked_sub.ensures c.saturating_mul.ensures c.if-past-saturating_mul.false in
    record { ok = ((λ _. room), (λ _. refl)) }
