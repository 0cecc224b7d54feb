use Rattle.std.proofs.Common.{◌≡◌, ◌<◌, ◌≤◌, ℕ, List, length, ap, ◌∙◌}
use Rattle.std.proofs.lemmas.Bool.{le-ltb, lt-ltb}
use Rattle.standards.specs.Blocks.{bit_padded}
use Rattle.standards.specs.Cmac.{cmac, double_block}
use Rattle.standards.specs.Lists.{xor_bytes}
use Rattle.standards.specs.Siv.{s2v, s2v_data, xor_end}
use Rattle.hash_keys.proofs.s2v.s2v_into.Goals as goal

short : (E : List ℕ → List ℕ) (aad text d out : List ℕ) → d ≡ s2v_data E aad → length text < 16 → out ≡ cmac E (xor_bytes (double_block d) (bit_padded text)) → out ≡ s2v E aad text
unfolding s2v
short E aad text d out d_is below out_is = rw (lt-ltb (length text) 16 below) (out_is ∙ ap (λ x. cmac E (xor_bytes (double_block x) (bit_padded text))) d_is)

long : (E : List ℕ → List ℕ) (aad text d out : List ℕ) → d ≡ s2v_data E aad → 16 ≤ length text → out ≡ cmac E (xor_end text d) → out ≡ s2v E aad text
unfolding s2v
long E aad text d out d_is enough out_is = rw (le-ltb (length text) 16 enough) (out_is ∙ ap (λ x. cmac E (xor_end text x)) d_is)

pub returns-then-text-lt16 : goal.returns-then-text-lt16
returns-then-text-lt16 g c = record {
  written = short (g.C.BlockCipherEncrypt.encrypts c.args.c.now) c.args.aad.now c.args.text.now c.s2v_data-d.result c.cmac_padded.result c.s2v_data-d.ensures c.if-text-lt16.true c.cmac_padded.ensures;
}

pub returns-else-text-lt16 : goal.returns-else-text-lt16
returns-else-text-lt16 g c = record {
  written = long (g.C.BlockCipherEncrypt.encrypts c.args.c.now) c.args.aad.now c.args.text.now c.s2v_data-d.result c.cmac_xor_end.result c.s2v_data-d.ensures c.if-text-lt16.false c.cmac_xor_end.ensures;
}
