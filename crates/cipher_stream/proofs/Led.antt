-- What a core leaves behind the closures of this crate.
use Rattle.std.proofs.Common.{◌≡◌, ℕ, Option, List, [], ◌∷◌, get_or, length, ap, subst, sym, ◌∙◌}
use Rattle.cipher.specs.Buffers.{pick}
use Rattle.standards.specs.Lists.{xor_bytes}
use Rattle.cipher.specs.Transcript.{Block}
use Rattle.cipher.proofs.Parts.{length-pick}
use Rattle.cipher_stream.specs.Keystream.{Keystream, next, stream_of, IsMoved, IsFed, IsServed, Spends, applied}
use Rattle.cipher_stream.specs.Contexts.{WritesOne, WritesEach, AppliesOne, AppliesEach}
use Rattle.cipher_stream.specs.declared.cores.contexts.ApplyBlockCtx.{ApplyBlockCtx}
use Rattle.cipher_stream.specs.declared.cores.contexts.ApplyBlocksCtx.{ApplyBlocksCtx}
use Rattle.cipher_stream.specs.declared.cores.contexts.WriteBlockCtx.{WriteBlockCtx}
use Rattle.cipher_stream.specs.declared.cores.contexts.WriteBlocksCtx.{WriteBlocksCtx}
use Rattle.cipher_stream.proofs.Streams.{length-next}
use Rattle.cipher_stream.proofs.Applied.{combined-applied}

one_count : (k : Keystream) (n : ℕ) (b : Block) → next n k ≡ b ∷ [] → n ≡ 1
one_count k n b e = sym (length-next n k) ∙ ap length e

pub one_moved : {B : ℕ} {old new : WriteBlockCtx B} {k k' : Keystream} → IsFed WritesOne old new k k' → IsMoved k 1 k'
one_moved {B} {old} {new} {k} {k'} h = subst (λ n. IsMoved k n k') (one_count k h.count new.block.now h.goes) h.is_moved

pub one_value : {B : ℕ} {old new : WriteBlockCtx B} {k k' : Keystream} → IsFed WritesOne old new k k' → new.block.now ≡ stream_of k 0
one_value {B} {old} {new} {k} {k'} h =
    let e : next 1 k ≡ new.block.now ∷ [] = ap (λ n. next n k) (sym (one_count k h.count new.block.now h.goes)) ∙ h.goes in
    cc

pub each_moved : {B : ℕ} {old new : WriteBlocksCtx B} {k k' : Keystream} → IsFed WritesEach old new k k' → IsMoved k (length old.blocks.now) k'
each_moved {B} {old} {new} {k} {k'} h = subst (λ n. IsMoved k n k') (sym (length-next h.count k) ∙ h.goes.0) h.is_moved

pub each_value : {B : ℕ} {old new : WriteBlocksCtx B} {k k' : Keystream} → IsFed WritesEach old new k k' → new.blocks.now ≡ next (length old.blocks.now) k
each_value {B} {old} {new} {k} {k'} h = h.goes.1 ∙ ap (λ n. next n k) (sym (length-next h.count k) ∙ h.goes.0)

pub fed_one : {B : ℕ} {old new : WriteBlockCtx B} {k k' : Keystream} → new.block.now ≡ stream_of k 0 → IsMoved k 1 k' → IsFed WritesOne old new k k'
fed_one {B} {old} {new} {k} {k'} e m = record { count = 1; goes = ap (λ b. b ∷ []) (sym e); is_moved = m }

pub fed_each : {B : ℕ} {old new : WriteBlocksCtx B} {k k' : Keystream} → new.blocks.now ≡ next (length old.blocks.now) k → IsMoved k (length old.blocks.now) k' → IsFed WritesEach old new k k'
fed_each {B} {old} {new} {k} {k'} e m = record { count = length old.blocks.now; goes = (length-next (length old.blocks.now) k, e); is_moved = m }

-- and so for what is xored
pub applied_one_moved : {B : ℕ} {old new : ApplyBlockCtx B} {k k' : Keystream} → IsFed AppliesOne old new k k' → IsMoved k 1 k'
applied_one_moved {B} {old} {new} {k} {k'} h = subst (λ n. IsMoved k n k') (one_count k h.count h.goes.0 h.goes.1) h.is_moved

pub applied_one_value : {B : ℕ} {old new : ApplyBlockCtx B} {k k' : Keystream} → IsFed AppliesOne old new k k' → new.output.now ≡ xor_bytes (get_or old.input.now 0 old.output.now) (stream_of k 0)
applied_one_value {B} {old} {new} {k} {k'} h =
    let e : next 1 k ≡ h.goes.0 ∷ [] = ap (λ n. next n k) (sym (one_count k h.count h.goes.0 h.goes.1)) ∙ h.goes.1 in
    let same : h.goes.0 ≡ stream_of k 0 = cc in
    h.goes.2 ∙ ap (xor_bytes (get_or old.input.now 0 old.output.now)) same

pub applied_each_moved : {B : ℕ} {old new : ApplyBlocksCtx B} {k k' : Keystream} → IsFed AppliesEach old new k k' → IsMoved k (length old.output.now) k'
applied_each_moved {B} {old} {new} {k} {k'} h = subst (λ n. IsMoved k n k') (sym (length-next h.count k) ∙ h.goes.0) h.is_moved

pub applied_each_value : {B : ℕ} {old new : ApplyBlocksCtx B} {k k' : Keystream} → IsFed AppliesEach old new k k' → new.output.now ≡ applied xor_bytes (stream_of k) (pick old.input.now old.output.now)
applied_each_value {B} {old} {new} {k} {k'} h =
    h.goes.1 ∙ combined-applied xor_bytes (stream_of k) (pick old.input.now old.output.now) h.count (sym (length-next h.count k) ∙ (h.goes.0 ∙ sym (length-pick old.input.now old.output.now)))

pub fed_applied_one : {B : ℕ} {old new : ApplyBlockCtx B} {k k' : Keystream} (key : Block) → key ≡ stream_of k 0 → new.output.now ≡ xor_bytes (get_or old.input.now 0 old.output.now) key → IsMoved k 1 k'
    → IsFed AppliesOne old new k k'
fed_applied_one {B} {old} {new} {k} {k'} key e v m = record { count = 1; goes = (key, ap (λ b. b ∷ []) (sym e), v); is_moved = m }

pub fed_applied_each : {B : ℕ} {old new : ApplyBlocksCtx B} {k k' : Keystream} → new.output.now ≡ applied xor_bytes (stream_of k) (pick old.input.now old.output.now) → IsMoved k (length old.output.now) k'
    → IsFed AppliesEach old new k k'
fed_applied_each {B} {old} {new} {k} {k'} v m =
    let n : ℕ = length old.output.now in
    record {
      count = n;
      goes = (length-next n k, v ∙ sym (combined-applied xor_bytes (stream_of k) (pick old.input.now old.output.now) n (sym (length-pick old.input.now old.output.now))));
      is_moved = m;
    }

-- a core serves a closure as a backend feeds it
pub fed_of : {S : Type 0} {leads : List Block → S → S → Type 0} {old new : S} {k k' : Keystream} {r r' : Option ℕ} → IsServed leads old new k r k' r' → IsFed leads old new k k'
fed_of h = record { count = h.count; goes = h.goes; is_moved = h.is_moved }

pub one_spent : {B : ℕ} {old new : WriteBlockCtx B} {k k' : Keystream} {r r' : Option ℕ} → IsServed WritesOne old new k r k' r' → Spends r 1 r'
one_spent {B} {old} {new} {k} {k'} {r} {r'} h = subst (λ n. Spends r n r') (one_count k h.count new.block.now h.goes) h.spent

pub each_spent : {B : ℕ} {old new : WriteBlocksCtx B} {k k' : Keystream} {r r' : Option ℕ} → IsServed WritesEach old new k r k' r' → Spends r (length old.blocks.now) r'
each_spent {B} {old} {new} {k} {k'} {r} {r'} h = subst (λ n. Spends r n r') (sym (length-next h.count k) ∙ h.goes.0) h.spent

pub applied_one_spent : {B : ℕ} {old new : ApplyBlockCtx B} {k k' : Keystream} {r r' : Option ℕ} → IsServed AppliesOne old new k r k' r' → Spends r 1 r'
applied_one_spent {B} {old} {new} {k} {k'} {r} {r'} h = subst (λ n. Spends r n r') (one_count k h.count h.goes.0 h.goes.1) h.spent

pub applied_each_spent : {B : ℕ} {old new : ApplyBlocksCtx B} {k k' : Keystream} {r r' : Option ℕ} → IsServed AppliesEach old new k r k' r' → Spends r (length old.output.now) r'
applied_each_spent {B} {old} {new} {k} {k'} {r} {r'} h = subst (λ n. Spends r n r') (sym (length-next h.count k) ∙ h.goes.0) h.spent
