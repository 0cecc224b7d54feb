use Rattle.std.proofs.Common.{◌≡◌, ◌<◌, ◌-◌, suc, ℕ, List, ◌++◌, length, replicate, drop, ap, ap₂, ◌∙◌, arith}
use Rattle.std.proofs.Math.ListN.{set}
use Rattle.std.proofs.Math.Seq.{set-append_seam}
use Rattle.std.proofs.lemmas.List.{drop-replicate}
use Rattle.standards.specs.Blocks.{bit_padded}
use Rattle.hash_keys.proofs.cmac.bit_padded.Goals as goal

-- the bit behind the rest, and zeros up to a block
ended : (front rest : List ℕ) → front ≡ rest → length rest < 16 → set (front ++ drop (length rest) (replicate 16 0)) (length rest) 0x80 ≡ bit_padded rest
ended front rest same short =
    let zeros : List ℕ = replicate (15 - length rest) 0 in
    let some : 16 - length rest ≡ suc (15 - length rest) = omega arith in
    ap₂ (λ xs ys. set (xs ++ ys) (length rest) 0x80) same (drop-replicate (length rest) 16 0 ∙ ap (λ n. replicate n 0) some)
    ∙ set-append_seam rest 0 zeros 0x80

pub returns : goal.returns
returns c = ended c.copy_from_slice.new.self c.args.rest.now c.copy_from_slice.ensures.after c.requires
