use Rattle.std.proofs.Common.{ℕ, List, ◌-◌, ◌==◌, get_or, ap, ◌∙◌, ◌≤◌, length, arith, refl, sym}
use Rattle.std.proofs.lemmas.List.{take_rest}
use Rattle.std.specs.List.{list_all}
use Rattle.cipher_modes.specs.PaddingLaws.{whole_least}
use Rattle.cipher_modes.proofs.Unpadding.{pkcs7-accepts, pkcs7-refuses, pkcs7-none, some_bytes, cut_before}
use Rattle.cipher_modes.proofs.padding.Pkcs7Padding.unpad.Goals as goal

pub overflow_sub-end : goal.overflow_sub-end
overflow_sub-end c =
    let some = some_bytes c.args.bytes.now (omega arith) in
    let least : c.args.block_size ≤ length c.args.bytes.now = whole_least c.args.block_size (length c.args.bytes.now) some (omega arith) in omega arith

pub returns-clause-told : goal.returns-clause-told
returns-clause-told c =
    let bytes : List ℕ = c.args.bytes.now in
    let count : ℕ = get_or bytes (length bytes - 1) 0 in
    let alike = c.all_are-alike.ensures.value ∙ ap (list_all (λ x. x == count)) (take_rest bytes (length bytes - count)) in
    pkcs7-accepts c.args.block_size bytes count refl (omega arith) (omega arith) (omega arith) (sym alike ∙ c.if-not-alike.false)

pub returns-then-not-alike-clause-told : goal.returns-then-not-alike-clause-told
returns-then-not-alike-clause-told c =
    let bytes : List ℕ = c.args.bytes.now in
    let count : ℕ = get_or bytes (length bytes - 1) 0 in
    let alike = c.all_are-alike.ensures.value ∙ ap (list_all (λ x. x == count)) (take_rest bytes (length bytes - count)) in
    pkcs7-refuses c.args.block_size bytes count refl (omega arith) (omega arith) (omega arith) (sym alike ∙ c.if-not-alike.true)

pub returns-then-is_empty-clause-told : goal.returns-then-is_empty-clause-told
returns-then-is_empty-clause-told c = pkcs7-none c.args.block_size c.args.bytes.now c.requires.0 (sym c.is_empty.ensures ∙ c.if-is_empty.true)

pub slice_bounds-result-end : goal.slice_bounds-result-end
slice_bounds-result-end c = cut_before c.args.bytes.now _
