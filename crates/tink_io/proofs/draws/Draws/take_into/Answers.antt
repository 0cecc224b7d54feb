use Rattle.std.proofs.Common.{◌≡◌, ◌-◌, ◌<◌, ◌≤◌, inr, ℕ, List, Ok, Err, cond, length, drop, sym, ap, ◌∙◌, subst, refl, arith, length-drop}
use Rattle.std.proofs.lemmas.Bool.{false≢true, le-leb, lt-leb}
use Rattle.std.proofs.lemmas.List.{drop-drop}
use Rattle.tink_io.specs.Answering.{takes}
use Rattle.tink_io.specs.declared.error.Kind.TheVariants.{RandomFault}
use Rattle.tink_io.proofs.draws.Draws.take_into.Goals as goal

-- how many are left
left_of : (bytes left : List ℕ) (at len : ℕ) → drop at bytes ≡ left → len ≡ length bytes → len - at ≡ length left
left_of bytes left at len is all = omega (arith, length-drop at bytes, ap length is)

not_both : (i j : ℕ) → i ≤ j → j < i → ⊥
not_both i j all fewer = omega arith

takes_all : (n : ℕ) (draws : List ℕ) → n ≤ length draws → takes n draws ≡ (Ok tt, drop n draws)
takes_all n draws all = ap (λ t. cond t (Ok tt, drop n draws) (Err RandomFault, draws)) (le-leb n (length draws) all)

takes_none : (n : ℕ) (draws : List ℕ) → length draws < n → takes n draws ≡ (Err RandomFault, draws)
takes_none n draws fewer = ap (λ t. cond t (Ok tt, drop n draws) (Err RandomFault, draws)) (lt-leb n (length draws) fewer)

pub returns-then-len-self-clause-random_fault : goal.returns-then-len-self-clause-random_fault
returns-then-len-self-clause-random_fault c =
    let left = left_of _ _ _ _ c.self.view_is (c.len.ensures ∙ c.self.inside.bytes.ok.0) in
    (λ _. subst (λ k. k < length c.args.out.now) left c.if-len-self.true, λ _. refl)

pub returns-then-len-self-clause-replies : goal.returns-then-len-self-clause-replies
returns-then-len-self-clause-replies c =
    let left = left_of _ _ _ _ c.self.view_is (c.len.ensures ∙ c.self.inside.bytes.ok.0) in
    let told = takes_none (length c.args.out.now) c.args.self.now (subst (λ k. k < length c.args.out.now) left c.if-len-self.true) in
    inr (ap (λ t. t.0) told ∙ ap (λ e. Err e.kind) (sym c.new.ensures), sym (ap (λ t. t.1) told))

pub returns-clause-random_fault : goal.returns-clause-random_fault
returns-clause-random_fault c =
    let left = left_of _ _ _ _ c.self.view_is (c.len.ensures ∙ c.self.inside.bytes.ok.0) in
    (λ e. absurd (false≢true e), λ fewer. absurd (not_both _ _ (subst (λ k. length c.args.out.now ≤ k) left c.if-len-self.false) fewer))

pub returns-clause-rest : goal.returns-clause-rest
returns-clause-rest c =
    let n = length c.args.out.now in
    sym (drop-drop n c.self.inside.at c.self.inside.bytes.items) ∙ ap (drop n) c.self.view_is

pub returns-clause-replies : goal.returns-clause-replies
returns-clause-replies c =
    let n = length c.args.out.now in
    let left = left_of _ _ _ _ c.self.view_is (c.len.ensures ∙ c.self.inside.bytes.ok.0) in
    let told = takes_all n c.args.self.now (subst (λ k. n ≤ k) left c.if-len-self.false) in
    (ap (λ t. t.0) told, sym (drop-drop n c.self.inside.at c.self.inside.bytes.items) ∙ ap (drop n) c.self.view_is ∙ sym (ap (λ t. t.1) told))
