use Rattle.std.proofs.Common.{◌++◌, Ok, inl, inr, ap, ◌∙◌}
use Rattle.std.proofs.lemmas.List.{append-nil, drop_all}
use Rattle.tink_io.specs.Answering.{made_of}
use Rattle.tink_set_groups.specs.Converting.{converted}
use Rattle.tink_set_groups.proofs.Converted.{stopped, went_on}
use Rattle.tink_set_groups.proofs.converting.convert_list.Goals as goal

pub loop-entry-preserved : goal.loop-entry-preserved
loop-entry-preserved g c =
    went_on g.C.Convert.gives c.args.entries.now c.loop-entry.entry-index c.entry-item.result c.entry-item.result c.loop-entry.out c.loop-entry.invariant
    c.loop-entry-test.true c.entry-item.is c.in-Ok.it c.push.new.self c.in-Ok.ensures.answer c.in_ok-push-in-Ok.ensures.ok

pub returns-in-Err : goal.returns-in-Err
returns-in-Err g c = record {
  answer = elim c.in-Err.ensures.answer [
    | inl memory ↦ inl memory
    | inr refused ↦ inr (stopped g.C.Convert.gives c.args.entries.now c.loop-entry.entry-index c.entry-item.result c.entry-item.result c.loop-entry.out c.loop-entry.invariant
        c.loop-entry-test.true c.entry-item.is c.in-Err.refusal.kind refused)
  ];
}

pub returns : goal.returns
returns g c =
    let out = c.loop-entry.out in
    let none = drop_all c.loop-entry.entry-index c.args.entries.now c.loop-entry-test.false in
    record {
      answer = c.loop-entry.invariant ∙ ap (λ xs. made_of (λ vs. out ++ vs) (converted g.C.Convert.gives xs)) none ∙ ap Ok (append-nil out);
    }
