use Rattle.std.proofs.Common.{◌≡◌, subst}
use Rattle.tink_io.specs.Answering.{Answers}
use Rattle.tink_sets.specs.Entries.{entry_of, standing_prefix}
use Rattle.tink_sets.proofs.BesideFacts.{made, refused}
use Rattle.tink_sets.proofs.StandingFacts.{may, may_not}
use Rattle.tink_sets.proofs.entry.Entry.new.Goals as goal

pub returns-in-Ok : goal.returns-in-Ok
returns-in-Ok g c =
    let key = c.args.key.now in
    let both = made c.args.p c.in-Ok.primitive c.in-Ok.prefix c.standing_prefix.result c.beside.result c.beside.ensures c.in-Ok.is in
    record {
      value = subst (λ p. c.new_entry.result ≡ entry_of p key) both.0 c.new_entry.ensures.value;
      stands = may key c.in-Ok.prefix (subst (λ r. Answers r (standing_prefix key)) both.1 c.standing_prefix.ensures.answer);
      cause = tt;
    }

pub returns-in-Err : goal.returns-in-Err
returns-in-Err g c =
    let key = c.args.key.now in
    let no = refused c.args.p c.in-Err.e c.standing_prefix.result c.beside.result c.beside.ensures c.in-Err.is in
    record {
      value = tt;
      stands = tt;
      cause = may_not key c.in-Err.e (subst (λ r. Answers r (standing_prefix key)) no c.standing_prefix.ensures.answer);
    }
