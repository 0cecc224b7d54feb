use Rattle.std.proofs.Common.{◌≡◌, ◌∙◌, ap, sym}
use Rattle.gcm.specs.Carries.{bytes_of}
use Rattle.gcm.specs.Multiples.{multiple8}
use Rattle.gcm.proofs.FourBits.{once}
use Rattle.gcm.proofs.large_multiples.LargeMultiples.new.Goals as goal

pub invariant_of-result : goal.invariant_of-result
invariant_of-result c =
    let own : c.entry.result ≡ c.args.m.now = c.entry.ensures ∙ once c.args.m.now in
    record {
      fits = c.entry.type_inv;
      table = λ n h. c.make_large_table.ensures n h ∙ ap (λ v. bytes_of (multiple8 v n)) (sym own);
    }

pub returns : goal.returns
returns c = c.entry.ensures ∙ once c.args.m.now
