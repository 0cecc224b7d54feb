use Rattle.std.proofs.Common.{◌≡◌, ◌∙◌, ℤ, ap, subst, w32}
use Rattle.std.specs.Prelude.{codes}
use Rattle.std.proofs.lemmas.Int.{to_z-of_z}
use Rattle.std.proofs.lemmas.Result.{on_ok_weaker}
use Rattle.serde_json.specs.Data.{Data, Members, number, put, unsigned}
use Rattle.serde_json.specs.View.{members_view}
use Rattle.tink_json.specs.Names.{prefixes, statuses}
use Rattle.tink_json.specs.Written.{enum_value}
use Rattle.tink_json.proofs.messages.put_use.Goals as goal

pub returns : goal.returns
returns c =
    let id : Data = number (unsigned c.args.key_id) in
    let old : Members = members_view c.args.members.now.entries in
    let with_status : Members = members_view c.put_enum.new.members.entries in
    let with_id : Members = members_view c.put.new.map.entries in
    let first : with_status ≡ put (codes "status") (enum_value statuses c.args.status) old =
    subst (λ (n : ℤ). with_status ≡ put (codes "status") (enum_value statuses n) old) (to_z-of_z w32 c.args.status c.ranges.status) c.in_ok-put_enum.ensures in
    let second : with_id ≡ put (codes "keyId") id with_status = subst (λ (v : Data). with_id ≡ put (codes "keyId") v with_status) c.from.ensures c.in_ok-put.ensures.ok in
    on_ok_weaker c.put_enum-2.result
    (λ third.
    subst (λ (n : ℤ). members_view c.put_enum-2.new.members.entries ≡ put (codes "outputPrefixType") (enum_value prefixes n) with_id)
    (to_z-of_z w32 c.args.prefix_type c.ranges.prefix_type) third
    ∙ ap (put (codes "outputPrefixType") (enum_value prefixes c.args.prefix_type)) (second ∙ ap (put (codes "keyId") id) first))
    c.put_enum-2.ensures
