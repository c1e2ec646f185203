use Rattle.std.proofs.Common.{◌≡◌, ap}
use Rattle.attr_assess.specs.Governing.{uses_for}
use Rattle.attr_assess.proofs.Steps.{lacking-useless, lacking-put}
use Rattle.attr_assess.proofs.lacking.lacking_attrs.Goals as goal

pub lacking_in-requires-clause-table : goal.lacking_in-requires-clause-table
lacking_in-requires-clause-table c =
    (c.requires.set.0, uses_for c.args.schema.now.parts.now c.args.of, c.in-Some.ensures.table c.requires.set.0 c.requires.set.1)

pub returns-in-None : goal.returns-in-None
returns-in-None c = record {
  lacking = lacking-useless c.args.schema.now.names.now c.args.schema.now.parts.now (uses_for c.args.schema.now.parts.now c.args.of).uses c.args.given.now c.new.result
      (ap (λ v. v.uses) (c.in-None.ensures.table c.requires.set.0 c.requires.set.1)) c.new.ensures.missing c.new.ensures.added;
}

pub returns-in_ok-sort_by_name-in-Some : goal.returns-in_ok-sort_by_name-in-Some
returns-in_ok-sort_by_name-in-Some c =
    let lacking = c.in_ok-missing-in-Some.field-0 in
    let held : c.into_vec-uses.result.items ≡ lacking.added = cc in
    record {
      lacking = lacking-put c.args.schema.now.names.now c.args.schema.now.parts.now (uses_for c.args.schema.now.parts.now c.args.of).uses c.args.given.now
          lacking.missing lacking.added c.into_vec-uses.result.items c.sort_by_name.new.added.items c.from_vec.result
          (c.in_ok-missing-in-Some.ensures.lacking c.requires.set.0 (uses_for c.args.schema.now.parts.now c.args.of) (c.in-Some.ensures.table c.requires.set.0 c.requires.set.1))
          held c.sort_by_name.ensures.same c.in_ok-sort_by_name-in-Some.ensures.sorted c.from_vec.ensures;
    }
