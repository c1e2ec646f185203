use Rattle.std.proofs.Common.{[]}
use Rattle.particle_models.specs.Parts.{trees_from, members_at}
use Rattle.particle_models.specs.Forming.{form_of}
use Rattle.particle_models.proofs.Gathering.{gather_more, gather_done}
use Rattle.particle_models.proofs.forming.gather.Goals as goal

pub loop-member-preserved : goal.loop-member-preserved
loop-member-preserved c =
    let trees = trees_from [] c.args.parts.now in
    record {
      below = c.in_ok-add_form.ensures.below;
      trees = gather_more trees (form_of c.args.parts.now c.args.made.now) c.args.compositor c.args.members.now c.loop-member.member-index (members_at trees c.loop-member.below.items) (members_at trees c.add_form.new.below.items)
          c.loop-member-test.true c.in_ok-add_form.ensures.trees c.loop-member.invariant.trees;
    }

pub returns-clause-trees : goal.returns-clause-trees
returns-clause-trees c =
    let trees = trees_from [] c.args.parts.now in
    gather_done trees (form_of c.args.parts.now c.args.made.now) c.args.compositor c.args.members.now c.loop-member.member-index (members_at trees c.loop-member.below.items) c.loop-member-test.false c.loop-member.invariant.trees
