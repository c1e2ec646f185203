use Rattle.std.proofs.Common.{[], ◌∷◌, sym, ap, ◌∙◌}
use Rattle.particle_models.specs.Trees.{joined}
use Rattle.particle_models.specs.Parts.{trees_from, members_at}
use Rattle.particle_models.proofs.GroupGrowing.{members_at-append, joined-none}
use Rattle.particle_models.proofs.forming.add_form.Goals as goal

pub returns-in_default-clause-trees : goal.returns-in_default-clause-trees
returns-in_default-clause-trees c = rw c.in_default.is (sym (joined-none (members_at (trees_from [] c.args.parts.now) c.args.below.now.items)))

pub returns-in_ok-extend_from_slice-in-Some-pointless_members-clause-trees :
    goal.returns-in_ok-extend_from_slice-in-Some-pointless_members-clause-trees
returns-in_ok-extend_from_slice-in-Some-pointless_members-clause-trees c =
    let trees = trees_from [] c.args.parts.now in
    rw c.in-Some.is (
    ap (members_at trees) c.in_ok-extend_from_slice-in-Some-pointless_members.ensures.items ∙
    (members_at-append trees c.args.below.now.items c.in-Some-pointless_members.members.now ∙ ap (joined (members_at trees c.args.below.now.items)) (sym c.in-Some-pointless_members.ensures.1))
    )

pub returns-in_ok-push-in-None-clause-trees : goal.returns-in_ok-push-in-None-clause-trees
returns-in_ok-push-in-None-clause-trees c =
    let trees = trees_from [] c.args.parts.now in
    rw c.in-Some.is (
    ap (members_at trees) c.in_ok-push-in-None.ensures.items ∙
    (members_at-append trees c.args.below.now.items (c.in-Some.id ∷ []) ∙ ap (joined (members_at trees c.args.below.now.items)) (sym c.in-None.ensures))
    )
