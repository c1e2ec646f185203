use Rattle.std.proofs.Common.{[], sym, ap, ◌∙◌}
use Rattle.particle_models.specs.Pointless.{term_form, unless_pointless}
use Rattle.particle_models.specs.Parts.{trees_from, members_at}
use Rattle.particle_models.specs.Forming.{IsPart}
use Rattle.particle_models.specs.declared.part.Compositor.TheVariants.{Choice}
use Rattle.particle_models.proofs.GroupGrowing.{on_ok, extends_then}
use Rattle.particle_models.proofs.Gathering.{more_terms}
use Rattle.particle_models.proofs.forming.add_term.Goals as goal

pub returns : goal.returns
returns c =
    let old = c.args.parts.now.items in
    let mid = c.add_leaves.new.parts.items in
    let new = c.add_group.new.parts.items in
    on_ok (IsPart mid new (unless_pointless c.args.bounds Choice (members_at (trees_from [] mid) c.in_ok-members.members.items))) (IsPart old new (term_form c.args.bounds c.args.terms.now)) c.add_group.result
    (λ id is. record {
      extends = extends_then old mid new c.in_ok-members.ensures.extends is.extends;
      there = is.there;
      is = is.is ∙ (ap (unless_pointless c.args.bounds Choice) c.in_ok-members.ensures.trees ∙ sym (more_terms c.args.bounds c.args.terms.now c.if-terms-eq1.false));
    }) c.add_group.ensures
