use Rattle.std.proofs.Common.{◌≡◌, ◌&&◌, false, sym, refl, ◌∙◌}
use Rattle.particle_models.specs.Pointless.{is_once, stands_in}
use Rattle.particle_models.proofs.Gathering.{leaf_stays, group_stays, group_goes, members_below}
use Rattle.particle_models.proofs.forming.pointless_members.Goals as goal
use Rattle.particle_models.proofs.forming.pointless_members.Goals.{else-is_once-via-then-is_once+else-takes_in, else-is_once-via-else-is_once}

pub returns-then-takes_in : goal.returns-then-takes_in
returns-then-takes_in c = rw c.as_slice.ensures (
  members_below c.args.parts.now c.args.form c.index-parts-form.result c.args.compositor c.requires.ordered c.requires.form c.index-parts-form.is c.in-Group.bounds c.in-Group.inner c.in-Group.members c.in-Group.is,
  group_goes c.args.parts.now c.args.form c.index-parts-form.result c.args.compositor c.requires.ordered c.requires.form c.index-parts-form.is c.in-Group.bounds c.in-Group.inner c.in-Group.members c.in-Group.is
      (sym c.is_once.ensures.once ∙ c.if-is_once.true) (sym c.takes_in.ensures ∙ c.if-takes_in.true),
)

pub returns-in-Leaf : goal.returns-in-Leaf
returns-in-Leaf c =
    leaf_stays c.args.parts.now c.args.form c.index-parts-form.result c.args.compositor c.requires.ordered c.requires.form c.index-parts-form.is c.in-Leaf.field-0 c.in-Leaf.field-1 c.in-Leaf.is

pub returns-else-is_once : goal.returns-else-is_once
returns-else-is_once c =
    group_stays c.args.parts.now c.args.form c.index-parts-form.result c.args.compositor c.requires.ordered c.requires.form c.index-parts-form.is c.in-Group.bounds c.in-Group.inner c.in-Group.members c.in-Group.is
    (elim c.else-is_once.branch [
      | else-is_once-via-then-is_once+else-takes_in w ↦ (let a : is_once c.in-Group.bounds ≡ c.is_once.result = sym c.is_once.ensures.once in
          let t = a ∙ w.if-is_once.true in let f = sym w.takes_in.ensures ∙ w.if-takes_in.false in rw (t, f) refl)
      | else-is_once-via-else-is_once w ↦ (let f = sym c.is_once.ensures.once ∙ w.if-is_once.false in rw f refl)
    ])
