use Rattle.std.proofs.Common.{◌≡◌, ◌+◌, ◌≤◌, ◌∙◌, get_or, sym, subst, arith}
use Rattle.content_models.specs.Shape.{no_member}
use Rattle.content_models.proofs.Requiring.{IsRequired, AreHad, required_set, required_skip, had_set, had_skip}
use Rattle.content_models.proofs.machine.AllMachine.of.Goals as goal
use Rattle.content_models.proofs.machine.AllMachine.of.Goals.{then-member-gt0, else-member-gt0}

pub loop-place-preserved : goal.loop-place-preserved
loop-place-preserved c = elim c.if-member-gt0.branch [
  | then-member-gt0 w ↦ record {
    required = required_set c.args.members.now c.loop-place.place c.loop-place.required c.if-member-gt0.required c.loop-place.invariant.required w.if-member-gt0.true (w.required-is ∙ w.with_bit-required.ensures);
    has = had_set c.args.inhabited.now c.args.members.now c.loop-place.place c.loop-place.has_words c.if-member-gt0.has_words c.loop-place.invariant.has w.if-member-gt0.true w.has_words-is;
  }
  | else-member-gt0 w ↦ (
      let few : (get_or c.args.members.now c.loop-place.place no_member).least ≤ 0 = w.if-member-gt0.false in
      let z : (get_or c.args.members.now c.loop-place.place no_member).least ≡ 0 = omega arith in record {
        required = subst (IsRequired c.args.members.now (c.loop-place.place + 1)) (sym w.required-is) (required_skip c.args.members.now c.loop-place.place c.loop-place.required c.loop-place.invariant.required z);
        has = subst (AreHad c.args.inhabited.now c.args.members.now (c.loop-place.place + 1)) (sym w.has_words-is) (had_skip c.args.inhabited.now c.args.members.now c.loop-place.place c.loop-place.has_words c.loop-place.invariant.has z);
      })
]
