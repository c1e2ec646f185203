use Rattle.std.proofs.Common.{sym, subst}
use Rattle.std.proofs.lemmas.Result.{IfOk-weaker}
use Rattle.attr_uses.specs.Uses.{group_uses, group_step}
use Rattle.attr_uses.specs.Tables.{Answers}
use Rattle.attr_uses.specs.inside.Kept.{Keeps}
use Rattle.attr_uses.proofs.DefLaws.{group_uses_is}
use Rattle.attr_uses.proofs.TypeLaws.{group-answers}
use Rattle.attr_uses.proofs.store.Store.group_table.Goals as goal

pub with_own_groups-requires-clause-groups : goal.with_own_groups-requires-clause-groups
with_own_groups-requires-clause-groups c = group-answers c.args.parts.now c.args.ids.now c.args.self.now c.args.groups.now c.args.number c.requires.ranked c.requires.groups

pub returns : goal.returns
returns c =
    let t = c.args.parts.now in
    let ids = c.args.ids.now in
    let new = c.with_own_groups.new.self in
    record {
      made = IfOk-weaker c.with_own_groups.result (λ answer. Keeps c.args.self.now new × Answers t ids new answer (group_step t (group_uses t) c.args.number))
          (λ answer. Keeps c.args.self.now new × Answers t ids new answer (group_uses t c.args.number))
          (λ answer m. (m.0, subst (Answers t ids new answer) (sym (group_uses_is t c.requires.ranked c.args.number)) m.1)) c.with_own_groups.ensures.made;
    }
