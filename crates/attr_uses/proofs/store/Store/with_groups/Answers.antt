use Rattle.std.proofs.Common.{◌+◌, None, Some, map, drop, slice_get, arith, sym, ap, subst, ◌∙◌}
use Rattle.std.specs.Option.{option_and_then}
use Rattle.std.proofs.lemmas.List.{drop_all}
use Rattle.attr_uses.specs.Uses.{group_uses, with_groups, accepted_groups}
use Rattle.attr_uses.specs.inside.Kept.{IsMade, with_next}
use Rattle.attr_uses.proofs.KeptLaws.{keeps-on, answer-at-kept}
use Rattle.attr_uses.proofs.MadeLaws.{answer-here, groups-step, made-some, made-none}
use Rattle.attr_uses.proofs.store.Store.with_groups.Goals as goal

pub with_next-requires-clause-own : goal.with_next-requires-clause-own
with_next-requires-clause-own c =
    let m = c.loop-group.invariant.made c.requires.own.0 c.requires.own.1 in
    (c.args.parts.now, c.args.ids.now, m.0, m.1)

pub with_next-requires-clause-group : goal.with_next-requires-clause-group
with_next-requires-clause-group c =
    let t = c.args.parts.now in
    let ids = c.args.ids.now in
    let g = c.group-item.result in (
      t,
      ids,
      group_uses t g,
      answer-at-kept t ids c.args.self.now c.loop-group.self c.loop-group.invariant.keeps (slice_get c.args.groups.now g) (group_uses t g)
          (answer-here t ids c.args.self.now c.args.groups.now c.args.named.now c.loop-group.group-index g c.loop-group-test.true c.group-item.is c.requires.groups),
    )

pub returns-in-None : goal.returns-in-None
returns-in-None c =
    let t = c.args.parts.now in
    let ids = c.args.ids.now in
    let g = c.group-item.result in
    let i = c.loop-group.group-index in
    let inv = c.loop-group.invariant in
    let new = c.with_next.new.self in
    record {
      made = λ start s.
          (let m = inv.made start s in
          let n = c.in_ok-made.ensures.made t ids m.0 (group_uses t g) m.1
          (answer-at-kept t ids c.args.self.now c.loop-group.self inv.keeps (slice_get c.args.groups.now g) (group_uses t g)
          (answer-here t ids c.args.self.now c.args.groups.now c.args.named.now i g c.loop-group-test.true c.group-item.is c.requires.groups)) in
          let none = made-none t ids new (with_next m.0 (group_uses t g)) (subst (λ o. IsMade t ids new o (with_next m.0 (group_uses t g))) c.in-None.is n.1) in (
            keeps-on c.args.self.now c.loop-group.self new inv.keeps n.0,
            subst (IsMade t ids new None)
                (sym (sym m.2 ∙ (groups-step t ids c.args.self.now c.args.groups.now c.args.named.now i g c.loop-group-test.true c.group-item.is m.0 ∙
                ap (option_and_then (λ both. with_groups both (accepted_groups (map (group_uses t) (drop (i + 1) c.args.named.now))))) none))) tt,
          ));
    }

pub loop-group-preserved : goal.loop-group-preserved
loop-group-preserved c =
    let t = c.args.parts.now in
    let ids = c.args.ids.now in
    let g = c.group-item.result in
    let i = c.loop-group.group-index in
    let inv = c.loop-group.invariant in
    let new = c.with_next.new.self in
    let here = answer-at-kept t ids c.args.self.now c.loop-group.self inv.keeps (slice_get c.args.groups.now g) (group_uses t g)
    (answer-here t ids c.args.self.now c.args.groups.now c.args.named.now i g c.loop-group-test.true c.group-item.is c.requires.groups) in
    let first = inv.made c.requires.own.0 c.requires.own.1 in
    record {
      keeps = keeps-on c.args.self.now c.loop-group.self new inv.keeps (c.in_ok-made.ensures.made t ids first.0 (group_uses t g) first.1 here).0;
      made = λ start s.
          (let m = inv.made start s in
          let n = c.in_ok-made.ensures.made t ids m.0 (group_uses t g) m.1 here in
          let v = made-some t ids new c.in-Some.both (with_next m.0 (group_uses t g)) (subst (λ o. IsMade t ids new o (with_next m.0 (group_uses t g))) c.in-Some.is n.1) in (
            v.0,
            v.2,
            sym (groups-step t ids c.args.self.now c.args.groups.now c.args.named.now i g c.loop-group-test.true c.group-item.is m.0 ∙
                ap (option_and_then (λ both. with_groups both (accepted_groups (map (group_uses t) (drop (i + 1) c.args.named.now))))) v.1) ∙ m.2,
          ));
    }

pub returns : goal.returns
returns c = record {
  made = λ start s.
      (let m = c.loop-group.invariant.made start s in
      let t = c.args.parts.now in (
        c.loop-group.invariant.keeps,
        subst (IsMade t c.args.ids.now c.loop-group.self (Some c.loop-group.table))
            (sym (sym m.2 ∙ ap (λ xs. with_groups m.0 (accepted_groups (map (group_uses t) xs))) (drop_all c.loop-group.group-index c.args.named.now (omega arith)))) m.1,
      ));
}
