use Rattle.std.proofs.Common.{map, slice_get, sym, subst}
use Rattle.std.specs.Prelude.{All}
use Rattle.std.proofs.lemmas.List.Elements.{All-weaker}
use Rattle.attr_uses.specs.Written.{own_parts}
use Rattle.attr_uses.specs.Uses.{group_uses, own_uses, with_groups, accepted_groups}
use Rattle.attr_uses.specs.inside.Kept.{IsAnswerAt, IsMade}
use Rattle.attr_uses.proofs.KeptLaws.{keeps-on, answer-at-kept}
use Rattle.attr_uses.proofs.MadeLaws.{answers-or}
use Rattle.attr_uses.proofs.store.Store.with_accepted.Goals as goal

pub with_groups-requires-clause-groups : goal.with_groups-requires-clause-groups
with_groups-requires-clause-groups c =
    let t = c.args.parts.now in
    let ids = c.args.ids.now in
    All-weaker (λ g. IsAnswerAt t ids c.args.self.now (slice_get c.args.groups.now g) (group_uses t g)) (λ g. IsAnswerAt t ids c.own_table.new.self (slice_get c.args.groups.now g) (group_uses t g))
    (λ g is. answer-at-kept t ids c.args.self.now c.own_table.new.self c.in_ok-own.ensures.made.0 (slice_get c.args.groups.now g) (group_uses t g) is) c.groups_in-named.result.now
    (subst (All (λ g. IsAnswerAt t ids c.args.self.now (slice_get c.args.groups.now g) (group_uses t g))) (sym c.groups_in-named.ensures) c.requires.groups)

pub returns : goal.returns
returns c =
    let t = c.args.parts.now in
    let ids = c.args.ids.now in
    let own = own_parts t c.args.holder in
    let new = c.with_groups.new.self in
    let o = c.in_ok-own.ensures.made in
    let m = c.in_ok-made.ensures.made (own_uses c.args.holder own) o.1 in
    let all = subst (λ xs. IsMade t ids new c.in_ok-made.made (with_groups (own_uses c.args.holder own) (accepted_groups (map (group_uses t) xs)))) c.groups_in-named.ensures m.1 in
    record {
      made = (
        keeps-on c.args.self.now c.own_table.new.self new o.0 m.0,
        answers-or t ids new c.in_ok-made.made (with_groups (own_uses c.args.holder own) (accepted_groups (map (group_uses t) own.groups))) c.no_form_in.result own.no_form c.or_fault.result c.or_fault.ensures c.no_form_in.ensures all,
      );
    }
