use Rattle.std.proofs.Common.{◌<◌, ◌++◌, length, subst}
use Rattle.std.specs.Prelude.{All}
use Rattle.std.proofs.lemmas.List.Elements.{All-head, All-tail}
use Rattle.identity_constraints.specs.Seen.{KeyAttribute}
use Rattle.identity_constraints.specs.Targets.{attribute_at}
use Rattle.path_walk.specs.Sight.{attributes_of, seen}
use Rattle.path_walk.proofs.Adding.{added_both}
use Rattle.path_walk.proofs.Attributing.{attributes_first, all_next}
use Rattle.path_walk.proofs.attributes.add_attributes.Goals as goal

pub add_attribute-requires-clause-named : goal.add_attribute-requires-clause-named
add_attribute-requires-clause-named c =
    let first = c.in-Some in
    let second = c.in-Some-split_first in
    let l = c.attrs in
    All-head (λ (a : KeyAttribute). a.name < length c.args.set.now.names.now.names) (record { name = first.attr.now.name; value = second.value.now }) (attributes_of first.more.now second.others.now)
    (subst (All (λ (a : KeyAttribute). a.name < length c.args.set.now.names.now.names))
    (attributes_first l.attrs.now first.more.now l.values.now second.others.now first.attr.now second.value.now first.ensures.cases.0 second.ensures.cases.0) l.invariant.named)

pub attrs-preserved : goal.attrs-preserved
attrs-preserved c =
    let first = c.in-Some in
    let second = c.in-Some-split_first in
    let l = c.attrs in
    let names = c.args.set.now.names.now in
    let t = c.args.set.now.parts.now in
    let e = attributes_first l.attrs.now first.more.now l.values.now second.others.now first.attr.now second.value.now first.ensures.cases.0 second.ensures.cases.0 in
    record {
      named = All-tail (λ (a : KeyAttribute). a.name < length names.names) (record { name = first.attr.now.name; value = second.value.now }) (attributes_of first.more.now second.others.now)
          (subst (All (λ (a : KeyAttribute). a.name < length names.names)) e l.invariant.named);
      done = l.invariant.done ++ attribute_at names c.args.field.now c.args.way.now (record { name = first.attr.now.name; value = second.value.now });
      added = added_both t l.invariant.done (attribute_at names c.args.field.now c.args.way.now (record { name = first.attr.now.name; value = second.value.now })) c.args.nodes.now l.nodes c.add_attribute.new.nodes
          l.invariant.added c.in_ok-add_attribute.ensures;
      all = all_next t (attribute_at names c.args.field.now c.args.way.now) (seen c.args.own.now).attributes (attributes_of l.attrs.now l.values.now) (attributes_of first.more.now second.others.now) l.invariant.done
          (record { name = first.attr.now.name; value = second.value.now }) l.invariant.all e;
    }
