use Rattle.std.proofs.Common.{map, Some, sym, ap, ◌∙◌, subst, refl}
use Rattle.doc_nodes.specs.declared.links.Hung.{Hung}
use Rattle.doc_nodes.specs.Linked.{list_or, entries}
use Rattle.doc_nodes.specs.Nodes.{Distinct}
use Rattle.doc_nodes.specs.Families.{AreEmpty, AreOwn, OwnLists}
use Rattle.doc_nodes.proofs.Hanging.{all_dropped}
use Rattle.doc_nodes.proofs.families.own_lists.Goals as goal

pub returns-in_err-items-clause-keeps : goal.returns-in_err-items-clause-keeps
returns-in_err-items-clause-keeps c = λ q live. refl

pub push_lists-requires : goal.push_lists-requires
push_lists-requires c = c.in_ok-hung.ensures.items

pub returns-in-Ok-clause-ok : goal.returns-in-Ok-clause-ok
returns-in-Ok-clause-ok c =
    let live = c.requires in
    subst (λ l. OwnLists c.args.lists.now c.push_lists.new.lists l c.push_lists.new.hung.items)
    (c.as_slice.ensures.value ∙ c.in_ok-items.ensures (entries c.args.lists.now c.args.list) (live.1 ∙ ap Some (sym (ap list_or live.1)))) c.in-Ok.ensures.ok

pub returns-in-Ok-clause-keeps : goal.returns-in-Ok-clause-keeps
returns-in-Ok-clause-keeps c = c.in-Ok.ensures.keeps

pub drop_lists-requires-clause-own : goal.drop_lists-requires-clause-own
drop_lists-requires-clause-own c = subst (AreEmpty c.push_lists.new.lists) (sym c.as_slice-in-Err.ensures.value) (λ h k. (c.in-Err.ensures.own.own h k).0)

pub drop_lists-requires-clause-apart : goal.drop_lists-requires-clause-apart
drop_lists-requires-clause-apart c = subst (λ hs. Distinct (map (λ (h : Hung). h.list) hs)) (sym c.as_slice-in-Err.ensures.value) c.in-Err.ensures.own.apart

pub returns-clause-keeps : goal.returns-clause-keeps
returns-clause-keeps c =
    all_dropped c.args.lists.now c.push_lists.new.lists c.drop_lists.new.lists c.as_slice-in-Err.result.now (subst (AreOwn c.args.lists.now c.push_lists.new.lists) (sym c.as_slice-in-Err.ensures.value) c.in-Err.ensures.own)
    c.in-Err.ensures.keeps c.drop_lists.ensures
