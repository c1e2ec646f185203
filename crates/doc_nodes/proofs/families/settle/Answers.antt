use Rattle.std.proofs.Common.{◌+◌, sym, ap, ◌∙◌, subst, arith}
use Rattle.child_trees.specs.Lists.{IsLive, Updates}
use Rattle.std.specs.Prelude.{Some, None}
use Rattle.doc_nodes.specs.declared.slots.Owner.{Owner}
use Rattle.doc_nodes.specs.Slots.{Writes}
use Rattle.doc_nodes.specs.Families.{new_slots, PutsSlots}
use Rattle.doc_nodes.proofs.Unrolling.{used_lacks, puts_others}
use Rattle.doc_nodes.proofs.families.settle.Goals as goal

pub owner-above-requires : goal.owner-above-requires
owner-above-requires c = let q = c.requires.parent in (q.0, q.1)

pub overflow_add-depth : goal.overflow_add-depth
overflow_add-depth c =
    let q = c.requires.parent in let depth = ap (λ (y : Owner). y.depth) (c.owner-above.ensures q.0 q.1) in let low = q.3 in omega (arith, depth, low)

pub set_list-requires : goal.set_list-requires
set_list-requires c =
    let q = c.requires.parent in (
      q.0,
      puts_others c.args.parent _ c.args.slots.now.slots c.put_slots.new.slots.slots c.args.children.items _ c.args.parent c.put_slots.ensures
          (used_lacks c.args.slots.now.slots c.args.children.items c.args.parent q.0 c.requires.free q.1) ∙ q.1,
      q.2,
    )

pub drop_seq-requires : goal.drop_seq-requires
drop_seq-requires c =
    let q = c.requires.parent in subst (λ (y : Owner). IsLive c.args.lists.now y.list) (sym (c.owner-above.ensures q.0 q.1)) q.4

pub returns : goal.returns
returns c = λ s there.
    let own = c.owner-above.ensures s there in
    record {
      mid = c.put_slots.new.slots.slots;
      puts = subst (λ (y : Owner). PutsSlots c.args.slots.now.slots c.put_slots.new.slots.slots (new_slots c.args.parent (y.depth + 1) c.args.children.items c.args.family.now.hung.items)) own
          (subst (λ hs. PutsSlots c.args.slots.now.slots c.put_slots.new.slots.slots (new_slots c.args.parent (c.owner-above.result.depth + 1) c.args.children.items hs)) c.as_slice.ensures.value c.put_slots.ensures);
      parent = λ t h. subst (λ n. Writes c.put_slots.new.slots.slots c.set_list.new.self.slots c.args.parent (Some (record t { list = c.args.family.now.list; count = n }))) c.requires.count (c.set_list.ensures t h);
      drops = subst (λ (y : Owner). Updates c.args.lists.now c.drop_seq.new.self y.list None) own c.drop_seq.ensures;
    }
