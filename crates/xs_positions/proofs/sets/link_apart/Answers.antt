use Rattle.std.proofs.Common.{refl, inl, inr}
use Rattle.xs_positions.proofs.Linking.{apart_step}
use Rattle.xs_positions.proofs.Rising.{Contains-none}
use Rattle.xs_positions.proofs.sets.link_apart.Goals as goal

pub loop-p-init : goal.loop-p-init
loop-p-init c = record {
  seen = c.new-linked.ensures c.args.loops.now c.args.to.now;
  so_far = record { count = refl; members = λ i p l. ((λ h. inl h), elim [ inl h ↦ h | inr h ↦ absurd (Contains-none _ h.0) ]) };
}

pub add-requires : goal.add-requires
add-requires c = (c.args.loops.now, c.seek.ensures)

pub loop-p-preserved : goal.loop-p-preserved
loop-p-preserved c =
    let bounds = c.requires.places c.loop-p.p-index 0 c.loop-p-test.true in
    record {
      seen = c.seek.ensures;
      so_far = apart_step c.args.base c.args.from.now c.args.to.now c.args.loops.now c.args.rows.now.items c.loop-p.rows.items c.loop-p.p-index c.index_mut.result.now c.add.new.row c.seek.new.self
          c.requires.loops c.seek.ensures c.loop-p.invariant.so_far c.loop-p-test.true bounds.0 bounds.1 c.index_mut.ensures.value c.in_ok-add.ensures;
    }
