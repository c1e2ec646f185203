use Rattle.std.proofs.Common.{take, take_all, arith, subst, ◌∙◌}
use Rattle.attr_uses.specs.Maps.{IsMapOf}
use Rattle.attr_uses.specs.Written.{places}
use Rattle.attr_uses.specs.Tables.{entry_for}
use Rattle.attr_uses.proofs.EntryLaws.{places-more}
use Rattle.attr_uses.proofs.KeptLaws.{maps-on}
use Rattle.attr_uses.proofs.own.own_uses.Goals as goal

pub loop-place-preserved : goal.loop-place-preserved
loop-place-preserved c =
    let inv = c.loop-place.invariant in
    let holder = c.args.holder in
    let items = c.uses_in-part-items.result.now in
    let i = c.loop-place.place in
    let made = c.in_ok-map.ensures.made (places holder 0 (take i items)) inv.map in
    record {
      deep = made.0.depth ∙ inv.deep;
      keeps = maps-on c.args.maps.now c.loop-place.maps c.put_use.new.maps inv.keeps made.0;
      map = subst (λ us. IsMapOf c.put_use.new.maps c.in_ok-map.map.top (entry_for c.args.parts.now c.args.ids.now us)) (places-more holder items i c.part-item.result c.loop-place-test.true) made.1;
    }

pub returns : goal.returns
returns c =
    let inv = c.loop-place.invariant in
    record {
      made = (
        inv.keeps,
        subst (λ us. IsMapOf c.loop-place.maps c.loop-place.map.top (entry_for c.args.parts.now c.args.ids.now (places c.args.holder 0 us)))
            (take_all c.loop-place.place c.uses_in-part-items.result.now (omega arith) ∙ c.uses_in-part-items.ensures) inv.map,
      );
    }
