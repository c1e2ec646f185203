use Rattle.std.proofs.Common.{ℕ, [], ◌∷◌, ◌++◌, take, take_all, arith, sym, ap, subst, ◌∙◌}
use Rattle.std.proofs.lemmas.List.{take_more}
use Rattle.attr_uses.specs.Tables.{IsSetOf}
use Rattle.attr_uses.proofs.KeptLaws.{maps-on}
use Rattle.attr_uses.proofs.MadeLaws.{set-more}
use Rattle.attr_uses.proofs.own.own_names.Goals as goal

pub loop-name-preserved : goal.loop-name-preserved
loop-name-preserved c =
    let inv = c.loop-name.invariant in
    let k = c.in_ok-map.ensures.kept in
    let names = c.args.names.now in
    let i = c.loop-name.name-index in
    record {
      deep = k.depth ∙ inv.deep;
      keeps = maps-on c.args.maps.now c.loop-name.maps c.put.new.self inv.keeps k;
      set = subst (IsSetOf c.put.new.self c.in_ok-map.map.top)
          (ap (λ (x : ℕ). take i names ++ x ∷ []) (c.number.ensures ∙ c.name-item.is) ∙ sym (take_more names i c.name-item.result c.loop-name-test.true))
          (set-more c.loop-name.maps c.put.new.self k c.loop-name.map.top c.in_ok-map.map.top c.number.result (take i names) _ inv.set (c.in_ok-map.ensures.map inv.set.entries inv.set.map));
    }

pub returns : goal.returns
returns c = record {
  made = (c.loop-name.invariant.keeps, subst (IsSetOf c.loop-name.maps c.loop-name.map.top) (take_all c.loop-name.name-index c.args.names.now (omega arith)) c.loop-name.invariant.set);
}
