use Rattle.attr_uses.specs.Written.{own_parts}
use Rattle.attr_uses.proofs.MadeLaws.{own-made}
use Rattle.attr_uses.proofs.store.Store.own_table.Goals as goal

pub returns : goal.returns
returns c =
    let u = c.in_ok-uses.ensures.made in
    let p = c.in_ok-prohibited.ensures.made in
    let w = c.in_ok-wildcard.ensures.kept in
    record {
      made = own-made c.args.parts.now c.args.ids.now c.args.holder (own_parts c.args.parts.now c.args.holder) c.args.self.now c.own_uses.new.maps c.own_names.new.maps c.keep.new.self u.0 p.0 w.0
          c.in_ok-uses.uses c.in_ok-prohibited.prohibited c.in_ok-wildcard.wildcard c.prohibited_in-names.result.now c.in_ok-written.written u.1 p.1 w.1 w.2 c.prohibited_in-names.ensures c.in_ok-written.ensures;
    }
