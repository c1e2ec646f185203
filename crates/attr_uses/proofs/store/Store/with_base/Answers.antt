use Rattle.std.proofs.Common.{Ok, sym, subst}
use Rattle.xs_codes.specs.declared.code.Code.TheVariants.{SrcCt5}
use Rattle.attr_uses.specs.Written.{fault_at}
use Rattle.attr_uses.specs.Uses.{extended_uses}
use Rattle.attr_uses.specs.Tables.{Answers}
use Rattle.attr_uses.proofs.MadeLaws.{answers-or, with-restricted, with-extended}
use Rattle.attr_uses.proofs.store.Store.with_base.Goals as goal

pub returns-then-not-part : goal.returns-then-not-part
returns-then-not-part c = record {
  made = λ t ids a b sa sb.
      (let m = c.in_ok-table.ensures.made t ids a b sa sb in
      (m.0, subst (Answers t ids c.restricted.new.self (Ok c.in_ok-table.table)) (sym (with-restricted t c.args.part.now a b c.if-not-part.true)) m.1));
}

pub returns : goal.returns
returns c = record {
  made = λ t ids a b sa sb.
      (let m = c.in_ok-made.ensures.made t ids a b sa sb in (
        m.0,
        subst (Answers t ids c.extended.new.self c.or_fault.result) (sym (with-extended t c.args.part.now a b c.if-not-part.false))
            (answers-or t ids c.extended.new.self c.in_ok-made.made (extended_uses a b) c.fault_at.result (fault_at c.args.part.now.at SrcCt5) c.or_fault.result c.or_fault.ensures c.fault_at.ensures m.1),
      ));
}
