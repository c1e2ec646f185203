use Rattle.std.proofs.Common.{List, sym, subst}
use Rattle.attr_uses.specs.declared.entry.NeededUse.{NeededUse}
use Rattle.attr_uses.specs.Tables.{AreNeeded}
use Rattle.attr_assess.proofs.lacking.lacking_in.Goals as goal

pub returns : goal.returns
returns c = record {
  lacking = λ ids value s.
      c.in_ok-note_all.ensures.lacking value.uses
      (subst (λ (xs : List NeededUse). AreNeeded c.args.schema.now.parts.now value.uses 0 xs) (sym c.as_slice.ensures.value)
      (c.in_ok-needed.ensures.needed c.args.schema.now.parts.now ids value s));
}
