use Rattle.std.proofs.Common.{List, subst, arith}
use Rattle.attr_uses.specs.declared.entry.NeededUse.{NeededUse}
use Rattle.attr_assess.specs.inside.Uses.{AreLackingUpTo}
use Rattle.attr_assess.proofs.Steps.{lacking-none, lacking-turn, lacking-end, no-length}
use Rattle.attr_assess.proofs.lacking.Lacking.note_all.Goals as goal

pub uses-init : goal.uses-init
uses-init c = λ uses needed. (
  0,
  omega arith,
  needed,
  lacking-none c.args.schema.now.names.now c.args.schema.now.parts.now uses c.args.given.now c.args.self.now c.requires.missing c.requires.added,
)

pub uses-preserved : goal.uses-preserved
uses-preserved c = λ uses needed.
    let names = c.args.schema.now.names.now in
    let t = c.args.schema.now.parts.now in
    let given = c.args.given.now in
    let one = c.in-Some.one.now in
    let up = subst (λ (xs : List NeededUse). AreLackingUpTo names t uses given xs c.uses.self) c.in-Some.ensures.cases.0 (c.uses.invariant uses needed) in
    lacking-turn names t uses given one c.in-Some.more.now c.uses.self c.note.new.self up (c.in_ok-note.ensures.missing uses up.2.1) (c.in_ok-note.ensures.added uses up.2.1)

pub returns : goal.returns
returns c = record {
  lacking = λ uses needed.
      lacking-end c.args.schema.now.names.now c.args.schema.now.parts.now uses c.args.given.now c.uses.self
      (subst (λ (xs : List NeededUse). AreLackingUpTo c.args.schema.now.names.now c.args.schema.now.parts.now uses c.args.given.now xs c.uses.self)
      (no-length c.uses.left.now c.in_default.ensures.cases) (c.uses.invariant uses needed));
}
