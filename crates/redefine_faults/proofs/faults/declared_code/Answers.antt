use Rattle.std.proofs.Common.{subst, sym, ◌∙◌, true≢false}
use Rattle.redefine_originals.specs.inside.Entries.{child_entry, version_entry}
use Rattle.redefine_faults.specs.inside.Chains.{ComesBack}
use Rattle.redefine_faults.proofs.OwnLaws.{is-lost, is-circle, is-own}
use Rattle.redefine_faults.proofs.faults.declared_code.Goals as goal

pub returns-in-None : goal.returns-in-None
returns-in-None c =
    is-lost c.args.originals.now.sources.available.now c.args.document.now.number c.args.document.now.shaped.now.shapes c.args.document.now.target c.args.declared.kind c.args.declared.name.now (child_entry c.args.child)
    (rw (c.as_str.ensures, c.as_str-name.ensures, c.in-None.is) at c.in_ok-original.ensures.original)

pub returns-then-branch : goal.returns-then-branch
returns-then-branch c =
    is-circle c.args.originals.now.sources.available.now c.args.document.now.number c.args.document.now.shaped.now.shapes c.args.document.now.target c.args.declared.kind c.args.declared.name.now (child_entry c.args.child)
    (version_entry c.in-Some.field-0) (rw (c.as_str.ensures, c.as_str-name.ensures, c.in-Some.is) at c.in_ok-original.ensures.original)
    (subst (ComesBack c.args.originals.now.sources.available.now) c.version_of.ensures (c.in_ok-comes_back.ensures.0 c.if-branch.true))

pub returns : goal.returns
returns c =
    is-own c.args.originals.now.sources.available.now c.args.document.now.number c.args.document.now.shaped.now.shapes c.args.document.now.target c.args.declared.kind c.args.declared.name.now (child_entry c.args.child)
    (version_entry c.in-Some.field-0) (rw (c.as_str.ensures, c.as_str-name.ensures, c.in-Some.is) at c.in_ok-original.ensures.original)
    (λ b. true≢false (sym (c.in_ok-comes_back.ensures.1 (subst (ComesBack c.args.originals.now.sources.available.now) (sym c.version_of.ensures) b)) ∙ c.if-branch.false))
    c.in_ok-own.own (rw c.as_str-name.ensures at c.in_ok-own.ensures)
