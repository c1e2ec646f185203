use Rattle.std.proofs.Common.{sym, ◌∙◌}
use Rattle.redefine_faults.proofs.OwnLaws.{type-breaks}
use Rattle.redefine_faults.proofs.own.type_code.Goals as goal

pub returns : goal.returns
returns c = type-breaks c.args.document.now.shaped.now.shapes c.args.document.now.target c.args.name.now c.args.version.now (sym c.derives_from_itself.ensures ∙ c.if-derives_from_itself.false)
