use Rattle.std.proofs.Common.{inl, inr, sym, ◌∙◌}
use Rattle.derive_faults.proofs.CodeLaws.{text-in, no-text, mixed-first}
use Rattle.derive_faults.proofs.elements.content_code.Goals as goal

pub returns-in-SimpleType-clause-first : goal.returns-in-SimpleType-clause-first
returns-in-SimpleType-clause-first c =
    let t = c.args.set.now.parts.now in
    let of = c.args.of.now in
    let own = sym c.requires.content in
    let whole = c.requires.read.contents of c.requires.there (elim c.in-SimpleType.is [ inl e ↦ inl (own ∙ e) | inr e ↦ inr (own ∙ e) ]) in
    text-in t of c.args.constraint.now c.args.content c.in-SimpleType.is c.text_code.result (c.text_code.ensures.first t c.requires.found.given.ranked c.requires.read.judged whole)

pub returns-in-Empty-clause-first : goal.returns-in-Empty-clause-first
returns-in-Empty-clause-first c = no-text c.args.set.now.parts.now c.args.of.now c.args.constraint.now c.args.content c.in-Empty.is

pub returns-in-Mixed-clause-first : goal.returns-in-Mixed-clause-first
returns-in-Mixed-clause-first c = mixed-first c.args.set.now.parts.now c.args.of.now c.args.constraint.now c.args.content c.in-Mixed.is c.filled_code.result c.filled_code.ensures.first
