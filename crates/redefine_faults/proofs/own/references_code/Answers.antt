use Rattle.std.proofs.Common.{sym, ◌∙◌, refl}
use Rattle.redefine_faults.proofs.OwnLaws.{otherwise-read}
use Rattle.redefine_faults.proofs.own.references_code.Goals as goal

pub returns-then-any_otherwise : goal.returns-then-any_otherwise
returns-then-any_otherwise c =
    rw (sym c.are_several.ensures ∙ c.if-are_several.false, sym (otherwise-read (λ r. r.now) c.args.references.now c.any_otherwise.result c.any_otherwise.ensures) ∙ c.if-any_otherwise.true) refl

pub returns : goal.returns
returns c =
    rw (sym c.are_several.ensures ∙ c.if-are_several.false, sym (otherwise-read (λ r. r.now) c.args.references.now c.any_otherwise.result c.any_otherwise.ensures) ∙ c.if-any_otherwise.false) refl
