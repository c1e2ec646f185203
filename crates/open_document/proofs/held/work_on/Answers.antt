use Rattle.std.proofs.Common.{◌≡◌, false, subst, sym, ap, ◌∙◌, rules}
use Rattle.open_document.specs.Held.{state_of, work_of, IsKept, IsLogged}
use Rattle.open_document.specs.State.{working}
use Rattle.open_document.specs.declared.held.OpenDocument.{OpenDocument}
use Rattle.open_document.proofs.held.work_on.Goals as goal

pub returns-in-Ok-clause-working : goal.returns-in-Ok-clause-working
returns-in-Ok-clause-working c =
    let same : c.in-Ok.document.value ≡ c.args.document = search rules in
    ap work_of c.keep.ensures ∙ ap (λ (d : OpenDocument). working (state_of d)) same

pub returns-in-Ok-clause-kept : goal.returns-in-Ok-clause-kept
returns-in-Ok-clause-kept c =
    let same : c.in-Ok.document.value ≡ c.args.document = search rules in
    subst IsKept (sym c.keep.ensures) (subst (λ (d : OpenDocument). d.session.closed ≡ false → IsLogged d) (sym same) c.requires.logged)
