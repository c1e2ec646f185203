use Rattle.std.proofs.Common.{ap, sym, subst, inl, inr}
use Rattle.std.proofs.lemmas.Result.{IfOk-weaker}
use Rattle.doc_edits.specs.Changes.{CanMake}
use Rattle.doc_edits.specs.declared.change.Change.{Change}
use Rattle.doc_tree.specs.declared.change.Change.TheVariants as numbers
use Rattle.doc_edits.proofs.Inverse.{Undoes, undoes-edit}
use Rattle.doc_edits.proofs.Own.{known-number}
use Rattle.doc_edits.proofs.reading.inverse_of.Goals as goal

pub returns-in-Insert : goal.returns-in-Insert
returns-in-Insert c = λ t u d edit z can prepared.
    let ns = c.args.doc.now in
    let back = numbers.Take c.next_free.result in
    let next = ap numbers.Take c.next_free.ensures.next in
    let undoes : Undoes u ns d c.args.change.now back = elim c.in-Insert.is [
      | inl it ↦ subst (λ (x : Change). Undoes u ns d x back) (sym it.3) next
      | inr it ↦ subst (λ (x : Change). Undoes u ns d x back) (sym it.3) next
    ] in
    undoes-edit t u ns d z edit c.args.change.now back can prepared undoes

pub returns-in-SetAttr : goal.returns-in-SetAttr
returns-in-SetAttr c =
    let ns = c.args.doc.now in
    IfOk-weaker c.attribute_again.result _ _ (λ back again t u d edit z can prepared.
    let undoes : Undoes u ns d c.args.change.now back = elim c.in-SetAttr.is [
      | inl it ↦ subst (λ (x : Change). Undoes u ns d x back) (sym it.1) (again u d z (subst (CanMake u ns d) it.1 prepared.can).2)
      | inr it ↦ subst (λ (x : Change). Undoes u ns d x back) (sym it) (again u d z (known-number u ns d z c.in-SetAttr.node c.in-SetAttr.name (subst (CanMake u ns d) it prepared.can)))
    ] in
    undoes-edit t u ns d z edit c.args.change.now back can prepared undoes) c.attribute_again.ensures
