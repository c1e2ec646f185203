use Rattle.std.proofs.Common.{refl}
use Rattle.xs_names.proofs.GrownLaws.{Grown-refl}
use Rattle.tree_edits.proofs.Inserting.{why_is}
use Rattle.tree_edits.proofs.Outcomes.{ok_map, err_map}
use Rattle.doc_edits.proofs.preparation.prepare.Goals as goal

pub returns-in-Insert-clause-ok : goal.returns-in-Insert-clause-ok
returns-in-Insert-clause-ok c = rw c.in-Insert.is (rw c.as_slice.ensures at c.prepare_insert.ensures.ok)

pub returns-in-Rename-clause-ok : goal.returns-in-Rename-clause-ok
returns-in-Rename-clause-ok c = rw c.in-Rename.is c.prepare_name.ensures.ok

pub returns-in-SetAttr-clause-ok : goal.returns-in-SetAttr-clause-ok
returns-in-SetAttr-clause-ok c = rw c.in-SetAttr.is c.prepare_value.ensures.ok

pub returns-in-AddText-clause-ok : goal.returns-in-AddText-clause-ok
returns-in-AddText-clause-ok c = rw c.in-AddText.is (ok_map c.prepare_text.result _ _ c.prepare_text.ensures.ok (λ change p d z. p c.args.names.now d z))

pub returns-in-AddText-clause-err : goal.returns-in-AddText-clause-err
returns-in-AddText-clause-err c =
    rw c.in-AddText.is (err_map c.prepare_text.result _ _ c.prepare_text.ensures.err (λ e w. record { why = w c.args.names.now; same = λ never. refl }))

pub returns-in-AddText-clause-grown : goal.returns-in-AddText-clause-grown
returns-in-AddText-clause-grown c = Grown-refl c.args.names.now

pub returns-in-AddText-clause-sound : goal.returns-in-AddText-clause-sound
returns-in-AddText-clause-sound c = c.requires.stands.1.table

pub returns-in-SetText-clause-ok : goal.returns-in-SetText-clause-ok
returns-in-SetText-clause-ok c = rw c.in-SetText.is (ok_map c.prepare_chars.result _ _ c.prepare_chars.ensures.ok (λ change p d z. p c.args.names.now d z))

pub returns-in-SetText-clause-err : goal.returns-in-SetText-clause-err
returns-in-SetText-clause-err c =
    rw c.in-SetText.is (err_map c.prepare_chars.result _ _ c.prepare_chars.ensures.err (λ e w. record { why = w c.args.names.now; same = λ never. refl }))

pub returns-in-SetText-clause-grown : goal.returns-in-SetText-clause-grown
returns-in-SetText-clause-grown c = Grown-refl c.args.names.now

pub returns-in-SetText-clause-sound : goal.returns-in-SetText-clause-sound
returns-in-SetText-clause-sound c = c.requires.stands.1.table

pub returns-in-Remove-clause-ok : goal.returns-in-Remove-clause-ok
returns-in-Remove-clause-ok c = rw c.in-Remove.is (ok_map c.prepare_removal.result _ _ c.prepare_removal.ensures.ok (λ change p d z. p c.args.names.now d z))

pub returns-in-Remove-clause-err : goal.returns-in-Remove-clause-err
returns-in-Remove-clause-err c =
    rw c.in-Remove.is (err_map c.prepare_removal.result _ _ c.prepare_removal.ensures.err (λ e w. record { why = λ d z. why_is _ e (w c.args.names.now d z); same = λ never. refl }))

pub returns-in-Remove-clause-grown : goal.returns-in-Remove-clause-grown
returns-in-Remove-clause-grown c = Grown-refl c.args.names.now

pub returns-in-Remove-clause-sound : goal.returns-in-Remove-clause-sound
returns-in-Remove-clause-sound c = c.requires.stands.1.table

pub returns-in-UnsetAttr-clause-ok : goal.returns-in-UnsetAttr-clause-ok
returns-in-UnsetAttr-clause-ok c = rw c.in-UnsetAttr.is c.prepare_unset.ensures.ok

pub returns-in-UnsetAttr-clause-err : goal.returns-in-UnsetAttr-clause-err
returns-in-UnsetAttr-clause-err c =
    rw c.in-UnsetAttr.is (err_map c.prepare_unset.result _ _ c.prepare_unset.ensures.err (λ e w. record { why = w; same = λ never. refl }))

pub returns-in-UnsetAttr-clause-grown : goal.returns-in-UnsetAttr-clause-grown
returns-in-UnsetAttr-clause-grown c = Grown-refl c.args.names.now

pub returns-in-UnsetAttr-clause-sound : goal.returns-in-UnsetAttr-clause-sound
returns-in-UnsetAttr-clause-sound c = c.requires.stands.1.table
