use Rattle.tree_edits.proofs.Outcomes.{err_same}
use Rattle.tree_edits.proofs.apply.change_rows.Goals as goal

pub returns-in_err-set_text-in-SetText-clause-err : goal.returns-in_err-set_text-in-SetText-clause-err
returns-in_err-set_text-in-SetText-clause-err c =
    err_same c.from_residual.result c.in_err-set_text-in-SetText.field-0.0 _ c.from_residual.ensures.1
    (rw c.in-SetText.is (c.in_err-set_text-in-SetText.ensures.err c.args.next_free))

pub returns-in_err-remove_node-in-Remove-clause-err : goal.returns-in_err-remove_node-in-Remove-clause-err
returns-in_err-remove_node-in-Remove-clause-err c =
    err_same c.from_residual-in_err-remove_node-in-Remove.result c.in_err-remove_node-in-Remove.field-0.0 _ c.from_residual-in_err-remove_node-in-Remove.ensures.1
    (rw c.in-Remove.is (c.in_err-remove_node-in-Remove.ensures.err c.args.next_free))

pub returns-in_err-rename_element-in-Rename-clause-err : goal.returns-in_err-rename_element-in-Rename-clause-err
returns-in_err-rename_element-in-Rename-clause-err c =
    err_same c.from_residual-in_err-rename_element-in-Rename.result c.in_err-rename_element-in-Rename.field-0.0 _ c.from_residual-in_err-rename_element-in-Rename.ensures.1
    (rw c.in-Rename.is (c.in_err-rename_element-in-Rename.ensures.err c.args.next_free))

pub returns-in_err-set_attribute-in-SetAttr-clause-err : goal.returns-in_err-set_attribute-in-SetAttr-clause-err
returns-in_err-set_attribute-in-SetAttr-clause-err c =
    err_same c.from_residual-in_err-set_attribute-in-SetAttr.result c.in_err-set_attribute-in-SetAttr.field-0.0 _ c.from_residual-in_err-set_attribute-in-SetAttr.ensures.1
    (rw c.in-SetAttr.is (c.in_err-set_attribute-in-SetAttr.ensures.err c.args.next_free))

pub returns-in_err-unset_attribute-in-UnsetAttr-clause-err : goal.returns-in_err-unset_attribute-in-UnsetAttr-clause-err
returns-in_err-unset_attribute-in-UnsetAttr-clause-err c =
    err_same c.from_residual-in_err-unset_attribute-in-UnsetAttr.result c.in_err-unset_attribute-in-UnsetAttr.field-0.0 _ c.from_residual-in_err-unset_attribute-in-UnsetAttr.ensures.1
    (rw c.in-UnsetAttr.is (c.in_err-unset_attribute-in-UnsetAttr.ensures.err c.args.next_free))
