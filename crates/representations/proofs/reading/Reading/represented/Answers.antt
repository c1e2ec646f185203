use Rattle.std.proofs.Common.{sym, ◌∙◌}
use Rattle.representations.proofs.NamelessLaws.{HasNoNames, nameless-table, nameless-same}
use Rattle.representations.proofs.reading.Reading.represented.Goals as goal

pub returns-in_ok-nameless-in_default-clause-table : goal.returns-in_ok-nameless-in_default-clause-table
returns-in_ok-nameless-in_default-clause-table c =
    let no : HasNoNames c.args.form.now = record { no_import = c.in_default.not-Import; no_element = c.in_default.not-Element; no_attribute = c.in_default.not-Attribute; no_complextype = c.in_default.not-ComplexType; no_simpletype = c.in_default.not-SimpleType; no_group = c.in_default.not-Group; no_attributegroup = c.in_default.not-AttributeGroup; no_identity = c.in_default.not-Identity; no_derivation = c.in_default.not-Derivation; no_groupreference = c.in_default.not-GroupReference; no_attributegroupreference = c.in_default.not-AttributeGroupReference; no_any = c.in_default.not-Any; no_anyattribute = c.in_default.not-AnyAttribute; no_restriction = c.in_default.not-Restriction; no_itemtype = c.in_default.not-ItemType; no_union = c.in_default.not-Union } in
    sym (nameless-table c.args.self.now.naming c.args.self.now.defaults c.args.names.now c.args.form.now no)

pub returns-in_ok-nameless-in_default-clause-form : goal.returns-in_ok-nameless-in_default-clause-form
returns-in_ok-nameless-in_default-clause-form c =
    let no : HasNoNames c.args.form.now = record { no_import = c.in_default.not-Import; no_element = c.in_default.not-Element; no_attribute = c.in_default.not-Attribute; no_complextype = c.in_default.not-ComplexType; no_simpletype = c.in_default.not-SimpleType; no_group = c.in_default.not-Group; no_attributegroup = c.in_default.not-AttributeGroup; no_identity = c.in_default.not-Identity; no_derivation = c.in_default.not-Derivation; no_groupreference = c.in_default.not-GroupReference; no_attributegroupreference = c.in_default.not-AttributeGroupReference; no_any = c.in_default.not-Any; no_anyattribute = c.in_default.not-AnyAttribute; no_restriction = c.in_default.not-Restriction; no_itemtype = c.in_default.not-ItemType; no_union = c.in_default.not-Union } in
    λ later g. c.in_ok-nameless-in_default.ensures.form ∙ sym (nameless-same c.args.self.now.naming c.args.self.now.defaults later c.args.form.now no)
