use Rattle.std.proofs.Common.{List, map, sym, subst}
use Rattle.assess_records.specs.declared.record.AttrRecord.{AttrRecord}
use Rattle.assess_records.specs.declared.record.ElementRecord.{ElementRecord}
use Rattle.report_text.specs.Named.{IsNamed, AreNamed}
use Rattle.session_model.specs.Reports.{IsEntryNamed}
use Rattle.tree_assess.specs.Entries.{entry_of}
use Rattle.session_model.proofs.Found.{found-is}
use Rattle.session_model.proofs.find.find_records.Goals as goal

pub returns-in-Some-clause-element_named : goal.returns-in-Some-clause-element_named
returns-in-Some-clause-element_named c = λ set once named.
    let own = found-is (IsEntryNamed set) c.args.node (entry_of c.in-Some.entry.now) (map entry_of c.args.entries.now) named (sym (c.in-Some.ensures once)) in
    subst (λ (r : ElementRecord). IsNamed set.names set.parts r.name r.of) (sym c.records_of.ensures.element) own.element_named

pub returns-in-Some-clause-attrs_named : goal.returns-in-Some-clause-attrs_named
returns-in-Some-clause-attrs_named c = λ set once named.
    let own = found-is (IsEntryNamed set) c.args.node (entry_of c.in-Some.entry.now) (map entry_of c.args.entries.now) named (sym (c.in-Some.ensures once)) in
    subst (λ (attrs : List AttrRecord). AreNamed set.names set.parts attrs) (sym c.records_of.ensures.attrs) own.attrs_named
