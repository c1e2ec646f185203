-- A session's state is stored as its parts.
use Rattle.std.specs.Prelude.{ℕ, List, Option, Bool, refl}
use Rattle.std.specs.Coded.{Coded, code_by, coded×, coded_ℕ, coded_bool, coded_list, coded_option}
use Rattle.xs_names.specs.Names.{NameTable}
use Rattle.xs_names.specs.contracts.names.Names as names
use Rattle.xs_components.specs.Tables.{Tables}
use Rattle.xs_components.specs.contracts.components.Components as components
use Rattle.simple_values.specs.declared.value.Value.{Value}
use Rattle.simple_values.specs.contracts.value.Value as value
use Rattle.assess_records.specs.declared.record.AttrRecord.{AttrRecord}
use Rattle.assess_records.specs.declared.record.ElementRecord.{ElementRecord}
use Rattle.assess_records.specs.contracts.record.AttrRecord as attr
use Rattle.assess_records.specs.contracts.record.ElementRecord as element
use Rattle.elem_governing.specs.declared.pairs.Governing.{Governing}
use Rattle.elem_governing.specs.contracts.pairs.Governing as governing
use Rattle.tree_rows.specs.Forest.{Document}
use Rattle.tree_rows.specs.Code.{document_code}
use Rattle.assessment.specs.Attribution.{SchemaSet}
use Rattle.assessment.specs.Assessment.{Entry}
use Rattle.session_model.specs.State.{State}

abbrev pub set_code : Coded SchemaSet
set_code =
    code_by (NameTable × (Tables × (List (List ℕ) × List ℕ))) (coded× names.the_row.coded (coded× components.the_row.coded (coded× (coded_list (coded_list coded_ℕ)) (coded_list coded_ℕ))))
    (λ s. (s.names, (s.parts, (s.members, s.classes)))) (λ p. record { names = p.0; parts = p.1.0; members = p.1.1.0; classes = p.1.1.1 }) (λ _. refl)

abbrev pub entry_code : Coded Entry
entry_code =
    code_by (ℕ × (Governing × (ElementRecord × (Option Value × (List AttrRecord × List (Option Value))))))
    (coded× coded_ℕ (coded× governing.the_row.coded (coded× element.the_row.coded (coded× (coded_option value.the_row.coded) (coded× (coded_list attr.the_row.coded) (coded_list (coded_option value.the_row.coded)))))))
    (λ e. (e.number, (e.governing, (e.element, (e.value, (e.attrs, e.attr_values))))))
    (λ p. record { number = p.0; governing = p.1.0; element = p.1.1.0; value = p.1.1.1.0; attrs = p.1.1.1.1.0; attr_values = p.1.1.1.1.1 }) (λ _. refl)

abbrev pub state_code : Coded State
state_code =
    code_by (SchemaSet × (Document × (List Entry × (ℕ × Bool)))) (coded× set_code (coded× document_code (coded× (coded_list entry_code) (coded× coded_ℕ coded_bool))))
    (λ s. (s.set, (s.document, (s.found, (s.revision, s.closed)))))
    (λ p. record { set = p.0; document = p.1.0; found = p.1.1.0; revision = p.1.1.1.0; closed = p.1.1.1.1 }) (λ _. refl)
