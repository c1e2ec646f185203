use Rattle.xs_names.proofs.GrownLaws.{Grown-trans}
use Rattle.std.proofs.Common.{ap, ◌∙◌}
use Rattle.xs_names.specs.Names.{with_space, with_name}
use Rattle.doc_changes.proofs.Known.{space_known, name_known}
use Rattle.doc_changes.proofs.PlantedNames.{expanded_is}
use Rattle.doc_changes.proofs.naming.name_id.Goals as goal

pub returns-in_err-number-clause-grown : goal.returns-in_err-number-clause-grown
returns-in_err-number-clause-grown c = Grown-trans c.args.names.now c.namespace_id.new.self c.intern.new.self c.namespace_id.ensures.grown c.intern.ensures.grown

pub returns-clause-grown : goal.returns-clause-grown
returns-clause-grown c = Grown-trans c.args.names.now c.namespace_id.new.self c.intern.new.self c.namespace_id.ensures.grown c.intern.ensures.grown

pub returns-clause-name : goal.returns-clause-name
returns-clause-name c =
    let name = c.args.name.now in
    let number = rw c.space_text.ensures at c.in_ok-space.ensures.number in
    let absent = rw c.space_text.ensures at c.in_ok-space.ensures.absent in
    let interned = rw c.as_str.ensures at c.in_ok-number.ensures.number in
    expanded_is c.namespace_id.new.self c.intern.new.self c.in_ok-space.space c.in_ok-number.number name c.requires c.intern.ensures.grown number absent interned

pub returns-in_err-space-clause-known : goal.returns-in_err-space-clause-known
returns-in_err-space-clause-known c = λ sound h. c.in_err-space.ensures.err

pub returns-in_err-number-clause-known : goal.returns-in_err-number-clause-known
returns-in_err-number-clause-known c = λ sound h.
    c.in_err-number.ensures.err ∙ space_known c.args.names.now c.namespace_id.new.self c.args.name.now sound h (c.in_ok-space.ensures.table ∙ ap (with_space c.args.names.now) c.space_text.ensures)

pub returns-clause-known : goal.returns-clause-known
returns-clause-known c = λ sound h.
    let t = c.args.names.now in let u = c.namespace_id.new.self in let name = c.args.name.now in
    let number = rw c.space_text.ensures at c.in_ok-space.ensures.number in
    let absent = rw c.space_text.ensures at c.in_ok-space.ensures.absent in
    name_known t u c.intern.new.self c.in_ok-space.space name h (space_known t u name sound h (c.in_ok-space.ensures.table ∙ ap (with_space t) c.space_text.ensures)) number absent
    (c.in_ok-number.ensures.table ∙ ap (with_name u c.in_ok-space.space) c.as_str.ensures)
