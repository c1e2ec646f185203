use Rattle.std.proofs.Common.{sym, subst}
use Rattle.xs_names.specs.Names.{NameTable}
use Rattle.compiled_schema.specs.Usable.{IsUsable}
use Rattle.plain_tree.specs.Found.{HasNames}
use Rattle.edit_session.proofs.Results.{on-ok}
use Rattle.edit_session.proofs.opening.nodes_of.Goals as goal

pub returns-clause-usable : goal.returns-clause-usable
returns-clause-usable c =
    let set = c.args.set.now in
    let f = c.args.tree.forest in
    let has = subst (λ (t : NameTable). HasNames t f) (sym c.in_ok-add_names.ensures.table) (c.document_names_are_found.ensures.found set.names f) in
    let same = c.from_plain.ensures.known c.add_names.ensures.sound has in
    on-ok c.from_plain.result
    (subst (λ (t : NameTable). IsUsable (record set { names = t })) (sym same) (c.usable_with_more_names.ensures.usable set c.add_names.new.names c.requires.usable c.add_names.ensures.grown))
