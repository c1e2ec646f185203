use Rattle.std.proofs.Common.{◌∙◌, ap, subst, sym}
use Rattle.assess_records.specs.Numbered as numbered
use Rattle.plain_tree.specs.Found.{HasName, HasAttributes, HasBindings}
use Rattle.elem_governing.proofs.Tags.{head}
use Rattle.elem_governing.proofs.head.read_head.Goals as goal

pub scope_in-requires : goal.scope_in-requires
scope_in-requires c = subst (HasBindings c.args.names.now) (sym c.as_slice.ensures) c.requires.spaces

pub named_texts-requires : goal.named_texts-requires
named_texts-requires c =
    subst (λ t. HasAttributes t c.as_slice-2.result.now) (sym c.scope_in.ensures.same) (subst (HasAttributes c.args.names.now) (sym c.as_slice-2.ensures) c.requires.names)

pub known_name-requires : goal.known_name-requires
known_name-requires c = subst (λ t. HasName t c.args.name.now) (sym (c.named_texts.ensures.same ∙ c.scope_in.ensures.same)) c.requires.own

pub returns-clause-head : goal.returns-clause-head
returns-clause-head c =
    let t = c.args.names.now in
    let row = c.args.row.now in
    head t c.scope_in.new.names c.named_texts.new.names c.args.outer.now c.args.name.now row.bindings row.attributes (record { name = c.in_ok-name.name; attrs = c.in_ok-attrs.attrs; scope = c.in_ok-scope.scope }) c.requires
    c.scope_in.ensures.same (c.named_texts.ensures.same ∙ c.scope_in.ensures.same) c.in_ok-name.ensures.number
    (c.in_ok-attrs.ensures.named ∙ ap (numbered.named_texts c.scope_in.new.names) c.as_slice-2.ensures)
    (c.in_ok-scope.ensures.scope ∙ ap (λ bs. numbered.scope_in t bs c.args.outer.now) c.as_slice.ensures)
