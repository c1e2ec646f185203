use Rattle.std.proofs.Common.{None, map, length, slice_index_or, refl, sym, ap, ◌∙◌}
use Rattle.compiled_schema.specs.Usable.{set_of}
use Rattle.kept_judging.specs.from_kept_records.Fit.{head_at}
use Rattle.kept_judging.specs.Judged.{given_pair}
use Rattle.child_listing.proofs.Listed.{have-names, few-elements, are-elements, terms-many, is-listing}
use Rattle.child_listing.proofs.listing.list_children.Goals as goal

pub attribute_below-requires-clause-names : goal.attribute_below-requires-clause-names
attribute_below-requires-clause-names g c =
    have-names c.args.set.now c.args.doc.now c.requires.beside.over.0 c.requires.beside.over.1.stands c.args.parent.now.node c.as_slice.result.now (c.as_slice.ensures.value ∙ c.in_ok-elements.ensures)

pub attribute_below-requires-clause-few : goal.attribute_below-requires-clause-few
attribute_below-requires-clause-few g c =
    few-elements c.args.set.now c.args.doc.now c.requires.beside.over.0 c.requires.beside.over.1.stands c.args.parent.now.node c.as_slice.result.now (c.as_slice.ensures.value ∙ c.in_ok-elements.ensures)

pub pairs_below-requires-clause-elements : goal.pairs_below-requires-clause-elements
pairs_below-requires-clause-elements g c =
    are-elements c.args.set.now c.args.doc.now c.requires.beside.over.0 c.requires.beside.over.1.stands c.args.parent.now.node c.as_slice-2.result.now (c.as_slice-2.ensures.value ∙ c.in_ok-elements.ensures)

pub pairs_below-requires-clause-each : goal.pairs_below-requires-clause-each
pairs_below-requires-clause-each g c =
    ap length c.as_slice-3.ensures.value
    ∙ terms-many c.args.set.now c.args.doc.now c.requires.beside.over.0 c.requires.beside.over.1.stands c.args.parent.now.node c.as_slice.result.now (c.as_slice.ensures.value ∙ c.in_ok-elements.ensures)
    c.args.parent.now refl c.args.kept.now c.attribute_below.new.kept c.in_ok-list.ensures.rest c.requires.beside.own c.in_ok-list.list c.in_ok-list.found c.in_ok-list.ensures.listed
    ∙ ap length (c.as_slice.ensures.value ∙ sym c.as_slice-2.ensures.value)

pub returns-clause-listing : goal.returns-clause-listing
returns-clause-listing g c =
    is-listing c.args.set.now c.args.doc.now c.requires.beside.over.0 c.requires.beside.over.1.stands c.args.parent.now.node c.as_slice.result.now (c.as_slice.ensures.value ∙ c.in_ok-elements.ensures)
    c.args.parent.now refl c.args.kept.now c.attribute_below.new.kept c.in_ok-list.ensures.rest c.requires.beside.own c.in_ok-list.list c.in_ok-list.found c.in_ok-list.ensures.listed
    c.in_ok-children.children.items
    (c.in_ok-children.ensures.nodes ∙ ap (map (λ e. e.0)) (c.as_slice-2.ensures.value ∙ sym c.as_slice.ensures.value))
    (λ place child e. c.in_ok-children.ensures.pairs place child e
    ∙ ap (λ ts. given_pair (set_of c.args.set.now) c.args.parent.now.pair (slice_index_or ts place None) (head_at (set_of c.args.set.now) c.args.doc.now child.node)) c.as_slice-3.ensures.value)
    c.in_ok-children.ensures.governed _ refl refl refl
