use Rattle.std.proofs.Common.{◌<◌, length, All, refl, sym, ap, ◌∙◌, subst}
use Rattle.std.proofs.lemmas.Result.{on_ok_weaker}
use Rattle.assess_records.specs.declared.shape.ElementShape.{ElementShape}
use Rattle.assess_records.specs.declared.shape.NamedText.{NamedText}
use Rattle.elem_governing.specs.View.{AreKnown}
use Rattle.compiled_schema.specs.Usable.{set_of}
use Rattle.kept_judging.specs.Judged.{shape_with}
use Rattle.kept_judging.proofs.Heads.{scope-known, texts-named}
use Rattle.kept_judging.proofs.Keeping.{both-ok, found-anew, found-beside}
use Rattle.kept_judging.proofs.judging.judge.Goals as goal

pub judged-requires-clause-known : goal.judged-requires-clause-known
judged-requires-clause-known c =
    let t = c.args.set.now.names in
    let over = c.requires.beside.over in
    subst (λ (sh : ElementShape). AreKnown t sh.scope) (sym (c.in_ok-shape.ensures (set_of c.args.set.now))) (scope-known t c.args.doc.now over.0 over.1.stands c.args.element.now.node)

pub judged-requires-clause-named : goal.judged-requires-clause-named
judged-requires-clause-named c =
    let t = c.args.set.now.names in
    let over = c.requires.beside.over in
    subst (λ (sh : ElementShape). All (λ (a : NamedText). a.name < length t.names) sh.attrs) (sym (c.in_ok-shape.ensures (set_of c.args.set.now)))
    (texts-named t c.args.doc.now over.0 over.1.stands c.args.element.now.node)

pub returns-clause-judged : goal.returns-clause-judged
returns-clause-judged c =
    let set = c.args.set.now in
    let ns = c.args.doc.now in
    let old = c.args.kept.now in
    let n = c.args.element.now.node in
    let k = c.requires.made in
    let found = c.in_ok-found.ensures in
    let shape_is = c.in_ok-shape.ensures (set_of set) ∙ ap (shape_with (set_of set) ns old n) c.children-children.ensures in
    on_ok_weaker c.set_found.result (λ writes. found-anew set ns old (record old { records = c.set_found.new.self }) n k.0 k.1 c.in_ok-found.found
    (record { slots = writes k.0 k.1; lists = refl; ids = refl }) c.args.element.now.pair found.governing found.number found.bearer c.requires.text c.in_ok-shape.shape shape_is found.judged) c.set_found.ensures.change

pub returns-clause-beside : goal.returns-clause-beside
returns-clause-beside c =
    let old = c.args.kept.now in
    let k = c.requires.made in
    both-ok c.set_found.result (λ writes booked. found-beside c.args.set.now c.args.doc.now old (record old { records = c.set_found.new.self }) c.args.element.now.node k.0 k.1 c.in_ok-found.found
    (record { slots = writes k.0 k.1; lists = refl; ids = refl }) c.args.element.now.pair c.in_ok-found.ensures.governing c.requires.governed c.requires.beside booked) c.set_found.ensures.change
    c.set_found.ensures.booked
