use Rattle.std.proofs.Common.{◌<◌, length, All, refl, sym, ◌∙◌, subst}
use Rattle.std.proofs.lemmas.Result.{on_ok_weaker}
use Rattle.assess_records.specs.declared.shape.ElementShape.{ElementShape}
use Rattle.assess_records.specs.declared.shape.NamedText.{NamedText}
use Rattle.elem_governing.specs.View.{AreKnown}
use Rattle.compiled_schema.specs.Usable.{set_of}
use Rattle.kept_state.specs.Kept.{CanGovern}
use Rattle.kept_state.proofs.Beside.{beside-written}
use Rattle.kept_judging.proofs.Heads.{scope-known, texts-named}
use Rattle.kept_judging.proofs.Keeping.{both-ok, kept-anew}
use Rattle.kept_judging.proofs.judging.keep_judged.Goals as goal

pub judged-requires-clause-known : goal.judged-requires-clause-known
judged-requires-clause-known c =
    let t = c.args.set.now.names in
    let over = c.requires.beside.over in
    subst (λ (sh : ElementShape). AreKnown t sh.scope) (sym (c.in_ok-shape.ensures (set_of c.args.set.now))) (scope-known t c.args.doc.now over.0 over.1.stands c.args.element.now.node)

pub judged-requires-clause-named : goal.judged-requires-clause-named
judged-requires-clause-named c =
    let t = c.args.set.now.names in
    let over = c.requires.beside.over in
    subst (λ (sh : ElementShape). All (λ (a : NamedText). a.name < length t.names) sh.attrs) (sym (c.in_ok-shape.ensures (set_of c.args.set.now)))
    (texts-named t c.args.doc.now over.0 over.1.stands c.args.element.now.node)

pub returns-clause-judged : goal.returns-clause-judged
returns-clause-judged c =
    let set = c.args.set.now in
    let found = c.in_ok-found.ensures in
    on_ok_weaker c.put.result (λ rewrites. kept-anew set c.args.doc.now c.args.kept.now c.put.new.self c.args.element.now.node c.args.element.now.pair c.args.children _ rewrites found.governing refl
    c.in_ok-identity.ensures found.number found.bearer c.in_ok-text.ensures.chars c.in_ok-shape.shape (c.in_ok-shape.ensures (set_of set)) found.judged) c.put.ensures.change

pub returns-clause-beside : goal.returns-clause-beside
returns-clause-beside c =
    let set = c.args.set.now in
    both-ok c.put.result (λ rewrites booked. beside-written set c.args.doc.now c.args.kept.now c.put.new.self c.args.element.now.node _ rewrites c.requires.beside c.requires.element
    (subst (CanGovern set.parts) (sym c.in_ok-found.ensures.governing) c.requires.governed) (λ none. c.in_ok-identity.ensures ∙ c.requires.beside.plain none c.args.element.now.node)
    c.requires.list booked) c.put.ensures.change c.put.ensures.booked
