use Rattle.std.proofs.Common.{[], refl, sym, ap, ◌∙◌, subst}
use Rattle.std.specs.Prelude.{OnOk}
use Rattle.elem_governing.specs.declared.pairs.Governing.{Governing}
use Rattle.compiled_schema.specs.declared.compiled.Compiled.{Compiled}
use Rattle.kept_children.specs.from_kept_records.KeptElement.{KeptElement}
use Rattle.kept_children.specs.from_kept_state.Kept.{CanGovern, FitBut, IsBeside, children_at}
use Rattle.kept_children.specs.from_kept_state.KeptState.{KeptState}
use Rattle.kept_children.proofs.from_kept_state.Beside.{kept-there}
use Rattle.kept_children.specs.from_kept_judging.Judged.{IsJudgedAnew}
use Rattle.kept_children.specs.from_kept_above.Climbing.{IsClimbing}
use Rattle.std.proofs.lemmas.Result.{on_ok_weaker}
use Rattle.kept_children.proofs.Climbed.{climbed}
use Rattle.kept_children.proofs.from_kept_below.Identity.{identity-judged, identity-put, identity-then}
use Rattle.kept_changes.proofs.Reread.{all-ok}
use Rattle.kept_changes.proofs.Retexted.{made-own, texts-written, texts-beside, retext-climbs, retext-right}
use Rattle.kept_changes.proofs.own.retext.Goals as goal

pub set_text-requires : goal.set_text-requires
set_text-requires c = made-own c.args.set.now c.args.doc.now c.args.kept.now c.args.node c.requires.beside c.requires.retexted

pub outcome-was-requires : goal.outcome-was-requires
outcome-was-requires c =
    let own = made-own c.args.set.now c.args.doc.now c.args.kept.now c.args.node c.requires.beside c.requires.retexted in
    (record own.0 { text = c.in_ok-text.text }, (c.set_text.ensures.change own.0 own.1).here)

pub pair-pair-requires : goal.pair-pair-requires
pair-pair-requires c =
    let own = made-own c.args.set.now c.args.doc.now c.args.kept.now c.args.node c.requires.beside c.requires.retexted in
    (record own.0 { text = c.in_ok-text.text }, (c.set_text.ensures.change own.0 own.1).here)

pub judge-requires-clause-beside : goal.judge-requires-clause-beside
judge-requires-clause-beside c =
    let own = made-own c.args.set.now c.args.doc.now c.args.kept.now c.args.node c.requires.beside c.requires.retexted in
    texts-beside c.args.set.now c.args.doc.now c.args.kept.now c.args.node c.requires.beside c.requires.retexted own.0 own.1 c.in_ok-text.text c.set_text.new.self (c.set_text.ensures.change own.0 own.1)
    (c.set_text.ensures.booked c.requires.beside.booked)

pub judge-requires-clause-made : goal.judge-requires-clause-made
judge-requires-clause-made c =
    let own = made-own c.args.set.now c.args.doc.now c.args.kept.now c.args.node c.requires.beside c.requires.retexted in
    (record own.0 { text = c.in_ok-text.text }, (c.set_text.ensures.change own.0 own.1).here)

pub judge-requires-clause-governed : goal.judge-requires-clause-governed
judge-requires-clause-governed c =
    let own = made-own c.args.set.now c.args.doc.now c.args.kept.now c.args.node c.requires.beside c.requires.retexted in
    let between = texts-beside c.args.set.now c.args.doc.now c.args.kept.now c.args.node c.requires.beside c.requires.retexted own.0 own.1 c.in_ok-text.text c.set_text.new.self (c.set_text.ensures.change own.0 own.1)
    (c.set_text.ensures.booked c.requires.beside.booked) in
    subst (CanGovern c.args.set.now.parts) (sym c.pair-pair.ensures) (between.governed c.args.node (record own.0 { text = c.in_ok-text.text }, (c.set_text.ensures.change own.0 own.1).here))

pub judge-requires-clause-text : goal.judge-requires-clause-text
judge-requires-clause-text c =
    let own = made-own c.args.set.now c.args.doc.now c.args.kept.now c.args.node c.requires.beside c.requires.retexted in
    ap (λ (x : KeptElement). x.text) (kept-there c.set_text.new.self.slots c.args.node (record own.0 { text = c.in_ok-text.text }) (c.set_text.ensures.change own.0 own.1).here) ∙ c.in_ok-text.ensures

-- what the element came to before is what its parent counts
pub settle_above-requires-clause-climbing : goal.settle_above-requires-clause-climbing
settle_above-requires-clause-climbing c =
    let own = made-own c.args.set.now c.args.doc.now c.args.kept.now c.args.node c.requires.beside c.requires.retexted in
    let mid : KeptState = record c.args.kept.now { records = c.set_text.new.self } in
    let written = texts-written c.args.set.now c.args.doc.now c.args.kept.now c.args.node c.requires.beside c.requires.retexted own.0 own.1 c.in_ok-text.text c.set_text.new.self (c.set_text.ensures.change own.0 own.1) in
    let between = texts-beside c.args.set.now c.args.doc.now c.args.kept.now c.args.node c.requires.beside c.requires.retexted own.0 own.1 c.in_ok-text.text c.set_text.new.self (c.set_text.ensures.change own.0 own.1)
    (c.set_text.ensures.booked c.requires.beside.booked) in
    let anew = subst (λ (pair : Governing). IsJudgedAnew c.args.set.now c.args.doc.now mid c.judge.new.kept c.args.node pair (children_at mid.records.slots c.args.node)) c.pair-pair.ensures c.in_ok-judge.ensures.judged in
    subst (λ (set : Compiled). IsClimbing set c.args.doc.now c.judge.new.kept c.args.node c.outcome-was.result) (sym c.judge.ensures.same)
    (subst (IsClimbing c.args.set.now c.args.doc.now c.judge.new.kept c.args.node) (sym c.outcome-was.ensures)
    (retext-climbs c.args.set.now c.args.doc.now c.args.kept.now c.args.node c.requires.beside c.requires.retexted own.0 own.1 c.in_ok-text.text mid c.judge.new.kept written between anew c.in_ok-judge.ensures.beside))

pub returns-clause-right : goal.returns-clause-right
returns-clause-right c =
    let own = made-own c.args.set.now c.args.doc.now c.args.kept.now c.args.node c.requires.beside c.requires.retexted in
    let mid : KeptState = record c.args.kept.now { records = c.set_text.new.self } in
    let written = texts-written c.args.set.now c.args.doc.now c.args.kept.now c.args.node c.requires.beside c.requires.retexted own.0 own.1 c.in_ok-text.text c.set_text.new.self (c.set_text.ensures.change own.0 own.1) in
    let between = texts-beside c.args.set.now c.args.doc.now c.args.kept.now c.args.node c.requires.beside c.requires.retexted own.0 own.1 c.in_ok-text.text c.set_text.new.self (c.set_text.ensures.change own.0 own.1)
    (c.set_text.ensures.booked c.requires.beside.booked) in
    let anew = subst (λ (pair : Governing). IsJudgedAnew c.args.set.now c.args.doc.now mid c.judge.new.kept c.args.node pair (children_at mid.records.slots c.args.node)) c.pair-pair.ensures c.in_ok-judge.ensures.judged in
    all-ok c.settle_above.result
    (retext-right c.args.set.now c.args.doc.now c.args.kept.now c.args.node c.requires.beside c.requires.retexted own.0 own.1 c.in_ok-text.text mid c.judge.new.kept written between anew c.in_ok-judge.ensures.beside
    c.settle_above.new.kept)
    (subst (λ (set : Compiled). OnOk c.settle_above.result (FitBut set c.args.doc.now c.settle_above.new.kept [])) c.judge.ensures.same c.settle_above.ensures.fit)
    (subst (λ (set : Compiled). OnOk c.settle_above.result (IsBeside set c.args.doc.now c.settle_above.new.kept)) c.judge.ensures.same c.settle_above.ensures.beside) c.settle_above.ensures.rest

pub returns-clause-identity : goal.returns-clause-identity
returns-clause-identity c =
    let old = c.args.kept.now in
    let own = made-own c.args.set.now c.args.doc.now old c.args.node c.requires.beside c.requires.retexted in
    let mid : KeptState = record old { records = c.set_text.new.self } in
    let judged = c.judge.new.kept in
    on_ok_weaker c.settle_above.result (λ rest. identity-then old judged c.settle_above.new.kept
    (identity-then old mid judged (identity-put old mid c.args.node own.0 own.1 (record own.0 { text = c.in_ok-text.text }) refl (c.set_text.ensures.change own.0 own.1))
    (identity-judged c.args.set.now c.args.doc.now mid judged c.args.node c.pair-pair.result (children_at mid.records.slots c.args.node) c.in_ok-judge.ensures.judged))
    (climbed judged c.settle_above.new.kept rest)) c.settle_above.ensures.rest
