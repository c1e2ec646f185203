use Rattle.std.proofs.Common.{refl}
use Rattle.std.proofs.lemmas.Result.{on_ok_weaker}
use Rattle.kept_above.specs.from_kept_state.KeptState.{KeptState}
use Rattle.kept_keys.proofs.Whole.{top-stays}
use Rattle.kept_keys.proofs.Written.{beside-coded, coded-same, coded-then, elements-written, fit-coded, gathered-coded}
use Rattle.kept_keys.proofs.scopes.settle_scope.Goals as goal

pub returns-then-has_codes-clause-coded : goal.returns-then-has_codes-clause-coded
returns-then-has_codes-clause-coded c = coded-same c.args.kept.now c.args.node c.args.codes (c.if-has_codes.ensures.0 refl)

pub judge_upwards-requires-clause-beside : goal.judge_upwards-requires-clause-beside
judge_upwards-requires-clause-beside c =
    let old = c.args.kept.now in
    let mid : KeptState = record old { records = c.set_identity.new.self } in
    let own = c.requires.made in
    beside-coded c.args.set.now c.args.doc.now old mid c.requires.whole c.args.node own.0 own.1 c.args.codes
    (record { slots = c.set_identity.ensures.change own.0 own.1; lists = refl; ids = refl }) c.requires.some (c.set_identity.ensures.booked c.requires.whole.beside.booked)

pub judge_upwards-requires-clause-top : goal.judge_upwards-requires-clause-top
judge_upwards-requires-clause-top c =
    let old = c.args.kept.now in
    let mid : KeptState = record old { records = c.set_identity.new.self } in
    let own = c.requires.made in
    top-stays c.args.set.now c.args.doc.now old mid
    (elements-written c.args.set.now c.args.doc.now old mid c.requires.whole c.args.node own.0 own.1 c.args.codes
    (record { slots = c.set_identity.ensures.change own.0 own.1; lists = refl; ids = refl }))
    c.requires.whole.top

pub judge_upwards-requires-clause-made : goal.judge_upwards-requires-clause-made
judge_upwards-requires-clause-made c = let own = c.requires.made in (record own.0 { identity = c.args.codes }, (c.set_identity.ensures.change own.0 own.1).here)

pub judge_upwards-requires-clause-fit : goal.judge_upwards-requires-clause-fit
judge_upwards-requires-clause-fit c =
    let old = c.args.kept.now in
    let mid : KeptState = record old { records = c.set_identity.new.self } in
    let own = c.requires.made in
    fit-coded c.args.set.now c.args.doc.now old mid c.requires.whole c.args.node own.0 own.1 c.args.codes
    (record { slots = c.set_identity.ensures.change own.0 own.1; lists = refl; ids = refl })

pub judge_upwards-requires-clause-gathered : goal.judge_upwards-requires-clause-gathered
judge_upwards-requires-clause-gathered c =
    let old = c.args.kept.now in
    let mid : KeptState = record old { records = c.set_identity.new.self } in
    let own = c.requires.made in
    gathered-coded c.args.set.now c.args.doc.now old mid c.requires.whole c.args.node own.0 own.1 c.args.codes
    (record { slots = c.set_identity.ensures.change own.0 own.1; lists = refl; ids = refl })

pub returns-clause-coded : goal.returns-clause-coded
returns-clause-coded c =
    let old = c.args.kept.now in
    let mid : KeptState = record old { records = c.set_identity.new.self } in
    let own = c.requires.made in
    on_ok_weaker c.judge_upwards.result
    (coded-then c.args.set.now c.args.doc.now old mid c.requires.whole c.args.node own.0 own.1 c.args.codes
    (record { slots = c.set_identity.ensures.change own.0 own.1; lists = refl; ids = refl }) c.judge_upwards.new.kept)
    c.judge_upwards.ensures.codes
